use Rattle.std.proofs.Common.{rules}
use Rattle.mono_paths.proofs.path.is_path.Goals as goal

pub returns-in-Weight : goal.returns-in-Weight
returns-in-Weight c = search rules
