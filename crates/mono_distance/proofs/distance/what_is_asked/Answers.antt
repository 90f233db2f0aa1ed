use Rattle.std.proofs.Common.{rules}
use Rattle.mono_distance.proofs.distance.what_is_asked.Goals as goal

pub returns-in-Steps : goal.returns-in-Steps
returns-in-Steps c = search rules
