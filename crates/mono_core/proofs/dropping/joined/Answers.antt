use Rattle.std.proofs.Common.{rules}
use Rattle.mono_core.proofs.dropping.joined.Goals as goal

pub returns : goal.returns
returns c = search rules
