use Rattle.std.proofs.Common.{rules}
use Rattle.mono_best.proofs.measuring.by_flow.Goals as goal

pub returns : goal.returns
returns c = search rules
