use Rattle.std.proofs.Common.{arith}
use Rattle.std.proofs.lemmas.Grind.{common_steps}
use Rattle.mono_base.proofs.buckets.copy_behind.Goals as goal

pub returns-clause-behind : goal.returns-clause-behind
returns-clause-behind g c = grind (arith, common_steps)
