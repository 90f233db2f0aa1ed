use Rattle.std.proofs.Common.{arith}
use Rattle.std.proofs.lemmas.Grind.{common_steps}
use Rattle.mono_base.proofs.lit_set.erase.Goals as goal

pub loop-lit-preserved : goal.loop-lit-preserved
loop-lit-preserved c = grind (arith, common_steps)
