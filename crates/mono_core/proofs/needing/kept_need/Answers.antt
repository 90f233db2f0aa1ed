use Rattle.std.proofs.Common.{arith}
use Rattle.std.proofs.lemmas.Grind.{common_steps}
use Rattle.mono_core.proofs.needing.kept_need.Goals as goal

pub returns-in_ok-others-in-Model : goal.returns-in_ok-others-in-Model
returns-in_ok-others-in-Model c = grind (arith, common_steps)
