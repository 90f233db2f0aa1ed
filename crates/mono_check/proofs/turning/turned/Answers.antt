use Rattle.std.proofs.Common.{arith}
use Rattle.std.proofs.lemmas.Grind.{common_steps}
use Rattle.mono_check.proofs.turning.turned.Goals as goal

pub returns-in-Chain : goal.returns-in-Chain
returns-in-Chain c = grind (arith, common_steps)
