use Rattle.std.proofs.Common.{arith}
use Rattle.std.proofs.lemmas.Grind.{common_steps}
use Rattle.mono_paths.proofs.cut.stays.Goals as goal

pub returns-then-not-inside-edge : goal.returns-then-not-inside-edge
returns-then-not-inside-edge c = grind (arith, common_steps)
