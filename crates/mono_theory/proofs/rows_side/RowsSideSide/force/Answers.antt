use Rattle.std.proofs.Common.{arith}
use Rattle.std.proofs.lemmas.Grind.{common_steps}
use Rattle.mono_theory.proofs.rows_side.RowsSideSide.force.Goals as goal

pub first_owed-requires-clause-rest : goal.first_owed-requires-clause-rest
first_owed-requires-clause-rest g c = grind (arith, common_steps)
