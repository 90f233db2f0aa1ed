use Rattle.mono_theory.proofs.RowsStay.{rows_seen}
use Rattle.mono_theory.proofs.rows_side.RowsSideSide.assign.Goals as goal

pub returns-clause-right : goal.returns-clause-right
returns-clause-right g c = rows_seen c.requires.right
