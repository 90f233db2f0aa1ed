use Rattle.std.proofs.Common.{arith}
use Rattle.mono_search_rows.proofs.worked_last_steps.rows_that_go_back_no_step.Goals as goal

pub returns : goal.returns
returns c = λ g parts kept old new row told. row.told g parts kept (omega arith) told
