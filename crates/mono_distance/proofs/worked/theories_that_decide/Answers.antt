use Rattle.std.proofs.Common.{refl, arith}
use Rattle.mono_theory.specs.declared.stage.Stage.TheVariants as stage
use Rattle.mono_theory.proofs.WorkedRows.{one_stage, two_rows}
use Rattle.mono_distance.proofs.worked.theories_that_decide.Goals as goal

pub returns-clause-rows : goal.returns-clause-rows
returns-clause-rows c = record { surely = record { looked = refl; stand = tt }; possibly = one_stage stage.Stands (λ e. cc) }

pub returns-clause-searches : goal.returns-clause-searches
returns-clause-searches c = record { surely = one_stage stage.Stands (λ e. cc); possibly = one_stage (stage.Shows 1) (λ e. cc) }

pub returns-clause-possibly_rows : goal.returns-clause-possibly_rows
returns-clause-possibly_rows c = record { surely = one_stage stage.Stands (λ e. cc); possibly = record { looked = refl; stand = record { each = two_rows _ _ refl refl } } }

pub returns-clause-rows_behind : goal.returns-clause-rows_behind
returns-clause-rows_behind c = λ h. let e = h.surely.looked in omega (arith, e)

pub returns-clause-surely_waits : goal.returns-clause-surely_waits
returns-clause-surely_waits c = λ h. h.surely 0 stage.Stands (omega arith) refl

pub returns-clause-possibly_behind : goal.returns-clause-possibly_behind
returns-clause-possibly_behind c = λ h. let e = h.possibly.looked in omega (arith, e)

pub returns-clause-an_edge_went : goal.returns-clause-an_edge_went
returns-clause-an_edge_went c = λ h. let e = h.possibly.stand.each 1 (omega arith) in cc

pub returns-clause-not_searched : goal.returns-clause-not_searched
returns-clause-not_searched c = λ h. let e = h.possibly.stand.each 1 (omega arith) in cc

pub returns-clause-possibly_waits : goal.returns-clause-possibly_waits
returns-clause-possibly_waits c = λ h. h.possibly 0 stage.Stands (omega arith) refl
