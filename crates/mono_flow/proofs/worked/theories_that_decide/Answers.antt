use Rattle.std.proofs.Common.{refl, arith}
use Rattle.mono_theory.specs.declared.stage.Stage.TheVariants as stage
use Rattle.mono_flow.proofs.WorkedRows.{one_stage}
use Rattle.mono_flow.proofs.worked.theories_that_decide.Goals as goal

pub returns-clause-none_waits : goal.returns-clause-none_waits
returns-clause-none_waits c = record { surely = one_stage (stage.Shows 0) (λ e. cc); possibly = one_stage stage.Stands (λ e. cc) }

pub returns-clause-surely_waits : goal.returns-clause-surely_waits
returns-clause-surely_waits c = λ h. h.surely 0 stage.Stands (omega arith) refl

pub returns-clause-possibly_waits : goal.returns-clause-possibly_waits
returns-clause-possibly_waits c = λ h. h.possibly 0 stage.Stands (omega arith) refl
