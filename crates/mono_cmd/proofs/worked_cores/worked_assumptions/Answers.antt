use Rattle.std.proofs.Common.{refl, arith, ◌∷◌, []}
use Rattle.std.specs.Prelude.{pos}
use Rattle.std.proofs.lemmas.List.Elements.{All-cons, All-nil}
use Rattle.mono_base.specs.declared.limits.TheConstants.{MAX_VARS}
use Rattle.mono_base.specs.Literal.{IsLitWithin}
use Rattle.mono_steps.specs.WorkedLemmas.{minus}
use Rattle.mono_cmd.proofs.worked_cores.worked_assumptions.Goals as goal

pub returns-clause-most : goal.returns-clause-most
returns-clause-most c = λ words is. rw is refl

pub returns-clause-one_more : goal.returns-clause-one_more
returns-clause-one_more c = λ words is. rw is refl

pub returns-clause-literals : goal.returns-clause-literals
returns-clause-literals c = All-cons (IsLitWithin MAX_VARS) (pos 1000000) (minus 1 ∷ []) (omega arith, omega arith) (All-cons (IsLitWithin MAX_VARS) (minus 1) [] (omega arith, omega arith) (All-nil (IsLitWithin MAX_VARS)))

pub returns-clause-zero : goal.returns-clause-zero
returns-clause-zero c = λ h. let low = (h 1 (pos 0) (omega arith)).0 in omega (arith, low)

pub returns-clause-beyond : goal.returns-clause-beyond
returns-clause-beyond c = λ h. let high = (h 0 (pos 0) (omega arith)).1 in omega (arith, high)
