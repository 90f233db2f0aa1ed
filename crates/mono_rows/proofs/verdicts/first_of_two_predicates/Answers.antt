use Rattle.std.proofs.Common.{[], ◌∷◌, true, false, refl, arith, inl, inr}
use Rattle.std.proofs.lemmas.List.Elements.{All-nil}
use Rattle.mono_base.specs.Literal.{value_in}
use Rattle.mono_check.specs.Atoms.{IsRight}
use Rattle.mono_rows.specs.Cyclic.{reaches_1, two_predicates}
use Rattle.mono_rows.proofs.VerdictRows.{apart, both_right, cyclic, not_the_first, second_wrong}
use Rattle.mono_rows.proofs.verdicts.first_of_two_predicates.Goals as goal

pub returns-clause-both_right : goal.returns-clause-both_right
returns-clause-both_right c = both_right

pub returns-clause-second_wrong : goal.returns-clause-second_wrong
returns-clause-second_wrong c = (refl, second_wrong)

pub returns-clause-not_the_first : goal.returns-clause-not_the_first
returns-clause-not_the_first c = λ v. not_the_first v.1

pub returns-clause-not_0 : goal.returns-clause-not_0
returns-clause-not_0 c = λ v. let low = v.1.low in omega (arith, low)

pub returns-clause-first_wrong : goal.returns-clause-first_wrong
returns-clause-first_wrong c =
    (refl, record { low = omega arith; high = omega arith; before = All-nil (IsRight two_predicates (value_in (true ∷ true ∷ false ∷ false ∷ []))); wrong = inr (refl, (0 ∷ [], refl)) })

pub returns-clause-not_the_second : goal.returns-clause-not_the_second
returns-clause-not_the_second c = λ v. elim v.1.wrong [ inl w ↦ (let e = w.0 in cc) | inr w ↦ cyclic w.1 ]

pub returns-clause-both_wrong : goal.returns-clause-both_wrong
returns-clause-both_wrong c =
    (refl, record { low = omega arith; high = omega arith; before = All-nil (IsRight two_predicates (value_in (true ∷ true ∷ false ∷ true ∷ []))); wrong = inr (refl, (0 ∷ [], refl)) })

pub returns-clause-not_the_later : goal.returns-clause-not_the_later
returns-clause-not_the_later c = λ v. let e = (v.1.before 0 reaches_1 (omega arith)).1 (0 ∷ [], refl) in cc

pub returns-clause-first_true_and_fails : goal.returns-clause-first_true_and_fails
returns-clause-first_true_and_fails c =
    (refl, record { low = omega arith; high = omega arith; before = All-nil (IsRight two_predicates (value_in (false ∷ true ∷ true ∷ true ∷ []))); wrong = inl (refl, λ holds. apart holds.0 holds.1) })

pub returns-clause-false_and_fails : goal.returns-clause-false_and_fails
returns-clause-false_and_fails c = λ v. elim v.1.wrong [ inl w ↦ (let e = w.0 in cc) | inr w ↦ apart w.1.0 w.1.1 ]

pub returns-clause-behind_one_that_fails : goal.returns-clause-behind_one_that_fails
returns-clause-behind_one_that_fails c = λ v. let way = (v.1.before 0 reaches_1 (omega arith)).0 refl in apart way.0 way.1
