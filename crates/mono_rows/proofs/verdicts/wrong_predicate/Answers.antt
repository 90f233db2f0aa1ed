use Rattle.std.proofs.Common.{[], ◌∷◌, refl, arith, inr}
use Rattle.mono_problem.specs.Worked.{reaches_2}
use Rattle.mono_rows.proofs.verdicts.wrong_predicate.Goals as goal

pub returns-clause-wrong : goal.returns-clause-wrong
returns-clause-wrong c = (refl, record { low = omega arith; high = omega arith; before = λ k d lt. absurd (omega (arith, lt)); wrong = inr (refl, (0 ∷ 1 ∷ [], refl)) })

pub returns-clause-line_of_the_values : goal.returns-clause-line_of_the_values
returns-clause-line_of_the_values c = λ v. let e = v.0 in omega (arith, e)

pub returns-clause-last_line : goal.returns-clause-last_line
returns-clause-last_line c = λ v. let e = v.0 in omega (arith, e)

pub returns-clause-other_predicate : goal.returns-clause-other_predicate
returns-clause-other_predicate c = λ v. let e = v.1.high in omega (arith, e)

pub returns-clause-no_model : goal.returns-clause-no_model
returns-clause-no_model c = λ a. let e = (a 0 reaches_2 (omega arith)).1 (0 ∷ 1 ∷ [], refl) in cc
