use Rattle.std.proofs.Common.{◌≡◌, ℕ, suc, zero, List, [], ◌∷◌, ◌++◌, ◌<◌, ap, length, refl, lit<, ◌∙◌, arith, length-append}
use Rattle.std.proofs.lemmas.List.{length-map}
use Rattle.mono_problem.specs.Instance.{Instance}
use Rattle.mono_steps.specs.declared.step.Step.{Step}
use Rattle.mono_steps.specs.Journals.{chain_count}
use Rattle.mono_portfolio.specs.Moved.{moved_step}
use Rattle.mono_portfolio.specs.Rounds.{IsPiece}
use Rattle.mono_search_rows.specs.Worked.{over_seven}
use Rattle.mono_search_rows.proofs.worked_teams.boards_of_rounds.Goals as goal

pub returns-clause-no_round : goal.returns-clause-no_round
returns-clause-no_round c = record { justified = refl; rounds_are = ([], (refl, refl)); few = lit< tt; short = lit< tt }

pub returns-clause-nobody : goal.returns-clause-nobody
returns-clause-nobody c = record { justified = refl; rounds_are = ([], ([], refl, (refl, refl))); few = lit< tt; short = lit< tt }

-- a thousand learned clauses are some steps
some_steps : (steps : List Step) → chain_count steps ≡ 1000 → 0 < length steps
some_steps [] many = let e : 0 ≡ 1000 = many in omega (arith, e)
some_steps (s ∷ ss) many = omega arith

some_piece : (p : Instance) (before : List Step) (taken : List ℕ) (piece : List Step) → IsPiece 1000 p before taken piece → 0 < length piece
some_piece p before taken piece h =
    omega (arith, some_steps h.steps h.learned.chains, ap (λ (ss : List Step). length ss) h.is, length-map h.steps (moved_step (length p.clauses) taken (length before)))

pub returns-clause-nothing_given : goal.returns-clause-nothing_given
returns-clause-nothing_given c = λ h.
    let round = h.rounds_are.1 in
    let some = some_piece over_seven [] [] round.1.0 round.1.1 in
    let e : 0 ≡ length ([] ++ round.1.0) = ap (λ (ss : List Step). length ss) (round.2.1 ∙ round.1.2) in
    omega (arith, some, e, length-append [] round.1.0)

pub returns-clause-given_in_no_round : goal.returns-clause-given_in_no_round
returns-clause-given_in_no_round c = λ h. let e : suc zero ≡ zero = ap (λ (ss : List Step). length ss) h.rounds_are.1.1 in cc

pub returns-clause-few_variables : goal.returns-clause-few_variables
returns-clause-few_variables c = λ h. let few = h.few in omega (arith, few)

pub returns-clause-of_as_many : goal.returns-clause-of_as_many
returns-clause-of_as_many c = λ p board workers rounds h. h.rounds_are

pub returns-clause-six_variables : goal.returns-clause-six_variables
returns-clause-six_variables c = λ board h. let few = h.few in omega (arith, few)

pub returns-clause-justified : goal.returns-clause-justified
returns-clause-justified c = λ p board workers rounds h. h.justified

pub returns-clause-short : goal.returns-clause-short
returns-clause-short c = λ p board workers rounds h. h.short
