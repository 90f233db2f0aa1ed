use Rattle.std.proofs.Common.{◌≡◌, ℕ, zero, suc, ◌<◌, List, [], ◌∷◌, ◌++◌, length, drop, refl, sym, ap, ◌∙◌, arith, length-append}
use Rattle.std.proofs.lemmas.List.{length-map}
use Rattle.mono_problem.specs.Instance.{Instance}
use Rattle.mono_steps.specs.declared.step.Step.{Step}
use Rattle.mono_steps.specs.Journals.{chain_count}
use Rattle.mono_portfolio.specs.Moved.{moved_step}
use Rattle.mono_portfolio.specs.Rounds.{IsPiece, short_chains, taking}
use Rattle.mono_search.specs.Worked.{two_clauses, first_learned}
use Rattle.mono_portfolio.proofs.WorkedProblem.{one_learned}
use Rattle.mono_portfolio.proofs.worked_rounds.small_round.Goals as goal

-- a piece with a learned clause isn't empty
some_steps : (steps : List Step) → chain_count steps ≡ 1 → 0 < length steps
some_steps [] e = absurd cc
some_steps (s ∷ ss) e = omega arith

some_piece : (p : Instance) (before : List Step) (taken : List ℕ) (piece : List Step) → IsPiece 1 p before taken piece → 0 < length piece
some_piece p before taken piece h =
    omega (arith, some_steps h.steps h.learned.chains, ap (λ (ss : List Step). length ss) h.is, length-map h.steps (moved_step (length p.clauses) taken (length before)))

pub returns-clause-two : goal.returns-clause-two
returns-clause-two c =
    (first_learned ++ first_learned, (first_learned, record { steps = first_learned; learned = one_learned; is = refl }, (first_learned, record { steps = first_learned; learned = one_learned; is = refl }, refl)), (refl, refl))

pub returns-clause-one_piece : goal.returns-clause-one_piece
returns-clause-one_piece c = λ last h.
    let first = h.1.0 in
    let second = h.1.2.0 in
    let a = some_piece two_clauses [] [] first h.1.1 in
    let b = some_piece two_clauses first [] second h.1.2.1 in
    let e : suc zero ≡ length (first ++ second) = ap (λ (ss : List Step). length ss) (h.2.1 ∙ h.1.2.2) in
    omega (arith, a, b, e, length-append first second)

pub returns-clause-another_board : goal.returns-clause-another_board
returns-clause-another_board c = λ last h. let e : suc zero ≡ zero = ap (λ (ss : List Step). length ss) (h.2.1 ∙ h.1) in cc

pub returns-clause-not_taken : goal.returns-clause-not_taken
returns-clause-not_taken c = λ h.
    let none : zero ≡ suc (suc zero) = ap (λ (ns : List ℕ). length ns) (h.2.0 ∙ ap (λ (b : List Step). taking two_clauses b [] (short_chains 3 (drop 0 b))) (sym h.2.1)) in cc

pub returns-clause-taken_in_no_round : goal.returns-clause-taken_in_no_round
returns-clause-taken_in_no_round c = λ h. let e : suc zero ≡ zero = ap (λ (ns : List ℕ). length ns) h.0 in cc
