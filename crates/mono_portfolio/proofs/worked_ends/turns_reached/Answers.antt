use Rattle.std.proofs.Common.{◌≡◌, ℕ, zero, suc, ◌<◌, List, [], ◌∷◌, length, drop, refl, sym, ap, ◌∙◌, arith}
use Rattle.mono_problem.specs.Instance.{Instance}
use Rattle.mono_steps.specs.declared.step.Step.{Step}
use Rattle.mono_search.specs.Worked.{two_clauses, first_learned}
use Rattle.mono_portfolio.specs.Rounds.{IsPiece, IsRound, AreRounds, short_chains, taking}
use Rattle.mono_portfolio.specs.Worked.{four_clauses, given_first}
use Rattle.mono_portfolio.proofs.WorkedProblem.{first_given, one_learned}
use Rattle.mono_portfolio.proofs.worked_ends.turns_reached.Goals as goal

pub returns-clause-first : goal.returns-clause-first
returns-clause-first c = record { done = 0; worker = 0; in_rounds = omega arith; of_workers = omega arith; before = []; rounds_before = (refl, refl); turns_before = refl }

pub returns-clause-second_worker : goal.returns-clause-second_worker
returns-clause-second_worker c = record {
  done = 0;
  worker = 1;
  in_rounds = omega arith;
  of_workers = omega arith;
  before = [];
  rounds_before = (refl, refl);
  turns_before = (first_learned, record { steps = first_learned; learned = one_learned; is = refl }, refl);
}

pub returns-clause-second_round : goal.returns-clause-second_round
returns-clause-second_round c = record {
  done = 1;
  worker = 0;
  in_rounds = omega arith;
  of_workers = omega arith;
  before = given_first ∷ [];
  rounds_before = (given_first ∷ [], (given_first ∷ [], record { steps = given_first ∷ []; learned = first_given; is = refl }, refl), (refl, refl));
  turns_before = refl;
}

-- a lone worker has the first turn of its round
lone : (slice : ℕ) (p : Instance) (worker : ℕ) (taken : List ℕ) (before board : List Step) → worker < 1 → IsRound slice p worker taken before board → board ≡ before
lone slice p zero taken before board lt r = r
lone slice p (suc w) taken before board lt r = absurd (omega (arith, lt))

by_done : (done : ℕ) (before : List Step) → done < 2 → given_first ∷ [] ≡ before → AreRounds 1 four_clauses 1 done [] [] [] before → ⊥
by_done zero before lt is r = let e : suc zero ≡ zero = ap (λ (b : List Step). length b) (is ∙ r.1) in cc
by_done (suc zero) before lt is r =
    let none : zero ≡ suc zero = ap (λ (ns : List ℕ). length ns) (r.2.0 ∙ ap (λ (b : List Step). taking four_clauses b [] (short_chains 5 (drop 0 b))) (sym (is ∙ r.2.1))) in cc
by_done (suc (suc k)) before lt is r = omega (arith, lt)

pub returns-clause-not_taken : goal.returns-clause-not_taken
returns-clause-not_taken c = λ h. by_done h.done h.before h.in_rounds (lone 1 four_clauses h.worker [] h.before (given_first ∷ []) h.of_workers h.turns_before) h.rounds_before

no_round_done : (p : Instance) (done : ℕ) (taken : List ℕ) (before : List Step) → done < 1 → AreRounds 1 p 1 done [] [] taken before → before ≡ []
no_round_done p zero taken before lt r = r.1
no_round_done p (suc k) taken before lt r = absurd (omega (arith, lt))

pub returns-clause-one_turn : goal.returns-clause-one_turn
returns-clause-one_turn c = λ p taken board h. lone 1 p h.worker taken h.before board h.of_workers h.turns_before ∙ no_round_done p h.done taken h.before h.in_rounds h.rounds_before

pub returns-clause-no_round : goal.returns-clause-no_round
returns-clause-no_round c = λ p taken board h. let lt = h.in_rounds in omega (arith, lt)

pub returns-clause-nobody : goal.returns-clause-nobody
returns-clause-nobody c = λ p taken board h. let lt = h.of_workers in omega (arith, lt)

-- no thousand clauses are learned over two variables
no_piece : (before : List Step) (taken : List ℕ) (piece : List Step) → IsPiece 1000 two_clauses before taken piece → ⊥
no_piece before taken piece h = let few = h.learned.few in omega (arith, few)

by_place : (done worker : ℕ) (taken : List ℕ) (before board : List Step) → AreRounds 1000 two_clauses 2 done [] [] taken before → IsRound 1000 two_clauses worker taken before board → board ≡ []
by_place zero zero taken before board r t = t ∙ r.1
by_place zero (suc w) taken before board r t = absurd (no_piece before taken t.0 t.1)
by_place (suc d) w taken before board r t = absurd (no_piece [] [] r.1.0 r.1.1)

pub returns-clause-few_variables : goal.returns-clause-few_variables
returns-clause-few_variables c = λ taken board h. by_place h.done h.worker taken h.before board h.rounds_before h.turns_before
