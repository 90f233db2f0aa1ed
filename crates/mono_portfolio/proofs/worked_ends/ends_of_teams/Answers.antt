use Rattle.std.proofs.Common.{◌≡◌, ℕ, zero, suc, true, false, List, [], ◌∷◌, length, refl, ap, ◌∙◌, arith}
use Rattle.mono_problem.specs.Instance.{Instance}
use Rattle.mono_steps.specs.declared.step.Step.{Step}
use Rattle.mono_steps.specs.WorkedLemmas.{chain}
use Rattle.mono_search.specs.Worked.{two_clauses, both_signs, first_learned}
use Rattle.mono_portfolio.specs.Ends.{IsAtTurn}
use Rattle.mono_portfolio.specs.Rounds.{IsPiece, IsRound, AreRounds}
use Rattle.mono_portfolio.proofs.worked_ends.ends_of_teams.Goals as goal

-- the first turn of all
at_first : (p : Instance) → IsAtTurn 1000 p 2 1 [] []
at_first p = record { done = 0; worker = 0; in_rounds = omega arith; of_workers = omega arith; before = []; rounds_before = (refl, refl); turns_before = refl }

pub returns-clause-model : goal.returns-clause-model
returns-clause-model c = record { taken = []; reached = at_first two_clauses; model = record { len = refl; satisfies = (refl, (λ k d lt. absurd (omega arith))) } }

pub returns-clause-false_clause : goal.returns-clause-false_clause
returns-clause-false_clause c = λ h. let e = h.model.satisfies.0 in cc

-- no thousand clauses are learned over two variables
no_piece : (before : List Step) (taken : List ℕ) (piece : List Step) → IsPiece 1000 two_clauses before taken piece → ⊥
no_piece before taken piece h = let few = h.learned.few in omega (arith, few)

by_place : (done worker : ℕ) (taken : List ℕ) (before : List Step) → AreRounds 1000 two_clauses 2 done [] [] taken before → IsRound 1000 two_clauses worker taken before first_learned → ⊥
by_place zero zero taken before r t = let e : suc zero ≡ zero = ap (λ (ss : List Step). length ss) (t ∙ r.1) in cc
by_place zero (suc w) taken before r t = no_piece before taken t.0 t.1
by_place (suc d) w taken before r t = no_piece [] [] r.1.0 r.1.1

pub returns-clause-given_in_no_turn : goal.returns-clause-given_in_no_turn
returns-clause-given_in_no_turn c = λ h. by_place h.reached.done h.reached.worker h.taken h.reached.before h.reached.rounds_before h.reached.turns_before

pub returns-clause-model_in_no_round : goal.returns-clause-model_in_no_round
returns-clause-model_in_no_round c = λ h. let lt = h.reached.in_rounds in omega (arith, lt)

pub returns-clause-refutation : goal.returns-clause-refutation
returns-clause-refutation c = record {
  taken = [];
  before = [];
  reached = at_first both_signs;
  refuted = record {
    steps = chain [] (1 ∷ 2 ∷ []) ∷ [];
    trim = record { refutes = refl; named = λ k lt. absurd (omega (arith, lt)); short = omega arith };
    is = refl;
    refutes = refl;
  };
}

pub returns-clause-no_refutation : goal.returns-clause-no_refutation
returns-clause-no_refutation c = λ h. let e : false ≡ true = h.refuted.refutes in cc

pub returns-clause-refutation_of_nobody : goal.returns-clause-refutation_of_nobody
returns-clause-refutation_of_nobody c = λ h. let lt = h.reached.of_workers in omega (arith, lt)

pub returns-clause-few_variables : goal.returns-clause-few_variables
returns-clause-few_variables c = λ board h. let few = h.few in omega (arith, few)
