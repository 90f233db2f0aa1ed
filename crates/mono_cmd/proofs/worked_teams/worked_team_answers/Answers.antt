use Rattle.std.proofs.Common.{◌≡◌, ℕ, zero, suc, ◌+◌, ◌==◌, ◌||◌, true, false, [], ◌∷◌, Some, None, refl, sym, subst, inl, inr, arith}
use Rattle.std.specs.Prelude.{IsTrue, slice_get}
use Rattle.std.proofs.lemmas.Bool.{eqb-true, or_cases}
use Rattle.std.proofs.lemmas.Option.{same_Some}
use Rattle.mono_problem.specs.Instance.{Instance}
use Rattle.mono_steps.specs.declared.step.Step.{Step}
use Rattle.mono_steps.specs.Renumbering.{names_step}
use Rattle.mono_steps.specs.WorkedLemmas.{chain}
use Rattle.mono_search.specs.Worked.{two_clauses, both_signs}
use Rattle.mono_portfolio.specs.Ends.{IsAtTurn}
use Rattle.mono_cmd.proofs.worked_teams.worked_team_answers.Goals as goal

-- the first turn of all
at_first : (p : Instance) → IsAtTurn 1000 p 2 1 [] []
at_first p = record { done = 0; worker = 0; in_rounds = omega arith; of_workers = omega arith; before = []; rounds_before = (refl, refl); turns_before = refl }

pub returns-clause-model : goal.returns-clause-model
returns-clause-model c = ([], record { taken = []; reached = at_first two_clauses; model = record { len = refl; satisfies = (refl, (λ k d lt. absurd (omega arith))) } })

pub returns-clause-false_clause : goal.returns-clause-false_clause
returns-clause-false_clause c = λ h. let e : false ≡ true = h.1.model.satisfies.0 in cc

pub returns-clause-model_in_no_round : goal.returns-clause-model_in_no_round
returns-clause-model_in_no_round c = λ h. let lt = h.1.reached.in_rounds in omega (arith, lt)

-- the one step names the clauses of the problem alone
no_number : (k : ℕ) → IsTrue ((1 == 2 + 1 + k) || ((2 == 2 + 1 + k) || false)) → ⊥
no_number k names = elim (or_cases (1 == 2 + 1 + k) ((2 == 2 + 1 + k) || false) names) [
  | inl first ↦ omega (arith, eqb-true 1 (2 + 1 + k) first)
  | inr rest ↦ elim (or_cases (2 == 2 + 1 + k) false rest) [ inl second ↦ omega (arith, eqb-true 2 (2 + 1 + k) second) | inr none ↦ let e : false ≡ true = none in cc ]
]

names_none : (j k : ℕ) (s : Step) → slice_get (chain [] (1 ∷ 2 ∷ []) ∷ []) j ≡ Some s → IsTrue (names_step 2 s k) → ⊥
names_none zero k s is names = no_number k (subst (λ (t : Step). IsTrue (names_step 2 t k)) (sym (same_Some (chain [] (1 ∷ 2 ∷ [])) s is)) names)
names_none (suc j) k s is names = let none : None ≡ Some s = is in cc

pub returns-clause-refutation : goal.returns-clause-refutation
returns-clause-refutation c = (
  chain [] (1 ∷ 2 ∷ []) ∷ [],
  record {
    taken = [];
    before = [];
    reached = at_first both_signs;
    refuted = record {
      steps = chain [] (1 ∷ 2 ∷ []) ∷ [];
      trim = record { refutes = refl; named = λ k lt. absurd (omega (arith, lt)); short = omega arith };
      is = refl;
      refutes = refl;
    };
  },
  record {
    needed = true ∷ [];
    as_many = refl;
    last = refl;
    closed = λ j k s on is names. absurd (names_none j k s is names);
    is = refl;
    trim = record { refutes = refl; named = λ k lt. absurd (omega (arith, lt)); short = omega arith };
  },
)

pub returns-clause-no_refutation : goal.returns-clause-no_refutation
returns-clause-no_refutation c = λ h. let e : false ≡ true = h.2.trim.refutes in cc

pub returns-clause-refutation_of_nobody : goal.returns-clause-refutation_of_nobody
returns-clause-refutation_of_nobody c = λ h. let lt = h.1.reached.of_workers in omega (arith, lt)

pub returns-clause-few_variables : goal.returns-clause-few_variables
returns-clause-few_variables c = λ board h. let few = h.few in omega (arith, few)
