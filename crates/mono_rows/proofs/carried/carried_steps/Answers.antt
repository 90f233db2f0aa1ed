use Rattle.std.proofs.Common.{◌≡◌, ℕ, zero, suc, ◌+◌, ◌<◌, ◌==◌, false, true, List, [], ◌∷◌, length, refl, subst, inl, inr, ℤ, pos, arith}
use Rattle.std.specs.Prelude.{IsTrue, Some, None, slice_get}
use Rattle.std.proofs.lemmas.Bool.{or_cases, eqb-true}
use Rattle.std.proofs.lemmas.Option.{same_Some}
use Rattle.mono_problem.specs.Instance.{numbered}
use Rattle.mono_steps.specs.declared.step.Step.{Step}
use Rattle.mono_steps.specs.Renumbering.{rank, has_number, KeepsNamed}
use Rattle.mono_steps.specs.Trimmed.{renumbered}
use Rattle.mono_steps.specs.WorkedLemmas.{barred, chain, edge_1_reaches, minus}
use Rattle.mono_rows.proofs.carried.carried_steps.Goals as goal

-- ---- a lemma behind no clauses

keeps_lemma : (k : ℕ) (s : Step) → slice_get (edge_1_reaches ∷ []) k ≡ Some s → KeepsNamed barred barred.clauses [] (true ∷ []) (renumbered 0 []) s
keeps_lemma zero s at = subst (KeepsNamed barred barred.clauses [] (true ∷ []) (renumbered 0 [])) (same_Some edge_1_reaches s at) (record {
  vars = refl;
  clauses = λ n names low. let e : false ≡ true = names in absurd cc;
  steps = λ k names. let e : false ≡ true = names in absurd cc;
})
keeps_lemma (suc k) s at = absurd cc

place_of_lemma : (k : ℕ) → k < 1 → renumbered 0 [] (length barred.clauses + 1 + k) ≡ 1 + rank (true ∷ []) k
place_of_lemma zero lt = refl
place_of_lemma (suc k) lt = absurd (omega (arith, lt))

pub returns-clause-lemma : goal.returns-clause-lemma
returns-clause-lemma c = record { graphs = refl; atoms = refl; named = λ k s on at. keeps_lemma k s at; places = place_of_lemma }

-- ---- a chain behind the first clause

abbrev first : List (List ℤ)
first = (pos 1 ∷ []) ∷ []

abbrev of_first : Step
of_first = chain (pos 1 ∷ []) (1 ∷ [])

names_1 : (n : ℕ) → IsTrue (has_number (1 ∷ []) n) → 1 ≡ n
names_1 n h = elim (or_cases (1 == n) false h) [ inl e ↦ eqb-true 1 n e | inr f ↦ absurd cc ]

keeps_chain : (k : ℕ) (s : Step) → slice_get (of_first ∷ []) k ≡ Some s → KeepsNamed barred barred.clauses first (true ∷ []) (renumbered 1 []) s
keeps_chain zero s at = subst (KeepsNamed barred barred.clauses first (true ∷ []) (renumbered 1 [])) (same_Some of_first s at) (record {
  vars = refl;
  clauses = λ n names low. subst (λ (m : ℕ). numbered first (renumbered 1 [] m) ≡ numbered barred.clauses m) (names_1 n names) refl;
  steps = λ k names. absurd (omega (arith, names_1 (2 + 1 + k) names));
})
keeps_chain (suc k) s at = absurd cc

place_of_chain : (k : ℕ) → k < 1 → renumbered 1 [] (length barred.clauses + 1 + k) ≡ 2 + rank (true ∷ []) k
place_of_chain zero lt = refl
place_of_chain (suc k) lt = absurd (omega (arith, lt))

pub returns-clause-chain : goal.returns-clause-chain
returns-clause-chain c = record { graphs = refl; atoms = refl; named = λ k s on at. keeps_chain k s at; places = place_of_chain }

-- ---- what may not be carried

pub returns-clause-another_number : goal.returns-clause-another_number
returns-clause-another_number c = λ h. let e : 2 ≡ 1 = h.places 0 (omega arith) in omega (arith, e)

pub returns-clause-no_graph : goal.returns-clause-no_graph
returns-clause-no_graph c = λ h. let e = h.graphs in cc

pub returns-clause-no_predicate : goal.returns-clause-no_predicate
returns-clause-no_predicate c = λ h. let e = h.atoms in cc

pub returns-clause-unknown_variable : goal.returns-clause-unknown_variable
returns-clause-unknown_variable c = λ h. let e : false ≡ true = (h.named 0 edge_1_reaches refl refl).vars in cc

pub returns-clause-dropped_clause : goal.returns-clause-dropped_clause
returns-clause-dropped_clause c = λ h. let e : None ≡ Some (minus 3 ∷ []) = (h.named 0 (chain (minus 3 ∷ []) (2 ∷ [])) refl refl).clauses 2 refl (omega arith) in cc

pub returns-clause-dropped_step : goal.returns-clause-dropped_step
returns-clause-dropped_step c = λ h. let e : false ≡ true = (h.named 1 (chain (minus 1 ∷ pos 3 ∷ []) (3 ∷ [])) refl refl).steps 0 refl in cc
