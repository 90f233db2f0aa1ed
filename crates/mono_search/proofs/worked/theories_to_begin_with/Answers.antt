use Rattle.std.proofs.Common.{◌≡◌, ℕ, zero, suc, ◌<◌, ◌≤◌, [], ◌∷◌, get_or, refl, ap, arith, All}
use Rattle.std.specs.Prelude.{Some, count_by}
use Rattle.std.proofs.lemmas.Option.{same_Some}
use Rattle.mono_graph.specs.Digraph.{Digraph}
use Rattle.mono_graph.specs.Worked.{lone, round_trip}
use Rattle.mono_problem.specs.declared.atom.Atom.{Atom}
use Rattle.mono_problem.specs.declared.atom.Predicate.{Predicate}
use Rattle.mono_problem.specs.declared.atom.Predicate.TheVariants as kind
use Rattle.mono_problem.specs.Instance.{graph_at, numbered}
use Rattle.mono_steps.specs.WorkedLemmas.{barred}
use Rattle.mono_theory.specs.Theories.{Facts, owns_of}
use Rattle.mono_theory.specs.Worked.{reaches}
use Rattle.mono_search.specs.Worked.{theory}
use Rattle.mono_search.proofs.worked.theories_to_begin_with.Goals as goal

once : (n : ℕ) → 0 < n → n ≤ 1 → count_by (λ f. owns_of f.atoms n) (theory (round_trip 2 3) reaches [] ∷ []) ≡ 1
once zero some few = absurd (omega (arith, some))
once (suc zero) some few = refl
once (suc (suc n)) some few = absurd (omega (arith, few))

exact : (k : ℕ) (d : Facts) → k < 1 → All (λ x. numbered barred.atoms x.number ≡ Some x) (get_or (theory (round_trip 2 3) reaches [] ∷ []) k d).atoms
exact zero d lt = each
  where
    each : (j : ℕ) (x : Atom) → j < 1 → numbered barred.atoms (get_or reaches j x).number ≡ Some (get_or reaches j x)
    each zero x low = refl
    each (suc j) x low = absurd (omega (arith, low))
exact (suc k) d lt = absurd (omega (arith, lt))

graphs : (k : ℕ) (d : Facts) → k < 1 → All (λ x. (get_or (theory (round_trip 2 3) reaches [] ∷ []) k d).graph ≡ graph_at barred x.graph) (get_or (theory (round_trip 2 3) reaches [] ∷ []) k d).atoms
graphs zero d lt = each
  where
    each : (j : ℕ) (x : Atom) → j < 1 → round_trip 2 3 ≡ graph_at barred (get_or reaches j x).graph
    each zero x low = refl
    each (suc j) x low = absurd (omega (arith, low))
graphs (suc k) d lt = absurd (omega (arith, lt))

unseen : (k : ℕ) (d : Facts) → k < 1 → (get_or (theory (round_trip 2 3) reaches [] ∷ []) k d).seen ≡ []
unseen zero d lt = refl
unseen (suc k) d lt = absurd (omega (arith, lt))

pub returns-clause-one : goal.returns-clause-one
returns-clause-one c = record { owns = record { once = once; exact = exact; graphs = graphs }; unseen = unseen }

pub returns-clause-none : goal.returns-clause-none
returns-clause-none c = λ h. let e : 0 ≡ 1 = h.owns.once 1 (omega arith) (omega arith) in omega (arith, e)

pub returns-clause-twice : goal.returns-clause-twice
returns-clause-twice c = λ h. let e : 2 ≡ 1 = h.owns.once 1 (omega arith) (omega arith) in omega (arith, e)

no_theory : Facts
no_theory = theory lone [] []

no_atom : Atom
no_atom = record { number = 0; graph = 0; var = 0; predicate = kind.Acyclic }

pub returns-clause-another_graph : goal.returns-clause-another_graph
returns-clause-another_graph c = λ h. let e : 1 ≡ 2 = ap (λ (g : Digraph). g.nodes) (h.owns.graphs 0 no_theory (omega arith) 0 no_atom (omega arith)) in omega (arith, e)

abbrev first_node : Predicate → ℕ
first_node (kind.Reach u v) = u
first_node q = 9

pub returns-clause-another_atom : goal.returns-clause-another_atom
returns-clause-another_atom c = λ h. let e : 0 ≡ 1 = ap (λ (x : Atom). first_node x.predicate) (same_Some _ _ (h.owns.exact 0 no_theory (omega arith) 0 no_atom (omega arith))) in omega (arith, e)

pub returns-clause-literal_seen : goal.returns-clause-literal_seen
returns-clause-literal_seen c = λ h. let e = h.unseen 0 no_theory (omega arith) in cc

pub returns-clause-no_atoms : goal.returns-clause-no_atoms
returns-clause-no_atoms c = record {
  owns = record { once = λ n some few. absurd (omega (arith, some, few)); exact = λ k d lt. absurd (omega (arith, lt)); graphs = λ k d lt. absurd (omega (arith, lt)) };
  unseen = λ k d lt. absurd (omega (arith, lt));
}
