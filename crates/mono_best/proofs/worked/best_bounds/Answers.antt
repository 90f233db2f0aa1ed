use Rattle.std.proofs.Common.{ℕ, Bool, [], ◌∷◌, refl, arith, pos, ◌↔◌}
use Rattle.std.specs.Prelude.{IsTrue}
use Rattle.std.proofs.lemmas.Int.{ints}
use Rattle.std.proofs.lemmas.List.Elements.{All-cons, All-nil}
use Rattle.mono_graph.specs.Digraph.{enabled}
use Rattle.mono_graph.specs.Worked.{pipe}
use Rattle.mono_problem.specs.declared.atom.Atom.{Atom}
use Rattle.mono_problem.specs.declared.atom.Predicate.TheVariants as kind
use Rattle.mono_problem.specs.Holds.{HoldsAtom, Satisfies}
use Rattle.mono_problem.specs.Worked.{only}
use Rattle.mono_best.specs.Worked.{weighed, distance_to_2}
use Rattle.mono_best.proofs.Optimal.{next_met}
use Rattle.mono_best.proofs.WorkedBest.{none_of_four}
use Rattle.mono_best.proofs.worked.best_bounds.Goals as goal

-- both edges are there
abbrev all : ℕ → Bool
all = only (1 ∷ 2 ∷ 5 ∷ [])

satisfied : Satisfies (weighed []) all
satisfied =
    let P : Atom → Type 0 = λ x. IsTrue (all x.var) ↔ HoldsAtom (weighed []) all x in
    let one : P (distance_to_2 1 5 (pos 9)) = ((λ e. (0 ∷ 1 ∷ [], refl)), (λ h. refl)) in
    (refl, All-cons P (distance_to_2 1 5 (pos 9)) [] one (All-nil P))

pub returns-clause-five : goal.returns-clause-five
returns-clause-five c = record {
  met = (all, satisfied, (0 ∷ 1 ∷ [], refl));
  best = λ a b sat better meets. none_of_four a (next_met (pipe 3 2) (enabled a (pipe 3 2)) (kind.Distance 0 2 (pos 9)) (pos 5) b better meets);
}

pub returns-clause-not_six : goal.returns-clause-not_six
returns-clause-not_six c = λ h. h.best all (pos 5) satisfied (omega (arith, ints)) (0 ∷ 1 ∷ [], refl)

pub returns-clause-not_four : goal.returns-clause-not_four
returns-clause-not_four c = λ h. let m = h.met in none_of_four m.0 m.2

pub returns-clause-met : goal.returns-clause-met
returns-clause-met c = λ h. h all (pos 5) satisfied (omega (arith, ints), omega (arith, ints)) (0 ∷ 1 ∷ [], refl)

pub returns-clause-never_met : goal.returns-clause-never_met
returns-clause-never_met c = λ a b sat. let e = sat.0 in cc
