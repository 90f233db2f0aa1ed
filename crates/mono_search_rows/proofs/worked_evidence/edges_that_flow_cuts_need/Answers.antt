use Rattle.std.proofs.Common.{◌≡◌, ◌∙◌, ℕ, ◌+◌, ◌<◌, false, true, not, [], ◌∷◌, eqb, refl, sym, subst, lit<, arith, filter}
use Rattle.std.proofs.Math.Bool.{or-false}
use Rattle.std.proofs.lemmas.Bool.{eqb-true}
use Rattle.std.specs.Prelude.{IsTrue}
use Rattle.mono_graph.specs.Digraph.{edge_at, has, weight_of}
use Rattle.mono_graph.specs.Worked.{parallel}
use Rattle.mono_flow.specs.Flowing.{EachIsNeeded}
use Rattle.mono_search_rows.proofs.worked_evidence.edges_that_flow_cuts_need.Goals as goal

one_has : (j k : ℕ) → IsTrue (has (j ∷ []) k) → j ≡ k
one_has j k named = eqb-true j k (sym (or-false (eqb j k)) ∙ named)

first_alone : EachIsNeeded (parallel 4 3) 3 (0 ∷ []) (0 ∷ [])
first_alone k named =
    subst (λ (i : ℕ). 3 < weight_of (parallel 4 3) (filter (λ j. not (has (0 ∷ []) j)) (0 ∷ [])) + (edge_at (parallel 4 3) i).weight) (one_has 0 k named) (lit< tt)

second_alone : EachIsNeeded (parallel 3 4) 6 (0 ∷ 1 ∷ []) (1 ∷ [])
second_alone k named =
    subst (λ (i : ℕ). 6 < weight_of (parallel 3 4) (filter (λ j. not (has (1 ∷ []) j)) (0 ∷ 1 ∷ [])) + (edge_at (parallel 3 4) i).weight) (one_has 1 k named) (lit< tt)

is_absent : (k : ℕ) → IsTrue (has (1 ∷ []) k) → IsTrue (has (0 ∷ 1 ∷ []) k)
is_absent k named = subst (λ (i : ℕ). IsTrue (has (0 ∷ 1 ∷ []) i)) (one_has 1 k named) refl

pub returns-clause-just_fits : goal.returns-clause-just_fits
returns-clause-just_fits c = λ h. let lt : 3 < 3 = h 0 refl in omega (arith, lt)

pub returns-clause-heavier_by_one : goal.returns-clause-heavier_by_one
returns-clause-heavier_by_one c = first_alone

pub returns-clause-heavier_than_what_is_left : goal.returns-clause-heavier_than_what_is_left
returns-clause-heavier_than_what_is_left c = second_alone

pub returns-clause-fits_what_is_left : goal.returns-clause-fits_what_is_left
returns-clause-fits_what_is_left c = λ h. let lt : 7 < 7 = h 1 refl in omega (arith, lt)

pub returns-clause-one_of_two_fits : goal.returns-clause-one_of_two_fits
returns-clause-one_of_two_fits c = λ h. let lt : 5 < 3 = h 0 refl in omega (arith, lt)

pub returns-clause-others_fit : goal.returns-clause-others_fit
returns-clause-others_fit c = record { listed = is_absent; others = omega arith }

pub returns-clause-others_too_heavy : goal.returns-clause-others_too_heavy
returns-clause-others_too_heavy c = λ h. let le = h.others in omega (arith, le)

pub returns-clause-not_absent : goal.returns-clause-not_absent
returns-clause-not_absent c = λ h. let e : false ≡ true = h.listed 1 refl in cc
