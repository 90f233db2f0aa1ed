-- The nodes of the visits of a search: those that are marked, each once.
use Rattle.std.proofs.Common.{◌≡◌, ℕ, zero, suc, ◌<◌, Bool, not, List, [], ◌∷◌, length, get_or, map, refl, sym, subst, ◌∙◌, inl, inr, arith}
use Rattle.std.specs.Prelude.{IsTrue, All}
use Rattle.std.proofs.lemmas.Bool.{and_from, not_from_false, false_from_ne_true}
use Rattle.std.proofs.lemmas.List.{length-map}
use Rattle.std.proofs.lemmas.List.Elements.{All-map}
use Rattle.mono_graph.specs.Digraph.{Digraph, has, is_distinct}
use Rattle.mono_graph.proofs.Membership.{has_cons, same_truth}
use Rattle.mono_flows.specs.declared.visit.Visit.{Visit}
use Rattle.mono_flows.specs.Visits.{AreMarks, is_marked}
use Rattle.mono_flows.proofs.Searches.{marks_visited, node_at}

abbrev pub nodes_of : List Visit → List ℕ
nodes_of vs = map (λ v. v.node) vs

-- where a number stands in a list
place_in : (xs : List ℕ) (x : ℕ) → IsTrue (has xs x) → (i : ℕ) × (i < length xs) × (get_or xs i 0 ≡ x)
place_in [] x h = absurd cc
place_in (y ∷ xs) x h = elim (has_cons y x xs h) [
  | inl e ↦ (0, omega arith, e)
  | inr rest ↦ let r = place_in xs x rest in let lt = r.1 in (suc r.0, omega (arith, lt), r.2)
]

visited_marked : (g : Digraph) (marks : List Bool) (vs : List Visit) → AreMarks g marks vs → (u : ℕ) → IsTrue (has (nodes_of vs) u) → IsTrue (is_marked marks u)
visited_marked g marks vs ok u h =
    let r = place_in (nodes_of vs) u h in
    let place = r.1 in
    let lt : r.0 < length vs = omega (arith, place, length-map vs (λ (v : Visit). v.node)) in
    subst (λ (w : ℕ). IsTrue (is_marked marks w)) (sym (node_at vs r.0 lt) ∙ r.2) (ok.marked r.0 lt)

-- they are those that are marked
pub visited_same : (g : Digraph) (marks : List Bool) (vs : List Visit) → AreMarks g marks vs → (u : ℕ) → has (nodes_of vs) u ≡ is_marked marks u
visited_same g marks vs ok u = same_truth (has (nodes_of vs) u) (is_marked marks u) (visited_marked g marks vs ok u) (marks_visited g marks vs ok u)

distinct_from_once : (xs : List ℕ) → ((i j : ℕ) → i < length xs → j < length xs → get_or xs i 0 ≡ get_or xs j 0 → i ≡ j) → IsTrue (is_distinct xs)
distinct_from_once [] once = refl
distinct_from_once (x ∷ xs) once = and_from (not (has xs x)) (is_distinct xs)
    (not_from_false (has xs x) (false_from_ne_true (has xs x) (λ h.
    let r = place_in xs x h in
    let lt = r.1 in
    let e = once (suc r.0) zero (omega (arith, lt)) (omega arith) r.2 in
    absurd (omega (arith, e)))))
    (distinct_from_once xs (λ i j first second same. let e = once (suc i) (suc j) (omega (arith, first)) (omega (arith, second)) same in omega (arith, e)))

-- each of them is listed once
pub visited_distinct : (g : Digraph) (marks : List Bool) (vs : List Visit) → AreMarks g marks vs → IsTrue (is_distinct (nodes_of vs))
visited_distinct g marks vs ok = distinct_from_once (nodes_of vs) (λ i j first second same.
    let i-in : i < length vs = omega (arith, first, length-map vs (λ (v : Visit). v.node)) in
    let j-in : j < length vs = omega (arith, second, length-map vs (λ (v : Visit). v.node)) in
    ok.once i j i-in j-in (sym (node_at vs i i-in) ∙ same ∙ node_at vs j j-in))

-- they are nodes of the graph
pub visited_known : (n : ℕ) (vs : List Visit) → All (λ v. v.node < n) vs → All (λ u. u < n) (nodes_of vs)
visited_known n vs within = All-map (λ u. u < n) (λ (v : Visit). v.node) vs within
