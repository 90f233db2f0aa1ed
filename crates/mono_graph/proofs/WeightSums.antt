-- Sums over lists of different places.
use Rattle.std.proofs.Common.{◌≡◌, ℕ, ◌+◌, ◌*◌, ◌^◌, ◌<◌, ◌≤◌, not, List, [], ◌∷◌, length, sum_by, sym, ap, subst, ◌∙◌, inl, inr, arith}
use Rattle.std.specs.Prelude.{IsTrue, if◌then◌else◌, ◌==◌}
use Rattle.std.specs.List.{list_all}
use Rattle.std.proofs.lemmas.Bool.{and_parts, both_ways, cases_eq, cases_lt, eq-eqb, ne_eqb, not-true, ltb-true}
use Rattle.std.proofs.lemmas.List.{get_or_past}
use Rattle.std.proofs.lemmas.List.FromFn.{length-range_with_len}
use Rattle.std.proofs.lemmas.List.Sums.{sum_by-cons}
use Rattle.mono_base.specs.declared.limits.TheConstants.{MAX_WEIGHT}
use Rattle.mono_graph.specs.declared.edge.Edge.{Edge}
use Rattle.mono_graph.specs.Digraph.{Digraph, IsGraph, edge_at, has, is_distinct, is_place, no_edge, places, weight_of}
use Rattle.mono_graph.proofs.Membership.{all_at, has_cons, has_here, has_range, has_there}

-- ---- a sum over different numbers is at most one over a list that has them all

-- a list without the first number that is v
abbrev without : ℕ → List ℕ → List ℕ
without v [] = []
without v (e ∷ es) = if e == v then es else e ∷ without v es

sum-without : (f : ℕ → ℕ) (v : ℕ) (es : List ℕ) → IsTrue (has es v) → sum_by f es ≡ f v + sum_by f (without v es)
sum-without f v [] h = absurd cc
sum-without f v (e ∷ es) h = elim (cases_eq e v) [
  | inl same ↦ rw (eq-eqb e v same) (sum_by-cons f e es ∙ ap (λ (u : ℕ). f u + sum_by f es) same)
  | inr ne ↦ rw (ne_eqb e v ne) (
      let there : IsTrue (has es v) = elim (has_cons e v es h) [ inl same ↦ absurd (ne same) | inr t ↦ t ] in
      let later = sum-without f v es there in
      let first = sum_by-cons f e es in
      let second = sum_by-cons f e (without v es) in
      omega (arith, later, first, second))
]

has-without : (v w : ℕ) (es : List ℕ) → (w ≡ v → ⊥) → IsTrue (has es w) → IsTrue (has (without v es) w)
has-without v w [] ne h = h
has-without v w (e ∷ es) ne h = elim (cases_eq e v) [
  | inl same ↦ rw (eq-eqb e v same) (elim (has_cons e w es h) [ inl is ↦ absurd (ne (sym is ∙ same)) | inr t ↦ t ])
  | inr other ↦ rw (ne_eqb e v other) (elim (has_cons e w es h) [
    | inl is ↦ subst (λ (u : ℕ). IsTrue (has (e ∷ without v es) u)) is (has_here e (without v es))
    | inr t ↦ has_there e w (without v es) (has-without v w es ne t)
  ])
]

pub sum_within : (f : ℕ → ℕ) (ns es : List ℕ) → IsTrue (is_distinct ns) → ((v : ℕ) → IsTrue (has ns v) → IsTrue (has es v)) → sum_by f ns ≤ sum_by f es
sum_within f [] es d h = omega arith
sum_within f (n ∷ ns) es d h =
    let parts = and_parts (not (has ns n)) (is_distinct ns) d in
    let rest : sum_by f ns ≤ sum_by f (without n es) = sum_within f ns (without n es) parts.1 (λ w m.
    has-without n w es (λ e. both_ways (has ns n) (not-true (has ns n) parts.0) (subst (λ (u : ℕ). IsTrue (has ns u)) e m)) (h w (has_there n w ns m))) in
    let all = sum-without f n es (h n (has_here n ns)) in
    let first = sum_by-cons f n ns in
    omega (arith, rest, all, first)

-- ---- weights

sum_at_most : (f : ℕ → ℕ) → ((k : ℕ) → f k ≤ MAX_WEIGHT) → (ks : List ℕ) → sum_by f ks ≤ length ks * MAX_WEIGHT
sum_at_most f small [] = omega arith
sum_at_most f small (k ∷ ks) =
    let first = sum_by-cons f k ks in
    let rest = sum_at_most f small ks in
    omega (arith, first, rest, small k)

weight_at_most : (g : Digraph) → IsGraph g → (k : ℕ) → (edge_at g k).weight ≤ MAX_WEIGHT
weight_at_most g ok k = elim (cases_lt k (length g.edges)) [
  | inl lt ↦ ok.weights k no_edge lt
  | inr past ↦ let none : (edge_at g k).weight ≡ 0 = ap (λ (e : Edge). e.weight) (get_or_past g.edges k no_edge past) in omega (arith, none)
]

pub weights_below : (g : Digraph) (ks : List ℕ) → IsGraph g → IsTrue (is_distinct ks) → IsTrue (list_all (is_place g) ks) → weight_of g ks < 2 ^ 84
weights_below g ks ok different known =
    let f : ℕ → ℕ = λ k. (edge_at g k).weight in
    let within : sum_by f ks ≤ sum_by f (places g) = sum_within f ks (places g) different (λ k h.
    has_range 0 (length g.edges) k (omega arith) (let lt = ltb-true k (length g.edges) (all_at (is_place g) ks k known h) in omega (arith, lt))) in
    let whole : sum_by f (places g) ≤ length (places g) * MAX_WEIGHT = sum_at_most f (weight_at_most g ok) (places g) in
    let size : length (places g) ≡ length g.edges = length-range_with_len 0 (length g.edges) in
    let few = ok.few_edges in
    omega (arith, within, whole, size, few)
