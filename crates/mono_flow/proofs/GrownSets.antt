-- What a growth comes to: the set is closed where it grew, and it rests on the edges that may lead out of it.
use Rattle.std.proofs.Common.{◌≡◌, ℕ, ◌-◌, ◌<◌, ◌≤◌, ◌⊎◌, ◌+◌, Bool, false, not, List, [], ◌∷◌, ◌++◌, length, drop, filter, get_or, refl, sym, ap, subst, ◌∙◌, inl, inr, arith, length-drop}
use Rattle.std.specs.Prelude.{IsTrue, All, flat_map}
use Rattle.std.proofs.lemmas.Bool.{and_from, and_parts, both_ways, cases_lt, not-true, not_from_false}
use Rattle.std.proofs.lemmas.List.{get_or-drop}
use Rattle.mono_graph.specs.Digraph.{Digraph, edge_at, has, leaving, present}
use Rattle.mono_graph.proofs.Membership.{at_places, filter_has, has_append_cases, has_append_left, has_append_right, has_filter, has_get_or, places_at}
use Rattle.mono_graph.proofs.Pigeons.{all_has}
use Rattle.mono_theory.proofs.RestingOnAbsent.{has_flat}
use Rattle.mono_theory.proofs.WalksAsEvidence.{all_by}
use Rattle.mono_flow.specs.Growing.{AreRests, IsJoined, IsGrownCut, IsSpread, is_open}
use Rattle.mono_flow.proofs.ReplacedEdges.{index_of}

-- a node that joined stands behind the first ones
new_place : (us vs : List ℕ) (u : ℕ) → ((i : ℕ) → i < length us → get_or vs i 0 ≡ get_or us i 0) → IsTrue (has vs u) → has us u ≡ false
    → (i : ℕ) × (length us ≤ i) × (i < length vs) × (get_or vs i 0 ≡ u)
new_place us vs u same here new =
    let p = index_of vs u here in
    elim (cases_lt p.0 (length us)) [
      | inl early ↦ absurd (both_ways (has us u) new (subst (λ (v : ℕ). IsTrue (has us v)) (sym (same p.0 early) ∙ p.2) (has_get_or us p.0 0 early)))
      | inr ge ↦ (p.0, ge, p.1, p.2)
    ]

-- so it is one of those
in_rest : (us vs : List ℕ) (u i : ℕ) → length us ≤ i → i < length vs → get_or vs i 0 ≡ u → IsTrue (has (drop (length us) vs) u)
in_rest us vs u i low high e =
    let k : ℕ = i - length us in
    let lt : k < length (drop (length us) vs) = omega (arith, low, high, length-drop (length us) vs) in
    let is : i ≡ length us + k = omega (arith, low) in
    subst (λ (v : ℕ). IsTrue (has (drop (length us) vs) v)) (get_or-drop (length us) vs k 0 ∙ sym (ap (λ (j : ℕ). get_or vs j 0) is) ∙ e) (has_get_or (drop (length us) vs) k 0 lt)

pub grown_set : {g : Digraph} {P m o : List Bool} {t : ℕ} {us ws edges nodes found : List ℕ} → IsJoined g m us o ws → IsSpread g P t edges (length us) ws
    → nodes ≡ drop (length us) ws → AreRests g P o edges nodes found → IsGrownCut g P t us edges ws found
grown_set {g = g} {P = P} {o = o} {us = us} {ws = ws} {edges = edges} {nodes = nodes} {found = found} joined spread those r = record {
  known = joined.now.known;
  outside = spread.outside;
  kept = joined.kept;
  absent = all_by (λ k. (k < length g.edges) × (present P k ≡ false)) found (λ k t. elim (has_append_cases r.rest r.fresh k (subst (λ (ks : List ℕ). IsTrue (has ks k)) r.parts t)) [
    | inl old ↦ absent_open k (all_has (λ j. (j < length g.edges) × IsTrue (is_open g P o j)) r.rest k r.replaced.now_open old)
    | inr new ↦ absent_open k (all_has (λ j. (j < length g.edges) × IsTrue (is_open g P o j)) r.fresh k r.replaced.still_fresh new)
  ]);
  came = λ k named here. all_has (λ j. IsTrue (present P j) → IsTrue (has ws (edge_at g j).to)) edges k spread.ends named here;
  closed = λ k lt from new here. (let p = new_place us ws (edge_at g k).from joined.before from new in spread.closed.at p.0 k p.1 p.2 lt (sym p.3) here);
  rests = λ k named off outside. listed k (inl (r.replaced.kept k named (opens k off outside)));
  new_rests = λ k lt from new off outside.
      let u : ℕ = (edge_at g k).from in
      let p = new_place us ws u joined.before from new in
      let own : IsTrue (has (filter (is_open g P o) (leaving g u)) k) = has_filter (is_open g P o) (leaving g u) k (at_places (λ e. e.from) g u k lt refl) (opens k off outside) in
      let member : IsTrue (has nodes u) = subst (λ (vs : List ℕ). IsTrue (has vs u)) (sym those) (in_rest us ws u p.0 p.1 p.2 p.3) in
      listed k (r.replaced.each_fresh k (has_flat (λ v. filter (is_open g P o) (leaving g v)) nodes u k member own));
}
  where
    listed : (k : ℕ) → IsTrue (has r.rest k) ⊎ IsTrue (has r.fresh k) → IsTrue (has found k)
    listed k (inl h) = subst (λ (ks : List ℕ). IsTrue (has ks k)) (sym r.parts) (has_append_left r.rest r.fresh k h)
    listed k (inr h) = subst (λ (ks : List ℕ). IsTrue (has ks k)) (sym r.parts) (has_append_right r.rest r.fresh k h)

    opens : (k : ℕ) → present P k ≡ false → has ws (edge_at g k).to ≡ false → IsTrue (is_open g P o k)
    opens k off outside =
        and_from (not (present P k)) (not (get_or o (edge_at g k).to false)) (not_from_false (present P k) off)
        (not_from_false (get_or o (edge_at g k).to false) (joined.now.marked (edge_at g k).to ∙ outside))

    absent_open : (k : ℕ) → (k < length g.edges) × IsTrue (is_open g P o k) → (k < length g.edges) × (present P k ≡ false)
    absent_open k h = (h.0, not-true (present P k) (and_parts (not (present P k)) (not (get_or o (edge_at g k).to false)) h.1).0)

-- the nodes' own edges that are open
flat_open : (g : Digraph) (P o : List Bool) (us : List ℕ) (k : ℕ) → IsTrue (has (flat_map (λ u. filter (is_open g P o) (leaving g u)) us) k) → (k < length g.edges) × IsTrue (is_open g P o k)
flat_open g P o [] k h = absurd cc
flat_open g P o (u ∷ us) k h = elim (has_append_cases (filter (is_open g P o) (leaving g u)) (flat_map (λ v. filter (is_open g P o) (leaving g v)) us) k h) [
  | inl here ↦ (let f = filter_has (is_open g P o) (leaving g u) k here in ((places_at (λ e. e.from) g u k f.0).0, f.1))
  | inr later ↦ flat_open g P o us k later
]

pub fresh_open : (g : Digraph) (P o : List Bool) (us fresh : List ℕ) → fresh ≡ [] ++ flat_map (λ u. filter (is_open g P o) (leaving g u)) us → All (λ k. (k < length g.edges) × IsTrue (is_open g P o k)) fresh
fresh_open g P o us fresh e =
    subst (λ (ks : List ℕ). All (λ k. (k < length g.edges) × IsTrue (is_open g P o k)) ks) (sym e)
    (all_by (λ k. (k < length g.edges) × IsTrue (is_open g P o k)) (flat_map (λ u. filter (is_open g P o) (leaving g u)) us) (λ k t. flat_open g P o us k t))

-- the nodes that joined are nodes
pub joined_known : {g : Digraph} {m o : List Bool} {us ws : List ℕ} (n : ℕ) → IsJoined g m us o ws → All (λ u. u < g.nodes) (drop n ws)
joined_known {g = g} {ws = ws} n joined = λ i d lt.
    let l : n + i < length ws = omega (arith, lt, length-drop n ws) in
    subst (λ (u : ℕ). u < g.nodes) (sym (get_or-drop n ws i d)) (joined.now.known (n + i) d l)
