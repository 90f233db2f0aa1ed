-- The places of the edges at each node, after one more edge, and what they are.
use Rattle.std.proofs.Common.{◌≡◌, ◌≢◌, ℕ, zero, suc, ◌+◌, ◌<◌, ◌≤◌, Bool, not, cond, ◌⊎◌, List, [], ◌∷◌, ◌++◌, length, filter, replicate, get_or, set, refl, sym, ap, subst, ◌∙◌, inl, inr, arith, length-append}
use Rattle.std.specs.Prelude.{All, ◌==◌}
use Rattle.std.specs.List.{range_with_len}
use Rattle.std.proofs.lemmas.List.{length-set, length-replicate, get_or-replicate, get_or-set_same, get_or-set_other, get_or_append_left, get_or_push, append-nil}
use Rattle.std.proofs.lemmas.List.Filters.{length-filter_both}
use Rattle.std.proofs.lemmas.List.Elements.{All-filter, All-from_get_or}
use Rattle.std.proofs.lemmas.List.FromFn.{length-range_with_len, get_or-range_with_len}
use Rattle.std.proofs.lemmas.Bool.{cases_eq, eq-eqb, ne_eqb}
use Rattle.mono_graph.specs.declared.edge.Edge.{Edge}
use Rattle.mono_graph.proofs.Ranges.{filter_range}
use Rattle.mono_graph.specs.Digraph.{Digraph, places, edge_at, no_edge, with_edge, places_by}
use Rattle.mono_graph.specs.Kept.{AreListed}

pub filter_same : (p q : ℕ → Bool) (a n : ℕ) → ((k : ℕ) → a ≤ k → k < a + n → p k ≡ q k) → filter p (range_with_len a n) ≡ filter q (range_with_len a n)
filter_same p q a zero h = refl
filter_same p q a (suc n) h =
    rw (h a (omega arith) (omega arith)) (ap (λ (ks : List ℕ). cond (q a) (a ∷ ks) ks) (filter_same p q (a + 1) n (λ k low high. h k (omega arith) (omega arith))))

pub edge_at-with_edge : (g : Digraph) (e : Edge) (k : ℕ) → k < length g.edges → edge_at (with_edge g e) k ≡ edge_at g k
edge_at-with_edge g e k lt = get_or_append_left g.edges (e ∷ []) no_edge k lt

pub places_by-with_edge : (end : Edge → ℕ) (g : Digraph) (e : Edge) (u : ℕ)
    → places_by end (with_edge g e) u ≡ places_by end g u ++ cond (end e == u) (length g.edges ∷ []) []
places_by-with_edge end g e u =
    let n : ℕ = length g.edges in
    let p : ℕ → Bool = λ k. end (edge_at (with_edge g e) k) == u in
    let q : ℕ → Bool = λ k. end (edge_at g k) == u in
    let more : length (g.edges ++ e ∷ []) ≡ n + 1 = length-append g.edges (e ∷ []) in
    let front : filter p (range_with_len 0 n) ≡ filter q (range_with_len 0 n) =
    filter_same p q 0 n (λ k low high. ap (λ (f : Edge). end f == u) (edge_at-with_edge g e k (omega arith))) in
    let last : edge_at (with_edge g e) n ≡ e = get_or_push g.edges e no_edge n refl in
    ap (λ (m : ℕ). filter p (range_with_len 0 m)) more
    ∙ (filter_range p n
    ∙ (ap (λ (ks : List ℕ). ks ++ cond (p n) (n ∷ []) []) front
    ∙ ap (λ (f : Edge). filter q (range_with_len 0 n) ++ cond (end f == u) (n ∷ []) []) last))

-- the list at the edge's end grows by the new place, the other lists stay
pub listed-with_edge : (end : Edge → ℕ) (g : Digraph) (e : Edge) (lists : List (List ℕ)) → AreListed end g lists → end e < g.nodes
    → AreListed end (with_edge g e) (set lists (end e) (get_or lists (end e) [] ++ length g.edges ∷ []))
listed-with_edge end g e lists kept lt = record {
  len = length-set lists (end e) _ ∙ kept.len;
  each = λ u below. at u below (cases_eq (end e) u);
}
  where
    at : (u : ℕ) → u < g.nodes → (end e ≡ u) ⊎ (end e ≢ u) → get_or (set lists (end e) (get_or lists (end e) [] ++ length g.edges ∷ [])) u [] ≡ places_by end (with_edge g e) u
    at u below (inl same) =
        subst (λ (w : ℕ). get_or (set lists (end e) (get_or lists (end e) [] ++ length g.edges ∷ [])) w [] ≡ places_by end (with_edge g e) w) same
        (get_or-set_same lists (end e) _ [] (omega (arith, kept.len))
        ∙ (ap (λ (ks : List ℕ). ks ++ length g.edges ∷ []) (kept.each (end e) lt)
        ∙ (ap (λ (b : Bool). places_by end g (end e) ++ cond b (length g.edges ∷ []) []) (sym (eq-eqb (end e) (end e) refl))
        ∙ sym (places_by-with_edge end g e (end e)))))
    at u below (inr other) =
        get_or-set_other lists (end e) u _ [] (λ q. other (sym q))
        ∙ (kept.each u below
        ∙ (sym (append-nil (places_by end g u))
        ∙ (ap (λ (b : Bool). places_by end g u ++ cond b (length g.edges ∷ []) []) (sym (ne_eqb (end e) u other))
        ∙ sym (places_by-with_edge end g e u))))

pub listed-none : (end : Edge → ℕ) (n : ℕ) → AreListed end (record { nodes = n; edges = [] }) (replicate n [])
listed-none end n = record { len = length-replicate n []; each = λ u lt. get_or-replicate n u [] [] lt }

pub places_by-known : (end : Edge → ℕ) (g : Digraph) (u : ℕ) → All (λ k. k < length g.edges) (places_by end g u)
places_by-known end g u =
    All-filter (λ k. end (edge_at g k) == u) (λ k. k < length g.edges) (places g)
    (All-from_get_or (λ k. k < length g.edges) (places g) 0
    (λ i lt. rw (get_or-range_with_len 0 (length g.edges) i 0 (omega (arith, length-range_with_len 0 (length g.edges)))) (omega (arith, length-range_with_len 0 (length g.edges)))))

pub length-places_by : (end : Edge → ℕ) (g : Digraph) (u : ℕ) → length (places_by end g u) ≤ length g.edges
length-places_by end g u =
    omega (arith, length-filter_both (λ (k : ℕ). end (edge_at g k) == u) (λ k. not (end (edge_at g k) == u)) (λ k. refl) (places g), length-range_with_len 0 (length g.edges))
