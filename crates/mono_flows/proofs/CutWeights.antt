-- The weight of the edges that leave a set, node by node.
use Rattle.std.proofs.Common.{◌≡◌, ℕ, ◌+◌, ◌*◌, ◌<◌, ◌≤◌, ◌⊎◌, Bool, true, false, not, ◌&&◌, ◌==◌, ◌++◌, List, [], ◌∷◌, length, get_or, set, take, filter, sum_by, refl, sym, ap, subst, ◌∙◌, inl, inr, arith, ℤ, pos, int_lt}
use Rattle.std.specs.Prelude.{IsTrue, count_by, if◌then◌else◌}
use Rattle.std.proofs.lemmas.Bool.{and_from, not_from_false, cases_eq, eq-eqb, ne_eqb}
use Rattle.std.proofs.lemmas.List.{take_more, length-set}
use Rattle.std.proofs.lemmas.List.Sums.{count_by-le-length}
use Rattle.mono_base.specs.declared.limits.TheConstants.{MAX_EDGES, MAX_WEIGHT}
use Rattle.mono_graph.specs.Digraph.{Digraph, present, present_by, places, edge_at, has, leads_out, leaving, weight_of}
use Rattle.mono_graph.specs.Flows.{is_flow_cut}
use Rattle.mono_graph.proofs.CutsBoundFlows.{total, total_is}
use Rattle.mono_flows.specs.Cuts.{weight_out}
use Rattle.mono_graph.proofs.Prefixes.{has_new, has_other, has_again, marked_more}
use Rattle.mono_flows.proofs.ListedSums.{fewer}

same_test : (f : ℕ → ℕ) (p q : ℕ → Bool) (ks : List ℕ) → ((k : ℕ) → p k ≡ q k) → total f p ks ≡ total f q ks
same_test f p q [] h = refl
same_test f p q (k ∷ ks) h = rw (h k) (ap (λ (m : ℕ). (if q k then f k else 0) + m) (same_test f p q ks h))

-- the edges that start in the set, with one more node
with_new : (f from : ℕ → ℕ) (s : List ℕ) (u : ℕ) (ks : List ℕ) → has s u ≡ false
    → total f (λ k. has (s ++ u ∷ []) (from k)) ks ≡ total f (λ k. has s (from k)) ks + total f (λ k. from k == u) ks
with_new f from s u [] absent = refl
with_new f from s u (k ∷ ks) absent =
    let rest = with_new f from s u ks absent in
    elim (cases_eq u (from k)) [
      | inl e ↦ one (has (s ++ u ∷ []) (from k)) (has s (from k)) (from k == u) (f k) _ _ _
          (subst (λ (v : ℕ). IsTrue (has (s ++ u ∷ []) v)) e (has_new s u)) (subst (λ (v : ℕ). has s v ≡ false) e absent) (eq-eqb (from k) u (sym e)) rest
      | inr ne ↦ other (has (s ++ u ∷ []) (from k)) (has s (from k)) (from k == u) (f k) _ _ _ (has_other s u (from k) ne) (ne_eqb (from k) u (λ q. ne (sym q))) rest
    ]
  where
    one : (b c d : Bool) (w r r' r'' : ℕ) → b ≡ true → c ≡ false → d ≡ true → r ≡ r' + r'' → (if b then w else 0) + r ≡ ((if c then w else 0) + r') + ((if d then w else 0) + r'')
    one b c d w r r' r'' eb ec ed e = rw (eb, ec, ed) (omega (arith, e))

    other : (b c d : Bool) (w r r' r'' : ℕ) → b ≡ c → d ≡ false → r ≡ r' + r'' → (if b then w else 0) + r ≡ ((if c then w else 0) + r') + ((if d then w else 0) + r'')
    other b c d w r r' r'' eb ed e = rw (eb, ed) (omega (arith, e))

abbrev pub weight_from : Digraph → List Bool → List Bool → List ℕ → ℕ
weight_from g P inside s = sum_by (weight_out g P inside) (filter (λ k. has s (edge_at g k).from) (places g))

pub weight_new : (g : Digraph) (P inside : List Bool) (s : List ℕ) (u : ℕ) → has s u ≡ false → weight_from g P inside (s ++ u ∷ []) ≡ weight_from g P inside s + sum_by (weight_out g P inside) (leaving g u)
weight_new g P inside s u absent =
    rw (total_is (weight_out g P inside) (λ k. has (s ++ u ∷ []) (edge_at g k).from) (places g), total_is (weight_out g P inside) (λ k. has s (edge_at g k).from) (places g), total_is (weight_out g P inside) (λ k. (edge_at g k).from == u) (places g))
    (with_new (weight_out g P inside) (λ k. (edge_at g k).from) s u (places g) absent)

pub weight_again : (g : Digraph) (P inside : List Bool) (s : List ℕ) (u : ℕ) → IsTrue (has s u) → weight_from g P inside (s ++ u ∷ []) ≡ weight_from g P inside s
weight_again g P inside s u there =
    total_is (weight_out g P inside) (λ k. has (s ++ u ∷ []) (edge_at g k).from) (places g)
    ∙ (same_test (weight_out g P inside) (λ k. has (s ++ u ∷ []) (edge_at g k).from) (λ k. has s (edge_at g k).from) (places g) (λ k. has_again s u (edge_at g k).from there)
    ∙ sym (total_is (weight_out g P inside) (λ k. has s (edge_at g k).from) (places g)))

pub weight_none : (g : Digraph) (P inside : List Bool) → weight_from g P inside [] ≡ 0
weight_none g P inside = total_is (weight_out g P inside) (λ k. false) (places g) ∙ nothing (places g)
  where
    nothing : (ks : List ℕ) → total (weight_out g P inside) (λ k. false) ks ≡ 0
    nothing [] = refl
    nothing (k ∷ ks) = omega (arith, nothing ks)

-- where the marks are those of the set, that is what leaves the set
leaves_set : (g : Digraph) (P inside : List Bool) (s : List ℕ) → ((u : ℕ) → get_or inside u false ≡ has s u) → (ks : List ℕ)
    → total (weight_out g P inside) (λ k. has s (edge_at g k).from) ks ≡ total (λ k. (edge_at g k).weight) (λ k. present P k && leads_out s (edge_at g k)) ks
leaves_set g P inside s m [] = refl
leaves_set g P inside s m (k ∷ ks) =
    one (has s (edge_at g k).from) (present P k) (get_or inside (edge_at g k).to false) (has s (edge_at g k).to) (edge_at g k).weight _ _ (m (edge_at g k).to) (leaves_set g P inside s m ks)
  where
    flat : (f p t : Bool) (w r r' : ℕ) → r ≡ r' → (if f then (if (p && not t) then w else 0) else 0) + r ≡ (if (p && (f && not t)) then w else 0) + r'
    flat true true true w r r' e = omega (arith, e)
    flat true true false w r r' e = omega (arith, e)
    flat true false t w r r' e = omega (arith, e)
    flat false true t w r r' e = omega (arith, e)
    flat false false t w r r' e = omega (arith, e)

    one : (f p t t' : Bool) (w r r' : ℕ) → t ≡ t' → r ≡ r' → (if f then (if (p && not t) then w else 0) else 0) + r ≡ (if (p && (f && not t')) then w else 0) + r'
    one f p t t' w r r' et er = rw et (flat f p t' w r r' er)

pub cut_weight : (g : Digraph) (P inside : List Bool) (s : List ℕ) → ((u : ℕ) → get_or inside u false ≡ has s u) → weight_from g P inside s ≡ weight_of g (present_by (leads_out s) g P)
cut_weight g P inside s m =
    total_is (weight_out g P inside) (λ k. has s (edge_at g k).from) (places g)
    ∙ (leaves_set g P inside s m (places g)
    ∙ sym (total_is (λ k. (edge_at g k).weight) (λ k. present P k && leads_out s (edge_at g k)) (places g)))

-- ---- node by node

-- the weight that leaves the first nodes of the list, which are those that are counted. It leaves room for the others
pub record Weighed (g : Digraph) (P inside counted : List Bool) (nodes : List ℕ) (i weight : ℕ) : Type 0 where
  pub exact : weight ≡ weight_from g P inside (take i nodes)
  pub bound : weight + count_by (λ b. not b) counted * (MAX_EDGES * MAX_WEIGHT) ≤ g.nodes * (MAX_EDGES * MAX_WEIGHT)
  pub len : length counted ≡ g.nodes
  pub marked : (u : ℕ) → get_or counted u false ≡ has (take i nodes) u

pub weighed_none : (g : Digraph) (P inside counted : List Bool) (nodes : List ℕ) → length counted ≡ g.nodes → ((u : ℕ) → get_or counted u false ≡ false) → Weighed g P inside counted nodes 0 0
weighed_none g P inside counted nodes len clear = record {
  exact = sym (weight_none g P inside);
  bound = omega (arith, len, count_by-le-length (λ (b : Bool). not b) counted);
  len = len;
  marked = λ u. clear u;
}

pub weighed_new : (g : Digraph) (P inside counted : List Bool) (nodes : List ℕ) (i weight more u : ℕ) → i < length nodes → u ≡ get_or nodes i 0 → u < g.nodes → get_or counted u false ≡ false
    → more ≡ sum_by (weight_out g P inside) (leaving g u) → more ≤ MAX_EDGES * MAX_WEIGHT → Weighed g P inside counted nodes i weight → Weighed g P inside (set counted u true) nodes (i + 1) (weight + more)
weighed_new g P inside counted nodes i weight more u lt is within new more-is small w =
    let next : take (i + 1) nodes ≡ take i nodes ++ u ∷ [] = take_more nodes i 0 lt ∙ ap (λ (v : ℕ). take i nodes ++ v ∷ []) (sym is) in
    let room : u < length counted = let len = w.len in omega arith in
    record {
      exact = ap (λ (m : ℕ). m + more) w.exact ∙ (ap (λ (m : ℕ). weight_from g P inside (take i nodes) + m) more-is
          ∙ (sym (weight_new g P inside (take i nodes) u (sym (w.marked u) ∙ new)) ∙ sym (ap (λ (s : List ℕ). weight_from g P inside s) next)));
      bound = let b = w.bound in omega (arith, b, small, fewer counted u room new);
      len = length-set counted u true ∙ w.len;
      marked = λ v. marked_more counted (take i nodes) u room w.marked v ∙ sym (ap (λ (s : List ℕ). has s v) next);
    }

pub weighed_again : (g : Digraph) (P inside counted : List Bool) (nodes : List ℕ) (i weight u : ℕ) → i < length nodes → u ≡ get_or nodes i 0 → get_or counted u false ≡ true
    → Weighed g P inside counted nodes i weight → Weighed g P inside counted nodes (i + 1) weight
weighed_again g P inside counted nodes i weight u lt is old w =
    let next : take (i + 1) nodes ≡ take i nodes ++ u ∷ [] = take_more nodes i 0 lt ∙ ap (λ (v : ℕ). take i nodes ++ v ∷ []) (sym is) in
    let there : IsTrue (has (take i nodes) u) = sym (w.marked u) ∙ old in
    record {
      exact = w.exact ∙ (sym (weight_again g P inside (take i nodes) u there) ∙ sym (ap (λ (s : List ℕ). weight_from g P inside s) next));
      bound = w.bound;
      len = w.len;
      marked = λ v. w.marked v ∙ (sym (has_again (take i nodes) u v there) ∙ sym (ap (λ (s : List ℕ). has s v) next));
    }

-- ---- the answer

pub cut_answer : (g : Digraph) (P inside : List Bool) (s : List ℕ) (u v : ℕ) (least : ℤ) (weight : ℕ) → ((w : ℕ) → get_or inside w false ≡ has s w) → get_or inside u false ≡ true → get_or inside v false ≡ false
    → weight ≡ weight_from g P inside s → int_lt (pos weight) least ≡ is_flow_cut g P u v least s
cut_answer g P inside s u v least weight m from to is =
    ap (λ (x : ℕ). int_lt (pos x) least) (is ∙ cut_weight g P inside s m)
    ∙ sym (ap (λ (b : Bool). b && int_lt (pos (weight_of g (present_by (leads_out s) g P))) least)
    (and_from (has s u) (not (has s v)) (sym (m u) ∙ from) (not_from_false (has s v) (sym (m v) ∙ to))))

pub no_cut : (g : Digraph) (P inside : List Bool) (s : List ℕ) (u v : ℕ) (least : ℤ) → ((w : ℕ) → get_or inside w false ≡ has s w) → (get_or inside u false ≡ false) ⊎ (get_or inside v false ≡ true)
    → false ≡ is_flow_cut g P u v least s
no_cut g P inside s u v least m out = by_tests (has s u) (has s v) (elim out [ inl e ↦ inl (sym (m u) ∙ e) | inr e ↦ inr (sym (m v) ∙ e) ])
  where
    by_tests : (a b : Bool) → (a ≡ false) ⊎ (b ≡ true) → false ≡ ((a && not b) && int_lt (pos (weight_of g (present_by (leads_out s) g P))) least)
    by_tests false b o = refl
    by_tests true true o = refl
    by_tests true false o = elim o [ inl e ↦ absurd cc | inr e ↦ absurd cc ]
