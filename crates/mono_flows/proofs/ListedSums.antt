-- Amounts that are looked at one by one: their edges are marked, and they are added up at the ends of their edges.
use Rattle.std.proofs.Common.{◌≡◌, ◌≢◌, ℕ, ◌+◌, ◌*◌, ◌<◌, ◌≤◌, Bool, true, false, not, ◌&&◌, List, [], ◌∷◌, ◌++◌, cond, length, get_or, set, take, map, sum_by, refl, sym, ap, subst, ◌∙◌, inl, inr, arith}
use Rattle.std.specs.Prelude.{IsTrue, All, count_by, if◌then◌else◌}
use Rattle.std.specs.List.{list_all}
use Rattle.std.proofs.lemmas.Bool.{and_from, cases_eq, both_ways, eq-eqb, ne_eqb, false_from_ne_true}
use Rattle.std.proofs.lemmas.List.{get_or-set_same, get_or-set_other, length-set, take_more, take-map, map-append}
use Rattle.std.proofs.lemmas.List.Elements.{All-more}
use Rattle.std.proofs.lemmas.List.Folds.{list_all_more}
use Rattle.std.proofs.lemmas.List.Sums.{sum_by-set, sum_by_more, sum_by-cons, count_by-le-length}
use Rattle.mono_base.specs.declared.limits.TheConstants.{MAX_WEIGHT}
use Rattle.mono_graph.specs.declared.edge.Edge.{Edge}
use Rattle.mono_graph.specs.Digraph.{Digraph, edge_at, has, is_distinct}
use Rattle.mono_graph.proofs.Membership.{has_here, has_there}
use Rattle.mono_graph.specs.declared.amount.Amount.{Amount}
use Rattle.mono_flows.specs.Listed.{edges_of, can_carry, at_end}
use Rattle.mono_graph.proofs.Prefixes.{distinct_new, not_distinct, distinct_take, marked_more, take_has}

abbrev pub no_amount : Amount
no_amount = record { edge = 0; amount = 0 }

-- the numbers of the first amounts, and of one more
pub ends_more : (f : Amount → ℕ) (xs : List Amount) (i : ℕ) (a : Amount) → i < length xs → a ≡ get_or xs i no_amount → map f (take (i + 1) xs) ≡ map f (take i xs) ++ f a ∷ []
ends_more f xs i a lt is =
    ap (λ (ys : List Amount). map f ys) (take_more xs i no_amount lt)
    ∙ (map-append f (take i xs) (get_or xs i no_amount ∷ [])
    ∙ ap (λ (b : Amount). map f (take i xs) ++ f b ∷ []) (sym is))

pub fewer : (marks : List Bool) (u : ℕ) → u < length marks → get_or marks u false ≡ false → count_by (λ b. not b) (set marks u true) + 1 ≡ count_by (λ b. not b) marks
fewer marks u lt off =
    let moved = sum_by-set (λ (b : Bool). cond (not b) 1 0) marks u true false lt in
    let one : ℕ = 1 in
    let was : cond (not (get_or marks u false)) one 0 ≡ one = ap (λ (b : Bool). cond (not b) one 0) off in
    omega (arith, moved, was)

-- the first amounts pass, and their places are marked
pub record AreMarked (g : Digraph) (P : List Bool) (listed : List Bool) (amounts : List Amount) (i : ℕ) : Type 0 where
  pub len : length listed ≡ length g.edges
  pub marked : (k : ℕ) → get_or listed k false ≡ has (edges_of (take i amounts)) k
  pub distinct : IsTrue (is_distinct (edges_of (take i amounts)))
  pub carried : IsTrue (list_all (can_carry g P) (take i amounts))
  pub count : count_by (λ b. not b) listed + i ≤ length g.edges
  pub small : All (λ a. a.amount ≤ MAX_WEIGHT) (take i amounts)

pub edges_marked_none : (g : Digraph) (P : List Bool) (listed : List Bool) (amounts : List Amount) → length listed ≡ length g.edges → ((k : ℕ) → get_or listed k false ≡ false) → AreMarked g P listed amounts 0
edges_marked_none g P listed amounts len clear = record {
  len = len;
  marked = λ k. clear k;
  distinct = refl;
  carried = refl;
  count = omega (arith, len, count_by-le-length (λ (b : Bool). not b) listed);
  small = λ k d lt. absurd (omega arith);
}

pub edges_marked_more : (g : Digraph) (P : List Bool) (listed : List Bool) (amounts : List Amount) (i : ℕ) (a : Amount) → i < length amounts → a ≡ get_or amounts i no_amount → a.edge < length g.edges
    → get_or listed a.edge false ≡ false → IsTrue (can_carry g P a) → a.amount ≤ MAX_WEIGHT → AreMarked g P listed amounts i → AreMarked g P (set listed a.edge true) amounts (i + 1)
edges_marked_more g P listed amounts i a lt is known new passes small x =
    let more : edges_of (take (i + 1) amounts) ≡ edges_of (take i amounts) ++ a.edge ∷ [] = ends_more (λ b. b.edge) amounts i a lt is in
    let room : a.edge < length listed = let len = x.len in omega arith in
    record {
      len = length-set listed a.edge true ∙ x.len;
      marked = λ k. marked_more listed (edges_of (take i amounts)) a.edge room x.marked k ∙ sym (ap (λ (ks : List ℕ). has ks k) more);
      distinct = subst (λ (ks : List ℕ). IsTrue (is_distinct ks)) (sym more) (distinct_new (edges_of (take i amounts)) a.edge x.distinct (sym (x.marked a.edge) ∙ new));
      carried = list_all_more (can_carry g P) amounts i no_amount lt ∙ and_from (list_all (can_carry g P) (take i amounts)) (can_carry g P (get_or amounts i no_amount)) x.carried (subst (λ (b : Amount). IsTrue (can_carry g P b)) is passes);
      count = let c = x.count in omega (arith, c, fewer listed a.edge room new);
      small = All-more (λ b. b.amount ≤ MAX_WEIGHT) amounts i no_amount lt x.small (subst (λ (b : Amount). b.amount ≤ MAX_WEIGHT) is small);
    }

-- an edge that comes again, and one that can't carry its amount
pub edge_again : (g : Digraph) (P : List Bool) (listed : List Bool) (amounts : List Amount) (i : ℕ) (a : Amount) → i < length amounts → a ≡ get_or amounts i no_amount → AreMarked g P listed amounts i
    → get_or listed a.edge false ≡ true → is_distinct (edges_of amounts) ≡ false
edge_again g P listed amounts i a lt is x again = false_from_ne_true (is_distinct (edges_of amounts)) (λ d.
    let more : edges_of (take (i + 1) amounts) ≡ edges_of (take i amounts) ++ a.edge ∷ [] = ends_more (λ b. b.edge) amounts i a lt is in
    not_distinct (edges_of (take i amounts)) a.edge (sym (x.marked a.edge) ∙ again)
    (subst (λ (ks : List ℕ). IsTrue (is_distinct ks)) (take-map (λ (b : Amount). b.edge) (i + 1) amounts ∙ more) (distinct_take (edges_of amounts) (i + 1) d)))

pub fails_first : (p q : Bool) → p ≡ false → false ≡ (p && q)
fails_first p q e = rw e refl

pub fails_then : (p q : Bool) → q ≡ false → false ≡ (p && q)
fails_then true q e = sym e
fails_then false q e = refl

-- the marked places are listed, however far the list was gone through
pub marked_listed : (amounts : List Amount) (i k : ℕ) → IsTrue (has (edges_of (take i amounts)) k) → IsTrue (has (edges_of amounts) k)
marked_listed amounts i k h = take_has (edges_of amounts) i k (subst (λ (ks : List ℕ). IsTrue (has ks k)) (sym (take-map (λ (a : Amount). a.edge) i amounts)) h)

-- ---- sums

-- what stands at the nodes is what the first amounts carry at this end
pub record AreAdded (end : Edge → ℕ) (g : Digraph) (sums : List ℕ) (amounts : List Amount) (i : ℕ) : Type 0 where
  pub len : length sums ≡ g.nodes
  pub each : (u : ℕ) → get_or sums u 0 ≡ sum_by (at_end end g u) (take i amounts)
  pub small : (u : ℕ) → get_or sums u 0 ≤ i * MAX_WEIGHT

pub added_none : (end : Edge → ℕ) (g : Digraph) (sums : List ℕ) (amounts : List Amount) → length sums ≡ g.nodes → ((u : ℕ) → get_or sums u 0 ≡ 0) → AreAdded end g sums amounts 0
added_none end g sums amounts len clear = record { len = len; each = λ u. clear u; small = λ u. omega (arith, clear u) }

pub added_more : (end : Edge → ℕ) (g : Digraph) (sums : List ℕ) (amounts : List Amount) (i : ℕ) (a : Amount) (v old : ℕ) → i < length amounts → a ≡ get_or amounts i no_amount → v ≡ end (edge_at g a.edge) → v < g.nodes
    → a.amount ≤ MAX_WEIGHT → old ≡ get_or sums v 0 → AreAdded end g sums amounts i → AreAdded end g (set sums v (old + a.amount)) amounts (i + 1)
added_more end g sums amounts i a v old lt is at inside small was x =
    let room : v < length sums = let len = x.len in omega arith in
    let one : (u : ℕ) → sum_by (at_end end g u) (take (i + 1) amounts) ≡ sum_by (at_end end g u) (take i amounts) + at_end end g u a =
    λ u. sum_by_more (at_end end g u) amounts i no_amount lt ∙ ap (λ (b : Amount). sum_by (at_end end g u) (take i amounts) + at_end end g u b) (sym is) in
    record {
      len = length-set sums v (old + a.amount) ∙ x.len;
      each = λ u. elim (cases_eq v u) [
        | inl e ↦
            let here : at_end end g u a ≡ a.amount = ap (λ (b : Bool). if b then a.amount else 0) (eq-eqb (end (edge_at g a.edge)) u (sym at ∙ e)) in
            let new : get_or (set sums v (old + a.amount)) u 0 ≡ old + a.amount = subst (λ (w : ℕ). get_or (set sums v (old + a.amount)) w 0 ≡ old + a.amount) e (get_or-set_same sums v (old + a.amount) 0 room) in
            let before : old ≡ sum_by (at_end end g u) (take i amounts) = was ∙ (ap (λ (w : ℕ). get_or sums w 0) e ∙ x.each u) in
            new ∙ sym (one u ∙ (ap (λ (w : ℕ). sum_by (at_end end g u) (take i amounts) + w) here ∙ ap (λ (w : ℕ). w + a.amount) (sym before)))
        | inr ne ↦
            let zero_here : at_end end g u a ≡ 0 = ap (λ (b : Bool). if b then a.amount else 0) (ne_eqb (end (edge_at g a.edge)) u (λ q. ne (at ∙ q))) in
            get_or-set_other sums v u (old + a.amount) 0 (λ q. ne (sym q)) ∙ (x.each u ∙ sym (one u ∙ (ap (λ (w : ℕ). sum_by (at_end end g u) (take i amounts) + w) zero_here ∙ plus_zero (sum_by (at_end end g u) (take i amounts)))))
      ];
      small = λ u. elim (cases_eq v u) [
        | inl e ↦
            let new : get_or (set sums v (old + a.amount)) u 0 ≡ old + a.amount = subst (λ (w : ℕ). get_or (set sums v (old + a.amount)) w 0 ≡ old + a.amount) e (get_or-set_same sums v (old + a.amount) 0 room) in
            let b = x.small v in omega (arith, new, b, was)
        | inr ne ↦ let same = get_or-set_other sums v u (old + a.amount) 0 (λ q. ne (sym q)) in let b = x.small u in omega (arith, same, b)
      ];
    }
  where
    plus_zero : (n : ℕ) → n + 0 ≡ n
    plus_zero n = omega arith

-- at a node that no listed edge has amounts this end, nothing is carried
pub not_ended : (end : Edge → ℕ) (g : Digraph) (amounts : List Amount) (u : ℕ) → has (map (λ a. end (edge_at g a.edge)) amounts) u ≡ false → sum_by (at_end end g u) amounts ≡ 0
not_ended end g [] u h = refl
not_ended end g (a ∷ amounts) u h =
    let apart : end (edge_at g a.edge) ≢ u = λ e. both_ways (has (map (λ b. end (edge_at g b.edge)) (a ∷ amounts)) u) h
    (subst (λ (w : ℕ). IsTrue (has (map (λ b. end (edge_at g b.edge)) (a ∷ amounts)) w)) e (has_here (end (edge_at g a.edge)) (map (λ b. end (edge_at g b.edge)) amounts))) in
    let absent : has (map (λ b. end (edge_at g b.edge)) amounts) u ≡ false = false_from_ne_true (has (map (λ b. end (edge_at g b.edge)) amounts) u)
    (λ t. both_ways (has (map (λ b. end (edge_at g b.edge)) (a ∷ amounts)) u) h (has_there (end (edge_at g a.edge)) u (map (λ b. end (edge_at g b.edge)) amounts) t)) in
    let off : at_end end g u a ≡ 0 = ap (λ (b : Bool). if b then a.amount else 0) (ne_eqb (end (edge_at g a.edge)) u apart) in
    sum_by-cons (at_end end g u) a amounts ∙ omega (arith, off, not_ended end g amounts u absent)
