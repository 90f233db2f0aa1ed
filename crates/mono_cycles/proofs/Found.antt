-- The nodes from which walks lead to one node, as they are found.
use Rattle.std.proofs.Common.{◌≡◌, ℕ, ◌+◌, ◌<◌, ◌≤◌, Bool, true, false, List, [], ◌∷◌, ◌++◌, length, take, get_or, set, refl, sym, ap, subst, ◌∙◌, inl, inr, arith, length-append, append_assoc, append-nil}
use Rattle.std.specs.Prelude.{IsTrue, All}
use Rattle.std.proofs.lemmas.Bool.{cases_lt, both_ways}
use Rattle.std.proofs.lemmas.List.{length-set, get_or_read, get_or-set_same, get_or-set_other, get_or_append_left, get_or_push, take-append-le, take_at}
use Rattle.std.proofs.lemmas.List.Elements.{All-push, All-nil}
use Rattle.std.proofs.lemmas.List.FromFn.{length-range_with_len}
use Rattle.std.specs.List.{range_with_len}
use Rattle.mono_graph.specs.Digraph.{Digraph, edge_at, entering, has}
use Rattle.mono_graph.specs.Walks.{is_walk}
use Rattle.mono_graph.proofs.Membership.{has_get_or, has_append_left, has_range, at_places, places_at}
use Rattle.mono_graph.proofs.Prefixes.{distinct_new, marked_more, take_has}
use Rattle.mono_graph.specs.Cycles.{rank_in}
use Rattle.mono_cycles.specs.Searches.{IsStep}
use Rattle.mono_cycles.specs.Behind.{AllClear, Continues, IsOnward, AreFound, IsPassed, IsClosed}
use Rattle.mono_graph.proofs.Pigeons.{pigeon, all_has}
use Rattle.mono_cycles.proofs.Lists.{index_of}
use Rattle.mono_cycles.proofs.Ranked.{rank_at, rank_before}
use Rattle.mono_cycles.proofs.Walking.{walk_step}

pub few_found : (g : Digraph) (P : List Bool) (nodes : List ℕ) (marks : List Bool) (onward : List ℕ) → AreFound g P nodes marks onward → length nodes ≤ g.nodes
few_found g P nodes marks onward f =
    let few = pigeon nodes (range_with_len 0 g.nodes) f.once (λ v h. (let lt : v < g.nodes = all_has (λ u. u < g.nodes) nodes v f.known h in has_range 0 g.nodes v (omega arith) (omega arith))) in
    omega (arith, few, length-range_with_len 0 g.nodes)

-- with a node that wasn't found yet there is room for it
pub room_found : (g : Digraph) (P : List Bool) (nodes : List ℕ) (marks : List Bool) (onward : List ℕ) (v : ℕ) → AreFound g P nodes marks onward → v < g.nodes → has nodes v ≡ false → length nodes < g.nodes
room_found g P nodes marks onward v f lt new =
    let few = pigeon (nodes ++ v ∷ []) (range_with_len 0 g.nodes) (distinct_new nodes v f.once new)
    (λ w h. (let below : w < g.nodes = all_has (λ u. u < g.nodes) (nodes ++ v ∷ []) w (All-push (λ u. u < g.nodes) nodes v f.known lt) h in has_range 0 g.nodes w (omega arith) (omega arith))) in
    omega (arith, few, length-range_with_len 0 g.nodes, length-append nodes (v ∷ []))

pub found_at : (g : Digraph) (P : List Bool) (n n' : List ℕ) (m m' : List Bool) (o o' : List ℕ) → n' ≡ n → m' ≡ m → o' ≡ o → AreFound g P n m o → AreFound g P n' m' o'
found_at g P n n' m m' o o' en em eo f =
    subst (λ (x : List ℕ). AreFound g P x m' o') (sym en) (subst (λ (x : List Bool). AreFound g P n x o') (sym em) (subst (λ (x : List ℕ). AreFound g P n m x) (sym eo) f))

pub found_first : (g : Digraph) (P : List Bool) (marks : List Bool) (onward : List ℕ) (v k : ℕ) → v < g.nodes → length marks ≡ g.nodes → length onward ≡ g.nodes → AllClear marks → AreFound g P (v ∷ []) (set marks v true) (set onward v k)
found_first g P marks onward v k lt ml ol clear = record {
  some = omega arith;
  marks_len = length-set marks v true ∙ ml;
  onward_len = length-set onward v k ∙ ol;
  marked = marked_more marks [] v (omega arith) clear;
  once = refl;
  known = All-push (λ u. u < g.nodes) [] v (All-nil (λ u. u < g.nodes)) lt;
  led = λ i pos low. absurd (omega arith);
}

onward_old : (g : Digraph) (P : List Bool) (nodes onward : List ℕ) (v k i : ℕ) → i < length nodes → has nodes v ≡ false → IsOnward g P (take i nodes) (get_or nodes i 0) (get_or onward (get_or nodes i 0) 0)
    → IsOnward g P (take i (nodes ++ v ∷ [])) (get_or (nodes ++ v ∷ []) i 0) (get_or (set onward v k) (get_or (nodes ++ v ∷ []) i 0) 0)
onward_old g P nodes onward v k i lt new o =
    let u : ℕ = get_or nodes i 0 in
    let ne : u ≡ v → ⊥ = λ e. both_ways (has nodes v) new (subst (λ (w : ℕ). IsTrue (has nodes w)) e (has_get_or nodes i 0 lt)) in
    subst (λ (ks : List ℕ). IsOnward g P ks (get_or (nodes ++ v ∷ []) i 0) (get_or (set onward v k) (get_or (nodes ++ v ∷ []) i 0) 0)) (sym (take-append-le i nodes (v ∷ []) (omega arith)))
    (subst (λ (w : ℕ). IsOnward g P (take i nodes) w (get_or (set onward v k) w 0)) (sym (get_or_append_left nodes (v ∷ []) 0 i lt))
    (subst (λ (j : ℕ). IsOnward g P (take i nodes) u j) (sym (get_or-set_other onward v u k 0 ne)) o))

-- one more node is found
pub found_more : (g : Digraph) (P : List Bool) (nodes : List ℕ) (marks : List Bool) (onward : List ℕ) (v k w : ℕ) → AreFound g P nodes marks onward → v < g.nodes → has nodes v ≡ false
    → IsStep g P k v w → IsTrue (has nodes w) → AreFound g P (nodes ++ v ∷ []) (set marks v true) (set onward v k)
found_more g P nodes marks onward v k w f lt new s there = record {
  some = omega (arith, length-append nodes (v ∷ []));
  marks_len = length-set marks v true ∙ f.marks_len;
  onward_len = length-set onward v k ∙ f.onward_len;
  marked = marked_more marks nodes v (let n = f.marks_len in omega arith) f.marked;
  once = distinct_new nodes v f.once new;
  known = All-push (λ u. u < g.nodes) nodes v f.known lt;
  led = λ i pos low. elim (cases_lt i (length nodes)) [
    | inl old ↦ onward_old g P nodes onward v k i old new (f.led i pos old)
    | inr late ↦
        let e : length nodes ≡ i = omega (arith, length-append nodes (v ∷ [])) in
        subst (λ (ks : List ℕ). IsOnward g P ks (get_or (nodes ++ v ∷ []) i 0) (get_or (set onward v k) (get_or (nodes ++ v ∷ []) i 0) 0)) (sym (take_at nodes (v ∷ []) i e))
        (subst (λ (x : ℕ). IsOnward g P nodes x (get_or (set onward v k) x 0)) (sym (get_or_push nodes v 0 i e))
        (subst (λ (j : ℕ). IsOnward g P nodes v j) (sym (get_or-set_same onward v k 0 (let n = f.onward_len in omega arith))) (record {
          step = record { known = s.known; here = s.here; from = s.from; to = refl };
          earlier = subst (λ (x : ℕ). IsTrue (has nodes x)) (sym s.to) there;
        })))
  ];
}

-- ---- lists that continue

pub continues_same : (ks : List ℕ) → Continues ks ks
continues_same ks = ([], sym (append-nil ks))

pub continues_push : (old ks new : List ℕ) (v : ℕ) → new ≡ ks ++ v ∷ [] → Continues old ks → Continues old new
continues_push old ks new v e c = (c.0 ++ v ∷ [], e ∙ (ap (λ (x : List ℕ). x ++ v ∷ []) c.1 ∙ append_assoc old c.0 (v ∷ [])))

pub continues_on : (a b c : List ℕ) → Continues a b → Continues b c → Continues a c
continues_on a b c p q = (p.0 ++ q.0, q.1 ∙ (ap (λ (x : List ℕ). x ++ q.0) p.1 ∙ append_assoc a p.0 q.0))

pub continues_has : (a b : List ℕ) (v : ℕ) → Continues a b → IsTrue (has a v) → IsTrue (has b v)
continues_has a b v c h = subst (λ (ks : List ℕ). IsTrue (has ks v)) (sym c.1) (has_append_left a c.0 v h)

pub continues_at : (a b : List ℕ) (i : ℕ) → Continues a b → i < length a → get_or b i 0 ≡ get_or a i 0
continues_at a b i c lt = ap (λ (ks : List ℕ). get_or ks i 0) c.1 ∙ get_or_append_left a c.0 0 i lt

pub continues_len : (a b : List ℕ) → Continues a b → length a ≤ length b
continues_len a b c = omega (arith, ap (λ (ks : List ℕ). length ks) c.1, length-append a c.0)

-- ---- edges that were passed

pub passed_on : (g : Digraph) (P : List Bool) (ranks : List ℕ) (low : ℕ) (a b : List ℕ) (k : ℕ) → Continues a b → IsPassed g P ranks low a k → IsPassed g P ranks low b k
passed_on g P ranks low a b k c p here = elim (p here) [ inl there ↦ inl (continues_has a b (edge_at g k).from c there) | inr below ↦ inr below ]

pub passed_all_on : (g : Digraph) (P : List Bool) (ranks : List ℕ) (low : ℕ) (a b ks : List ℕ) → Continues a b → All (IsPassed g P ranks low a) ks → All (IsPassed g P ranks low b) ks
passed_all_on g P ranks low a b ks c all i d lt = passed_on g P ranks low a b (get_or ks i d) c (all i d lt)

-- the edges that end at the first so many nodes were passed
pub record ArePassed (g : Digraph) (P : List Bool) (ranks : List ℕ) (low : ℕ) (nodes : List ℕ) (head : ℕ) : Type 0 where
  pub each : (i k : ℕ) → i < head → i < length nodes → k < length g.edges → (edge_at g k).to ≡ get_or nodes i 0 → IsPassed g P ranks low nodes k

pub passed_none : (g : Digraph) (P : List Bool) (ranks : List ℕ) (low : ℕ) (nodes : List ℕ) → ArePassed g P ranks low nodes 0
passed_none g P ranks low nodes = record { each = λ i k lt below known to. absurd (omega arith) }

pub passed_more : (g : Digraph) (P : List Bool) (ranks : List ℕ) (low : ℕ) (old new edges : List ℕ) (head v : ℕ) → head < length old → get_or old head 0 ≡ v → edges ≡ entering g v → Continues old new
    → ArePassed g P ranks low old head → All (IsPassed g P ranks low new) edges → ArePassed g P ranks low new (head + 1)
passed_more g P ranks low old new edges head v lt at are c p all = record {
  each = λ i k low' below known to. elim (cases_lt i head) [
    | inl earlier ↦ passed_on g P ranks low old new k c (p.each i k earlier (omega arith) known (to ∙ continues_at old new i c (omega arith)))
    | inr late ↦
        let e : head ≡ i = omega arith in
        let to' : (edge_at g k).to ≡ v = to ∙ (ap (λ (j : ℕ). get_or new j 0) (sym e) ∙ (continues_at old new head c lt ∙ at)) in
        let r = index_of edges k (subst (λ (ks : List ℕ). IsTrue (has ks k)) (sym are) (at_places (λ e. e.to) g v k known to')) in
        subst (λ (j : ℕ). IsPassed g P ranks low new j) r.2 (all r.0 0 r.1)
  ];
}

pub passed_whole : (g : Digraph) (P : List Bool) (ranks : List ℕ) (low : ℕ) (nodes : List ℕ) (head : ℕ) → length nodes ≤ head → ArePassed g P ranks low nodes head → IsClosed g P ranks low nodes
passed_whole g P ranks low nodes head le p k known h =
    let r = index_of nodes (edge_at g k).to h in
    p.each r.0 k (let lt = r.1 in omega arith) r.1 known (sym r.2)

-- ---- the way on

pub record IsWayOn (g : Digraph) (P : List Bool) (nodes : List ℕ) (from at : ℕ) (old new : List ℕ) : Type 0 where
  pub found : IsTrue (has nodes at)
  pub len : length new + rank_in nodes at ≤ length old + rank_in nodes from
  pub way : (u : ℕ) → IsTrue (is_walk g P u from old) → IsTrue (is_walk g P u at new)

pub way_none : (g : Digraph) (P : List Bool) (nodes : List ℕ) (from : ℕ) (walk : List ℕ) → IsTrue (has nodes from) → IsWayOn g P nodes from from walk walk
way_none g P nodes from walk h = record { found = h; len = omega arith; way = λ u w. w }

-- a node that was found and isn't the first has a way on, by which fewer nodes stand before
pub way_on : (g : Digraph) (P : List Bool) (nodes : List ℕ) (marks : List Bool) (onward : List ℕ) (at : ℕ) → AreFound g P nodes marks onward → IsTrue (has nodes at) → (at ≡ get_or nodes 0 0 → ⊥)
    → IsOnward g P (take (rank_in nodes at) nodes) at (get_or onward at 0) × (rank_in nodes (edge_at g (get_or onward at 0)).to < rank_in nodes at) × IsTrue (has nodes (edge_at g (get_or onward at 0)).to)
way_on g P nodes marks onward at f h ne =
    let r = rank_at nodes at h in
    let pos : 0 < rank_in nodes at = elim (cases_lt 0 (rank_in nodes at)) [ inl lt ↦ lt | inr le ↦ absurd (ne (sym r.1 ∙ ap (λ (i : ℕ). get_or nodes i 0) (let z : rank_in nodes at ≡ 0 = omega arith in z))) ] in
    let o : IsOnward g P (take (rank_in nodes at) nodes) at (get_or onward at 0) = subst (λ (v : ℕ). IsOnward g P (take (rank_in nodes at) nodes) v (get_or onward v 0)) r.1 (f.led (rank_in nodes at) pos r.0) in
    (o, rank_before nodes (rank_in nodes at) (edge_at g (get_or onward at 0)).to o.earlier, take_has nodes (rank_in nodes at) (edge_at g (get_or onward at 0)).to o.earlier)

pub way_more : (g : Digraph) (P : List Bool) (nodes : List ℕ) (marks : List Bool) (onward : List ℕ) (from at : ℕ) (old walk : List ℕ) → AreFound g P nodes marks onward → (at ≡ get_or nodes 0 0 → ⊥)
    → IsWayOn g P nodes from at old walk → IsWayOn g P nodes from (edge_at g (get_or onward at 0)).to old (walk ++ get_or onward at 0 ∷ [])
way_more g P nodes marks onward from at old walk f ne w =
    let o = way_on g P nodes marks onward at f w.found ne in
    let k : ℕ = get_or onward at 0 in
    record {
      found = o.2;
      len = let less = o.1 in let len = w.len in omega (arith, less, len, length-append walk (k ∷ []));
      way = λ u h. walk_step g P u at (edge_at g k).to k walk (w.way u h) o.0.step;
    }

-- ---- as the code reads it

pub all_into : (g : Digraph) (v : ℕ) (ks : List ℕ) → ks ≡ entering g v → All (λ k. (edge_at g k).to ≡ v) ks
all_into g v ks are i d lt = (places_at (λ e. e.to) g v (get_or ks i d) (subst (λ (js : List ℕ). IsTrue (has js (get_or ks i d))) are (has_get_or ks i d lt))).1

-- whether a node was found, as its mark says
pub is_marked : (g : Digraph) (P : List Bool) (nodes : List ℕ) (marks : List Bool) (onward : List ℕ) (v : ℕ) (r b : Bool) → AreFound g P nodes marks onward → v < g.nodes → r ≡ get_or marks v r → r ≡ b → has nodes v ≡ b
is_marked g P nodes marks onward v r b f lt read is = sym (f.marked v) ∙ (sym (get_or_read marks v r (let n = f.marks_len in omega arith) read false) ∙ is)

pub way_room : (g : Digraph) (P : List Bool) (nodes : List ℕ) (marks : List Bool) (onward : List ℕ) (from at : ℕ) (old walk : List ℕ) → AreFound g P nodes marks onward → IsTrue (has nodes from) → IsWayOn g P nodes from at old walk
    → (at ≡ get_or nodes 0 0 → ⊥) → length walk + 1 < length old + g.nodes
way_room g P nodes marks onward from at old walk f start w ne =
    let few = few_found g P nodes marks onward f in
    let low = (rank_at nodes from start).0 in
    let less = (way_on g P nodes marks onward at f w.found ne).1 in
    let len = w.len in
    omega (arith, few, low, less, len)

pub way_short : (g : Digraph) (P : List Bool) (nodes : List ℕ) (marks : List Bool) (onward : List ℕ) (from at : ℕ) (old walk : List ℕ) → AreFound g P nodes marks onward → IsTrue (has nodes from) → IsWayOn g P nodes from at old walk → length walk < length old + g.nodes
way_short g P nodes marks onward from at old walk f start w =
    let few = few_found g P nodes marks onward f in
    let low = (rank_at nodes from start).0 in
    let len = w.len in
    omega (arith, few, low, len)
