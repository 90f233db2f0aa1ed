-- Final labels make a cut or a labelling, and a cheap walk is within the limit.
use Rattle.std.proofs.Common.{◌≡◌, ◌≢◌, ℕ, ◌+◌, ◌<◌, ◌≤◌, Bool, true, false, not, ◌&&◌, List, [], ◌∷◌, length, map, get_or, refl, sym, ap, subst, ◌∙◌, inl, inr, arith, ℤ, pos, negsuc, ◌+ℤ◌, ◌≤ℤ◌, int_lt, int_le}
use Rattle.std.specs.Prelude.{IsTrue, All}
use Rattle.std.specs.Ordering.{int_eq}
use Rattle.std.specs.List.{list_all}
use Rattle.std.proofs.lemmas.Bool.{and_from, lt-ltb, ltb-true, eq-eqb, ne_eqb, cases_eq, cases_lt, cases_Bool, not_from_false, false_from_ne_true, both_ways}
use Rattle.std.proofs.lemmas.List.{get_or-map, length-map}
use Rattle.std.proofs.lemmas.Int.{ints}
use Rattle.mono_base.specs.declared.limits.TheConstants.{MAX_BOUND, MAX_WITNESS_VALUE}
use Rattle.mono_graph.specs.declared.label.Label.{Label}
use Rattle.mono_graph.specs.declared.limit.Limit.{Limit}
use Rattle.mono_graph.specs.declared.limit.Limit.TheVariants as limit
use Rattle.mono_graph.specs.Digraph.{Digraph, present, places, edge_at, has, leads_out, is_distinct, HasEnds, no_edge, weight_of}
use Rattle.mono_graph.specs.Walks.{is_cut, is_walk, is_path, is_light, is_labelling, is_tense, label_at, bound_of, cost_of, cost_along}
use Rattle.mono_graph.proofs.Limits.{ones}
use Rattle.mono_graph.proofs.Places.{all_of}
use Rattle.mono_graph.proofs.Membership.{has_here, has_there, has_get_or}
use Rattle.mono_paths.specs.Found.{HasBound}
use Rattle.mono_paths.specs.NodeLabels.{NodeLabels, AreReached}
use Rattle.mono_paths.specs.Spread.{label_of, IsTight, AreTight}
use Rattle.mono_paths.specs.Reaches.{IsCheap}
use Rattle.mono_paths.specs.declared.search.LabelSearch.{LabelSearch}
use Rattle.mono_paths.specs.Searches.{IsLabelSearch, source_of}

-- labels up to the cap, 0 at the one node and the cap at the other, that no present edge lowers
pub record AreFinal (g : Digraph) (P : List Bool) (limit : Limit) (u v cap : ℕ) (labels : List ℕ) : Type 0 where
  pub len : length labels ≡ g.nodes
  pub start : label_of labels u ≡ 0
  pub goal : label_of labels v ≡ cap
  pub most : (w : ℕ) → label_of labels w ≤ cap
  pub tight : AreTight g P limit labels

-- the cap and the labels of a search are such
pub record HasFinal (g : Digraph) (P : List Bool) (limit : Limit) (u v cap : ℕ) (labels : NodeLabels) : Type 0 where
  pub at_cap : labels.cap ≡ cap
  pub final : AreFinal g P limit u v cap labels.each

is_reached : (g : Digraph) (labels : List ℕ) (cap : ℕ) (us : List ℕ) → AreReached g.nodes cap labels us → (u : ℕ) → u < g.nodes → label_of labels u < cap → IsTrue (has us u)
is_reached g labels cap us r u lt low = r.below u lt ∙ lt-ltb (label_of labels u) cap low

pub reached_low : (g : Digraph) (labels : List ℕ) (cap : ℕ) (us : List ℕ) → AreReached g.nodes cap labels us → (u : ℕ) → u < g.nodes → IsTrue (has us u) → label_of labels u < cap
reached_low g labels cap us r u lt h = ltb-true (label_of labels u) cap (sym (r.below u lt) ∙ h)

within : (p a b : Bool) → (IsTrue p → IsTrue a → IsTrue b) → IsTrue (not (p && (a && not b)))
within true true true h = refl
within true true false h = absurd (let e = h refl refl in cc)
within true false true h = refl
within true false false h = refl
within false true true h = refl
within false true false h = refl
within false false true h = refl
within false false false h = refl

final_cut : (g : Digraph) (P : List Bool) (u v : ℕ) (labels us : List ℕ) → HasEnds g → u < g.nodes → v < g.nodes → AreReached g.nodes 1 labels us → AreFinal g P limit.Free u v 1 labels → IsTrue (is_cut g P u v us)
final_cut g P u v labels us graph u-in v-in r f =
    and_from (has us u && not (has us v)) (list_all (λ k. not (present P k && leads_out us (edge_at g k))) (places g))
    (and_from (has us u) (not (has us v)) (is_reached g labels 1 us r u u-in (let z = f.start in omega arith))
    (not_from_false (has us v) (false_from_ne_true (has us v) (λ t. let low = reached_low g labels 1 us r v v-in t in let goal = f.goal in absurd (omega arith)))))
    (all_of (λ k. not (present P k && leads_out us (edge_at g k))) 0 (length g.edges) (λ k low high.
    let ends = graph k no_edge (omega arith) in
    within (present P k) (has us (edge_at g k).from) (has us (edge_at g k).to) (λ here from.
    let tight : IsTight g limit.Free labels k = f.tight.each k (omega arith) here in
    let below = reached_low g labels 1 us r (edge_at g k).from ends.0 from in
    is_reached g labels 1 us r (edge_at g k).to ends.1 (omega arith))))

-- ---- labellings

abbrev pub labelled : List ℕ → ℕ → Label
labelled labels u = record { node = u; value = label_of labels u }

nodes_labelled : (labels us : List ℕ) → map (λ (l : Label). l.node) (map (labelled labels) us) ≡ us
nodes_labelled labels [] = refl
nodes_labelled labels (u ∷ us) = ap (λ (ks : List ℕ). u ∷ ks) (nodes_labelled labels us)

label_listed : (labels us : List ℕ) (most : ℤ) (w : ℕ) → IsTrue (has us w) → label_at (map (labelled labels) us) most w ≡ pos (label_of labels w)
label_listed labels [] most w h = absurd cc
label_listed labels (u ∷ us) most w h = elim (cases_eq u w) [
  | inl same ↦ rw (eq-eqb u w same) (ap (λ (x : ℕ). pos (label_of labels x)) same)
  | inr ne ↦ rw (ne_eqb u w ne) (label_listed labels us most w (let t = rw (ne_eqb u w ne) at h in t))
]

label_other : (labels us : List ℕ) (most : ℤ) (w : ℕ) → has us w ≡ false → label_at (map (labelled labels) us) most w ≡ most +ℤ pos 1
label_other labels [] most w h = refl
label_other labels (u ∷ us) most w h =
    let apart : u ≢ w = λ e. both_ways (has (u ∷ us) w) h (subst (λ (k : ℕ). IsTrue (has (u ∷ us) k)) e (has_here u us)) in
    let absent : has us w ≡ false = false_from_ne_true (has us w) (λ t. both_ways (has (u ∷ us) w) h (has_there u w us t)) in
    rw (ne_eqb u w apart) (label_other labels us most w absent)

-- each node has its label, whether it is listed or not
label_is : (g : Digraph) (P : List Bool) (u v m : ℕ) (limit : Limit) (labels us : List ℕ) → AreReached g.nodes (m + 1) labels us → AreFinal g P limit u v (m + 1) labels → (w : ℕ) → w < g.nodes
    → label_at (map (labelled labels) us) (pos m) w ≡ pos (label_of labels w)
label_is g P u v m limit labels us r f w lt = elim (cases_Bool (has us w)) [
  | inl on ↦ label_listed labels us (pos m) w on
  | inr off ↦ label_other labels us (pos m) w off ∙ at_cap (let high = f.most w in let le = not_low off in omega arith)
]
  where
    not_low : has us w ≡ false → m + 1 ≤ label_of labels w
    not_low off = elim (cases_lt (label_of labels w) (m + 1)) [
      | inl low ↦ absurd (both_ways (has us w) off (is_reached g labels (m + 1) us r w lt low))
      | inr le ↦ le
    ]

    at_cap : label_of labels w ≡ m + 1 → pos m +ℤ pos 1 ≡ pos (label_of labels w)
    at_cap e = omega (arith, ints)

loose_not : (x y : ℤ) (a b c : ℕ) → x ≡ pos a → y ≡ pos b → b ≤ a + c → int_lt (x +ℤ pos c) y ≡ false
loose_not x y a b c ex ey le = grind (arith, ints)

quiet : (p b : Bool) → (IsTrue p → b ≡ false) → IsTrue (not (p && b))
quiet true b h = not_from_false b (h refl)
quiet false b h = refl

final_labelling : (g : Digraph) (P : List Bool) (u v m : ℕ) (limit : Limit) (labels us : List ℕ) → HasEnds g → u < g.nodes → v < g.nodes → bound_of limit ≡ pos m → AreReached g.nodes (m + 1) labels us → AreFinal g P limit u v (m + 1) labels
    → IsTrue (is_labelling g P u v limit (map (labelled labels) us))
final_labelling g P u v m limit labels us graph u-in v-in bound r f =
    let ls : List Label = map (labelled labels) us in
    let label : ℕ → ℤ = label_at ls (bound_of limit) in
    let at : (w : ℕ) → w < g.nodes → label w ≡ pos (label_of labels w) =
    λ w lt. ap (λ (b : ℤ). label_at ls b w) bound ∙ label_is g P u v m limit labels us r f w lt in
    and_from _ (list_all (λ k. not (present P k && is_tense label limit (edge_at g k))) (places g))
    (and_from _ (int_lt (bound_of limit) (label v))
    (and_from (is_distinct (map (λ (l : Label). l.node) ls)) (int_eq (label u) (pos 0))
    (subst (λ (ks : List ℕ). IsTrue (is_distinct ks)) (sym (nodes_labelled labels us)) r.once)
    (same_int (label u) (pos 0) (at u u-in ∙ ap pos f.start)))
    (above (bound_of limit) (label v) m (label_of labels v) bound (at v v-in) (let goal = f.goal in omega arith)))
    (all_of (λ k. not (present P k && is_tense label limit (edge_at g k))) 0 (length g.edges) (λ k low high.
    let ends = graph k no_edge (omega arith) in
    quiet (present P k) (is_tense label limit (edge_at g k)) (λ here.
    loose_not (label (edge_at g k).from) (label (edge_at g k).to) (label_of labels (edge_at g k).from) (label_of labels (edge_at g k).to) (cost_of limit (edge_at g k))
    (at (edge_at g k).from ends.0) (at (edge_at g k).to ends.1) (f.tight.each k (omega arith) here))))
  where
    same_int : (x y : ℤ) → x ≡ y → IsTrue (int_eq x y)
    same_int x y e = grind (arith, ints)

    above : (x y : ℤ) (a b : ℕ) → x ≡ pos a → y ≡ pos b → a < b → IsTrue (int_lt x y)
    above x y a b ex ey lt = grind (arith, ints)

-- the labels are of nodes, and small where the bound is
labels_known : (g : Digraph) (labels us : List ℕ) (m : ℕ) → m ≤ MAX_BOUND → AreReached g.nodes (m + 1) labels us → All (λ (l : Label). (l.node < g.nodes) × (l.value ≤ MAX_WITNESS_VALUE)) (map (labelled labels) us)
labels_known g labels us m small r = each us r.known (λ u lt h. reached_low g labels (m + 1) us r u lt h)
  where
    one : (u : ℕ) → u < g.nodes → label_of labels u < m + 1 → ((labelled labels u).node < g.nodes) × ((labelled labels u).value ≤ MAX_WITNESS_VALUE)
    one u lt low = (lt, omega arith)

    each : (xs : List ℕ) → All (λ u. u < g.nodes) xs → ((u : ℕ) → u < g.nodes → IsTrue (has xs u) → label_of labels u < m + 1) → All (λ (l : Label). (l.node < g.nodes) × (l.value ≤ MAX_WITNESS_VALUE)) (map (labelled labels) xs)
    each xs known low = λ i d lt.
        let in-range : i < length xs = omega (arith, length-map xs (labelled labels)) in
        subst (λ (l : Label). (l.node < g.nodes) × (l.value ≤ MAX_WITNESS_VALUE)) (sym (get_or-map (labelled labels) xs i 0 d in-range))
        (one (get_or xs i 0) (known i 0 in-range) (low (get_or xs i 0) (known i 0 in-range) (has_get_or xs i 0 in-range)))

-- ---- walks within the limit

int_le_from : (a m : ℕ) (x : ℤ) → x ≡ pos m → a < m + 1 → IsTrue (int_le (pos a) x)
int_le_from a m x e lt = grind (arith, ints)

pub light : (limit : Limit) (g : Digraph) (m : ℕ) (ks : List ℕ) → bound_of limit ≡ pos m → cost_along limit g ks < m + 1 → IsTrue (is_light limit g ks)
light limit.Free g m ks e lt = refl
light (limit.Steps most) g m ks e lt = int_le_from (length ks) m most e (omega (arith, ones ks))
light (limit.Weight most) g m ks e lt = int_le_from (weight_of g ks) m most e lt

pub cheap_path : (g : Digraph) (P : List Bool) (u v m : ℕ) (limit : Limit) (ks : List ℕ) → bound_of limit ≡ pos m → IsCheap g P limit u v (m + 1) ks → IsTrue (is_path g P u v limit ks)
cheap_path g P u v m limit ks bound c = and_from (is_walk g P u v ks) (is_light limit g ks) c.walk (light limit g m ks bound c.cost)

pub bound_small : (l : Limit) (m : ℕ) → HasBound l → bound_of l ≡ pos m → m ≤ MAX_BOUND
bound_small limit.Free m b e = absurd b
bound_small (limit.Steps most) m b e = let high = b.1 in omega (arith, ints, high, e)
bound_small (limit.Weight most) m b e = let high = b.1 in omega (arith, ints, high, e)

bound_none : (l : Limit) → HasBound l → bound_of l ≤ℤ negsuc 0 → bound_of l ≡ negsuc 0
bound_none limit.Free b e = absurd b
bound_none (limit.Steps most) b e = let low = b.0 in omega (arith, ints, low, e)
bound_none (limit.Weight most) b e = let low = b.0 in omega (arith, ints, low, e)

-- under a bound of -1 the empty list is a labelling
pub empty_labelling : (g : Digraph) (P : List Bool) (u v : ℕ) (l : Limit) → HasBound l → bound_of l ≤ℤ negsuc 0 → IsTrue (is_labelling g P u v l [])
empty_labelling g P u v l bounded low = at l (bound_none l bounded low)
  where
    at : (limit : Limit) → bound_of limit ≡ negsuc 0 → IsTrue (is_labelling g P u v limit [])
    at limit e =
        and_from _ (list_all (λ k. not (present P k && is_tense (label_at [] (bound_of limit)) limit (edge_at g k))) (places g))
        (and_from _ (int_lt (bound_of limit) (bound_of limit +ℤ pos 1)) (zeroed (bound_of limit) e) (more (bound_of limit) e))
        (all_of (λ k. not (present P k && is_tense (label_at [] (bound_of limit)) limit (edge_at g k))) 0 (length g.edges) (λ k lo hi.
        quiet (present P k) (is_tense (label_at [] (bound_of limit)) limit (edge_at g k)) (λ here. still (bound_of limit) (cost_of limit (edge_at g k)) e)))
      where
        zeroed : (x : ℤ) → x ≡ negsuc 0 → IsTrue (int_eq (x +ℤ pos 1) (pos 0))
        zeroed x f = grind (arith, ints)

        more : (x : ℤ) → x ≡ negsuc 0 → IsTrue (int_lt x (x +ℤ pos 1))
        more x f = grind (arith, ints)

        still : (x : ℤ) (c : ℕ) → x ≡ negsuc 0 → int_lt ((x +ℤ pos 1) +ℤ pos c) (x +ℤ pos 1) ≡ false
        still x c f = grind (arith, ints)

-- ---- of the labels of a search

-- a search that is over has final labels
pub final : (g : Digraph) (P : List Bool) (limit : Limit) (u v cap : ℕ) (s : LabelSearch) → IsLabelSearch g P limit s → source_of s ≡ u → s.labels.cap ≡ cap → cap ≤ label_of s.labels.each v
    → AreTight g P limit s.labels.each → HasFinal g P limit u v cap s.labels
final g P limit u v cap s search source at_cap above tight = record {
  at_cap = at_cap;
  final = record {
    len = search.labelled.len;
    start = ap (λ (w : ℕ). label_of s.labels.each w) (sym source) ∙ search.labelled.start;
    goal = let most = search.labelled.most v in omega arith;
    most = λ w. let most = search.labelled.most w in omega arith;
    tight = tight;
  };
}

reached_at : (g : Digraph) (P : List Bool) (u v cap : ℕ) (limit : Limit) (labels : NodeLabels) (us : List ℕ) → length labels.each ≡ g.nodes → AreReached (length labels.each) labels.cap labels.each us → HasFinal g P limit u v cap labels → AreReached g.nodes cap labels.each us
reached_at g P u v cap limit labels us len r f =
    subst (λ (n : ℕ). AreReached n cap labels.each us) len (subst (λ (m : ℕ). AreReached (length labels.each) m labels.each us) f.at_cap r)

pub cut_found : (g : Digraph) (P : List Bool) (u v : ℕ) (labels : NodeLabels) (us : List ℕ) → HasEnds g → u < g.nodes → v < g.nodes → length labels.each ≡ g.nodes → AreReached (length labels.each) labels.cap labels.each us
    → HasFinal g P limit.Free u v 1 labels → IsTrue (is_cut g P u v us)
cut_found g P u v labels us graph u-in v-in len r f = final_cut g P u v labels.each us graph u-in v-in (reached_at g P u v 1 limit.Free labels us len r f) f.final

pub labelling_found : (g : Digraph) (P : List Bool) (u v m : ℕ) (limit : Limit) (labels : NodeLabels) (us : List ℕ) → HasEnds g → u < g.nodes → v < g.nodes → bound_of limit ≡ pos m → length labels.each ≡ g.nodes
    → AreReached (length labels.each) labels.cap labels.each us → HasFinal g P limit u v (m + 1) labels → IsTrue (is_labelling g P u v limit (map (labelled labels.each) us))
labelling_found g P u v m limit labels us graph u-in v-in bound len r f =
    final_labelling g P u v m limit labels.each us graph u-in v-in bound (reached_at g P u v (m + 1) limit labels us len r f) f.final

pub labels_found : (g : Digraph) (P : List Bool) (u v m : ℕ) (limit : Limit) (labels : NodeLabels) (us : List ℕ) → m ≤ MAX_BOUND → length labels.each ≡ g.nodes
    → AreReached (length labels.each) labels.cap labels.each us → HasFinal g P limit u v (m + 1) labels → All (λ (l : Label). (l.node < g.nodes) × (l.value ≤ MAX_WITNESS_VALUE)) (map (labelled labels.each) us)
labels_found g P u v m limit labels us small len r f = labels_known g labels.each us m small (reached_at g P u v (m + 1) limit labels us len r f)
