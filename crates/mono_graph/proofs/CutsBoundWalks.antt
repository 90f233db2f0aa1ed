-- No walk leaves a set that no present edge leaves, and labels bound the cost of walks.
use Rattle.std.proofs.Common.{◌≡◌, ℕ, ◌+◌, Bool, true, false, not, ◌&&◌, ◌==◌, List, [], ◌∷◌, length, sum_by, refl, sym, subst, arith, ℤ, pos, ◌+ℤ◌, ◌≤ℤ◌, ◌<ℤ◌, ◌≢◌, int_lt, int_le}
use Rattle.std.specs.Prelude.{IsTrue}
use Rattle.std.specs.Ordering.{int_eq}
use Rattle.std.specs.List.{list_all}
use Rattle.std.proofs.lemmas.Bool.{and_parts, eqb-true, not-true}
use Rattle.std.proofs.lemmas.Bool.Decides.{Decides-int_eq}
use Rattle.std.proofs.lemmas.List.Sums.{sum_by-cons}
use Rattle.std.proofs.lemmas.Int.{ints}
use Rattle.mono_graph.specs.Digraph.{Digraph, present, places, is_place, edge_at, has, leads_out, weight_of}
use Rattle.mono_graph.specs.Walks.{leads, is_walk, is_path, is_light, is_cut, is_labelling, is_tense, label_at, bound_of, cost_of, cost_along}
use Rattle.mono_graph.specs.declared.label.Label.{Label}
use Rattle.mono_graph.specs.declared.limit.Limit.{Limit}
use Rattle.mono_graph.specs.declared.limit.Limit.TheVariants.{Free, Steps, Weight}
use Rattle.mono_graph.proofs.Limits.{ones}
use Rattle.mono_graph.proofs.Places.{at_place}

stays_in : (p a b : Bool) → IsTrue (not (p && (a && not b))) → IsTrue p → IsTrue a → IsTrue b
stays_in p a true h e f = refl
stays_in true true false h e f = absurd cc
stays_in false a false h e f = absurd cc
stays_in true false false h e f = absurd cc

pub record IsClosed (g : Digraph) (P : List Bool) (s : List ℕ) : Type 0 where
  pub step : (k : ℕ) → IsTrue (is_place g k) → IsTrue (present P k) → IsTrue (has s (edge_at g k).from) → IsTrue (has s (edge_at g k).to)

pub stays : (g : Digraph) (P : List Bool) (s : List ℕ) → IsClosed g P s → (u : ℕ) (ks : List ℕ) (v : ℕ)
    → IsTrue (list_all (is_place g) ks) → IsTrue (list_all (present P) ks) → IsTrue (leads g u ks v) → IsTrue (has s u) → IsTrue (has s v)
stays g P s c u [] v known here way inside = subst (λ (w : ℕ). IsTrue (has s w)) (eqb-true u v way) inside
stays g P s c u (k ∷ ks) v known here way inside =
    let q = and_parts (is_place g k) (list_all (is_place g) ks) known in
    let p = and_parts (present P k) (list_all (present P) ks) here in
    let w = and_parts ((edge_at g k).from == u) (leads g (edge_at g k).to ks v) way in
    let from-is = eqb-true (edge_at g k).from u w.0 in
    stays g P s c (edge_at g k).to ks v q.1 p.1 w.1 (c.step k q.0 p.0 (subst (λ (x : ℕ). IsTrue (has s x)) (sym from-is) inside))

pub closed_by_cut : (g : Digraph) (P : List Bool) (u v : ℕ) (s : List ℕ) → IsTrue (is_cut g P u v s) → IsClosed g P s
closed_by_cut g P u v s h =
    let a = and_parts (has s u && not (has s v)) (list_all (λ k. not (present P k && leads_out s (edge_at g k))) (places g)) h in
    record {
      step = λ k known here inside.
          stays_in (present P k) (has s (edge_at g k).from) (has s (edge_at g k).to)
          (at_place (λ j. not (present P j && leads_out s (edge_at g j))) g a.1 k known) here inside;
    }

pub cut_excludes : (g : Digraph) (P : List Bool) (u v : ℕ) (s walk : List ℕ) → IsTrue (is_cut g P u v s) → IsTrue (is_walk g P u v walk) → ⊥
cut_excludes g P u v s walk cut way =
    let a = and_parts (has s u && not (has s v)) (list_all (λ k. not (present P k && leads_out s (edge_at g k))) (places g)) cut in
    let ends = and_parts (has s u) (not (has s v)) a.0 in
    let w = and_parts (list_all (is_place g) walk && list_all (present P) walk) (leads g u walk v) way in
    let k = and_parts (list_all (is_place g) walk) (list_all (present P) walk) w.0 in
    let inside = stays g P s (closed_by_cut g P u v s cut) u walk v k.0 k.1 w.1 ends.0 in
    let outside = not-true (has s v) ends.1 in
    cc

-- ---- labels

pub record IsPotential (g : Digraph) (P : List Bool) (limit : Limit) (label : ℕ → ℤ) : Type 0 where
  pub step : (k : ℕ) → IsTrue (is_place g k) → IsTrue (present P k) → label (edge_at g k).to ≤ℤ (label (edge_at g k).from +ℤ pos (cost_of limit (edge_at g k)))

pub bounded : (g : Digraph) (P : List Bool) (limit : Limit) (label : ℕ → ℤ) → IsPotential g P limit label → (u : ℕ) (ks : List ℕ) (v : ℕ)
    → IsTrue (list_all (is_place g) ks) → IsTrue (list_all (present P) ks) → IsTrue (leads g u ks v) → label v ≤ℤ (label u +ℤ pos (cost_along limit g ks))
bounded g P limit label c u [] v known here way = subst (λ (w : ℕ). label w ≤ℤ (label u +ℤ pos 0)) (eqb-true u v way) (omega (arith, ints))
bounded g P limit label c u (k ∷ ks) v known here way =
    let q = and_parts (is_place g k) (list_all (is_place g) ks) known in
    let p = and_parts (present P k) (list_all (present P) ks) here in
    let w = and_parts ((edge_at g k).from == u) (leads g (edge_at g k).to ks v) way in
    let from-is = eqb-true (edge_at g k).from u w.0 in
    let step = c.step k q.0 p.0 in
    let step' : label (edge_at g k).to ≤ℤ (label u +ℤ pos (cost_of limit (edge_at g k))) =
    subst (λ (x : ℕ). label (edge_at g k).to ≤ℤ (label x +ℤ pos (cost_of limit (edge_at g k)))) from-is step in
    let rest : label v ≤ℤ (label (edge_at g k).to +ℤ pos (sum_by (λ j. cost_of limit (edge_at g j)) ks)) = bounded g P limit label c (edge_at g k).to ks v q.1 p.1 w.1 in
    let sums : sum_by (λ j. cost_of limit (edge_at g j)) (k ∷ ks) ≡ cost_of limit (edge_at g k) + sum_by (λ j. cost_of limit (edge_at g j)) ks = sum_by-cons (λ j. cost_of limit (edge_at g j)) k ks in
    rw sums (omega (arith, ints, step', rest))

not_tense : (p b : Bool) → IsTrue (not (p && b)) → IsTrue p → b ≡ false
not_tense p false h e = refl
not_tense true true h e = absurd cc
not_tense false true h e = absurd cc

pub labels_are_potential : (g : Digraph) (P : List Bool) (limit : Limit) (label : ℕ → ℤ)
    → IsTrue (list_all (λ k. not (present P k && is_tense label limit (edge_at g k))) (places g)) → IsPotential g P limit label
labels_are_potential g P limit label h = record {
  step = λ k known here.
      let tight = not_tense (present P k) (is_tense label limit (edge_at g k)) (at_place (λ j. not (present P j && is_tense label limit (edge_at g j))) g h k known) here in
      le_from_not_lt (label (edge_at g k).from +ℤ pos (cost_of limit (edge_at g k))) (label (edge_at g k).to) tight;
}
  where
    le_from_not_lt : (x y : ℤ) → int_lt x y ≡ false → y ≤ℤ x
    le_from_not_lt x y e = grind (arith, ints)

pub lt_from_test : (x y : ℤ) → IsTrue (int_lt x y) → x <ℤ y
lt_from_test x y e = grind (arith, ints)

pub le_from_test : (x y : ℤ) → IsTrue (int_le x y) → x ≤ℤ y
le_from_test x y e = grind (arith, ints)

-- a light walk costs at most the bound
light_cost : (limit : Limit) (g : Digraph) (ks : List ℕ) → IsTrue (is_light limit g ks) → (limit ≢ Free) → pos (cost_along limit g ks) ≤ℤ bound_of limit
light_cost Free g ks h bounded = absurd (bounded refl)
light_cost (Steps most) g ks h bounded = rw (ones ks) (le_from_test (pos (length ks)) most h)
light_cost (Weight most) g ks h bounded = le_from_test (pos (weight_of g ks)) most h

pub labelling_excludes : (g : Digraph) (P : List Bool) (u v : ℕ) (limit : Limit) (ls : List Label) (walk : List ℕ) → limit ≢ Free
    → IsTrue (is_labelling g P u v limit ls) → IsTrue (is_path g P u v limit walk) → ⊥
labelling_excludes g P u v limit ls walk free h way =
    let label : ℕ → ℤ = label_at ls (bound_of limit) in
    let a = and_parts _ (list_all (λ k. not (present P k && is_tense label limit (edge_at g k))) (places g)) h in
    let b = and_parts _ (int_lt (bound_of limit) (label v)) a.0 in
    let c = and_parts _ (int_eq (label u) (pos 0)) b.0 in
    let zero-at : label u ≡ pos 0 = (Decides-int_eq (label u) (pos 0)).0 c.1 in
    let above : bound_of limit <ℤ label v = lt_from_test (bound_of limit) (label v) b.1 in
    let w = and_parts (is_walk g P u v walk) (is_light limit g walk) way in
    let w' = and_parts (list_all (is_place g) walk && list_all (present P) walk) (leads g u walk v) w.0 in
    let k = and_parts (list_all (is_place g) walk) (list_all (present P) walk) w'.0 in
    let along : label v ≤ℤ (label u +ℤ pos (cost_along limit g walk)) = bounded g P limit label (labels_are_potential g P limit label a.1) u walk v k.0 k.1 w'.1 in
    let light : pos (cost_along limit g walk) ≤ℤ bound_of limit = light_cost limit g walk w.1 free in
    let along' : label v ≤ℤ (pos 0 +ℤ pos (cost_along limit g walk)) = subst (λ (z : ℤ). label v ≤ℤ (z +ℤ pos (cost_along limit g walk))) zero-at along in
    omega (arith, ints, along', light, above)
