-- The surely present edges of the first literals seen: how they grow, and what stays.
use Rattle.std.proofs.Common.{◌≡◌, ℕ, zero, suc, ◌+◌, ◌<◌, ◌≤◌, ◌⊎◌, ◌||◌, Bool, true, false, cond, List, [], ◌∷◌, length, take, get_or, eqb, refl, sym, ap, subst, ◌∙◌, inl, inr, arith, ℤ, pos, nat_abs, int_lt, take-take, All}
use Rattle.std.specs.Prelude.{IsTrue}
use Rattle.std.specs.List.{list_all}
use Rattle.std.proofs.lemmas.Bool.{cases_lt, cases_Bool, both_ways, and_parts, eq-eqb, eqb-true, ltb-true, false_from_ne_true}
use Rattle.std.proofs.Math.ListN.{get_or-eq_default}
use Rattle.std.proofs.lemmas.List.{length-take-le, take_all, take-append-le}
use Rattle.mono_base.specs.Literal.{has_lit, is_lit}
use Rattle.mono_base.specs.Partial.{is_true_in}
use Rattle.mono_graph.specs.Digraph.{Digraph, IsSubpart, is_place, present, has}
use Rattle.mono_graph.specs.Walks.{is_walk}
use Rattle.mono_graph.proofs.Parts.{part_by-larger, in_part_by}
use Rattle.mono_dynamic.specs.Arrivals.{IsGrown, GrowsAfter}
use Rattle.mono_graph.proofs.GrownWalks.{walks}
use Rattle.mono_problem.specs.Quiet.{under}
use Rattle.mono_bounds.specs.Bound.{edge_vars}
use Rattle.mono_bounds.specs.Index.{ArePlacesOf, switched}
use Rattle.mono_theory.specs.Theories.{Facts, seeing, cut_to}
use Rattle.mono_theory.proofs.PartsFollow.{IsNextOf, part_still, switched_on, vars_len}
use Rattle.mono_theory.proofs.PartsOfSides.{has_lit-take}
use Rattle.mono_bounds.proofs.Switches.{switched-at, length-switched}
use Rattle.mono_theory.specs.SureParts.{sure_parts}

-- ---- more literals, more edges

pub sure_larger : (g : Digraph) (t : List ℤ) (m n : ℕ) → m ≤ n → IsSubpart (under g (take m t)) (under g (take n t))
sure_larger g t m n le =
    part_by-larger (λ e. is_true_in (take m t) (pos e.var)) (λ e. is_true_in (take n t) (pos e.var)) g
    (λ e h. has_lit-take m (take n t) (pos e.var) (subst (λ (u : List ℤ). IsTrue (has_lit u (pos e.var))) (sym (take-take m n t le)) h))

-- where all literals were looked at, their edges are those of all literals seen
pub sure_all : (f : Facts) (n : ℕ) → n ≡ length f.seen → sure_parts f n ≡ under f.graph f.seen
sure_all f n e = ap (under f.graph) (take_all n f.seen (omega (arith, e)))

-- so many first literals have no more edges than all
pub sure_within : (f : Facts) (n : ℕ) → n ≤ length f.seen → IsSubpart (sure_parts f n) (under f.graph f.seen)
sure_within f n le = subst (λ (t : List ℤ). IsSubpart (sure_parts f n) (under f.graph t)) (take_all (length f.seen) f.seen (omega arith)) (sure_larger f.graph f.seen n (length f.seen) le)

-- before any literal no edge is surely present
pub none_sure : (f : Facts) (k : ℕ) → present (sure_parts f 0) k ≡ false
none_sure f k = false_from_ne_true (present (sure_parts f 0) k) (λ on. absurd (let lit = in_part_by (λ e. is_true_in [] (pos e.var)) f.graph k on in cc))

or_cond : (c p : Bool) → cond c true p ≡ (p || c)
or_cond true true = refl
or_cond true false = refl
or_cond false true = refl
or_cond false false = refl

pub switched_grows : (vs : List ℕ) (v : ℕ) (P : List Bool) (ks : List ℕ) → length P ≡ length vs → ArePlacesOf vs v ks → IsGrown P (switched vs v true P) ks
switched_grows vs v P ks len h = record { each = λ k. at k (cases_lt k (length vs)) }
  where
    same : (k : ℕ) → k < length vs → eqb (get_or vs k 0) v ≡ has ks k
    same k lt = elim (cases_Bool (has ks k)) [
      | inl there ↦ eq-eqb (get_or vs k 0) v (h.each k there).is ∙ sym there
      | inr none ↦ false_from_ne_true (eqb (get_or vs k 0) v) (λ e. both_ways (has ks k) none (h.all k lt (eqb-true (get_or vs k 0) v e))) ∙ sym none
    ]

    at : (k : ℕ) → (k < length vs) ⊎ (length vs ≤ k) → present (switched vs v true P) k ≡ (present P k || has ks k)
    at k (inl lt) = switched-at vs v true P k len lt ∙ ap (λ b. cond b true (present P k)) (same k lt) ∙ or_cond (has ks k) (present P k)
    at k (inr ge) =
        let none : has ks k ≡ false = false_from_ne_true (has ks k) (λ there. (let held = (h.each k there).held in absurd (omega (arith, held, ge)))) in
        get_or-eq_default (switched vs v true P) false (omega (arith, ge, length-switched vs v true P len))
        ∙ sym (ap (λ p. p || has ks k) (get_or-eq_default P false (omega (arith, ge, len))) ∙ none)

-- a positive literal brings the edges of its variable
pub sure_gains : (f : Facts) (n : ℕ) (l : ℤ) (ks : List ℕ) → IsNextOf f n l ks → int_lt (pos 0) l ≡ true → IsGrown (sure_parts f n) (sure_parts f (n + 1)) ks
sure_gains f n l ks h up =
    subst (λ (Q : List Bool). IsGrown (sure_parts f n) Q ks) (switched_on f n l false ks h up)
    (switched_grows (edge_vars f.graph) (nat_abs l) (sure_parts f n) ks (vars_len f.graph (take n f.seen) false) h.places)

pub sure_grown : (f : Facts) (n : ℕ) (l : ℤ) (ks : List ℕ) (Q : List Bool) → IsNextOf f n l ks → int_lt (pos 0) l ≡ true → Q ≡ sure_parts f (n + 1) → GrowsAfter (sure_parts f) n (n + 1) Q ks
sure_grown f n l ks Q h up is = record {
  later = omega arith;
  still = λ m low high. ap (sure_parts f) (omega (arith, low, high));
  is = sym is;
  grown = subst (λ (R : List Bool). IsGrown (sure_parts f n) R ks) (sym is) (sure_gains f n l ks h up);
}

-- a negative literal brings no edge
pub sure_still : (f : Facts) (n : ℕ) (l : ℤ) → n < length f.seen → get_or f.seen n l ≡ l → IsTrue (is_lit l) → int_lt (pos 0) l ≡ false → sure_parts f (n + 1) ≡ sure_parts f n
sure_still f n l lt at lit down = part_still f n l false lt at lit down

-- the edges that a literal leaves as they are are those from the literals before it on, up to it
pub still_until : (f : Facts) (n : ℕ) → sure_parts f (n + 1) ≡ sure_parts f n → (m : ℕ) → n ≤ m → m ≤ n + 1 → sure_parts f m ≡ sure_parts f n
still_until f n same m low high = elim (cases_lt n m) [
  | inl more ↦ ap (sure_parts f) (omega (arith, more, high)) ∙ same
  | inr le ↦ ap (sure_parts f) (omega (arith, low, le))
]

-- ---- the first literals

-- the first n literals alone have the first m of them, and so have all
pub cut_cut : (f : Facts) (m n : ℕ) → m ≤ n → cut_to m (cut_to n f) ≡ cut_to m f
cut_cut f m n le = ap (λ (t : List ℤ). let x : Facts = record { graph = f.graph; atoms = f.atoms; seen = t } in x) (take-take m n f.seen le)

-- one more literal leaves the first n
pub cut_seeing : (f : Facts) (n : ℕ) (l : ℤ) → n ≤ length f.seen → cut_to n (seeing f l) ≡ cut_to n f
cut_seeing f n l le = ap (λ (t : List ℤ). let x : Facts = record { graph = f.graph; atoms = f.atoms; seen = t } in x) (take-append-le n f.seen (l ∷ []) le)

-- the first of n literals are those of all
pub take_cut : (f : Facts) (m n : ℕ) → m ≤ n → take m (cut_to n f).seen ≡ take m f.seen
take_cut f m n le = take-take m n f.seen le

-- what only the first n literals say is said of the facts cut to them
pub parts_cut : (f : Facts) (m n : ℕ) → m ≤ n → sure_parts (cut_to n f) m ≡ sure_parts f m
parts_cut f m n le = ap (under f.graph) (take-take m n f.seen le)

-- all literals are the facts themselves
pub cut_all : (f : Facts) (n : ℕ) → n ≡ length f.seen → cut_to n f ≡ f
cut_all f n e = ap (λ (t : List ℤ). let x : Facts = record { graph = f.graph; atoms = f.atoms; seen = t } in x) (take_all n f.seen (omega (arith, e)))

pub cut_length : (f : Facts) (n : ℕ) → n ≤ length f.seen → length (cut_to n f).seen ≡ n
cut_length f n le = length-take-le n f.seen le

-- ---- walks

all_places : (g : Digraph) (ks : List ℕ) → IsTrue (list_all (is_place g) ks) → All (λ k. k < length g.edges) ks
all_places g [] h i d lt = absurd (omega (arith, lt))
all_places g (k ∷ ks) h zero d lt = ltb-true k (length g.edges) (and_parts (is_place g k) (list_all (is_place g) ks) h).0
all_places g (k ∷ ks) h (suc i) d lt = all_places g ks (and_parts (is_place g k) (list_all (is_place g) ks) h).1 i d (omega (arith, lt))

-- a walk goes over the graph's edges
pub walk_places : (g : Digraph) (P : List Bool) (u v : ℕ) (ks : List ℕ) → IsTrue (is_walk g P u v ks) → All (λ k. k < length g.edges) ks
walk_places g P u v ks h = all_places g ks (walks g P u v ks h).known
