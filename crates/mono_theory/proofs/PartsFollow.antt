-- The part of a side follows the literals.
use Rattle.std.proofs.Common.{◌≡◌, ◌≢◌, ℕ, ◌+◌, ◌<◌, Bool, true, false, not, cond, List, [], ◌∷◌, ◌++◌, length, map, take, get_or, refl, sym, ap, subst, ◌∙◌, arith, ℤ, pos, nat_abs, int_lt, All}
use Rattle.std.specs.Prelude.{IsTrue}
use Rattle.std.proofs.lemmas.List.{get_or_default, length-map, take_more}
use Rattle.mono_base.specs.Literal.{is_lit, var_of}
use Rattle.mono_base.specs.Partial.{is_true_in, is_false_in, is_partial}
use Rattle.mono_graph.specs.declared.edge.Edge.{Edge}
use Rattle.mono_graph.specs.Digraph.{Digraph, present}
use Rattle.mono_bounds.specs.Bound.{Bound, edge_vars, assigned, unassigned, IsBoundUnder}
use Rattle.mono_bounds.specs.Index.{ArePlacesOf, switched}
use Rattle.mono_theory.specs.Supports.{part_of}
use Rattle.mono_theory.specs.Theories.{Facts}
use Rattle.mono_bounds.proofs.BoundsStay.{all_on, none_on}
use Rattle.mono_bounds.proofs.BoundsStay.{one_back, one_on}
use Rattle.mono_theory.proofs.FramesStay.{over_is, under_is}
use Rattle.mono_theory.proofs.PartsOfSides.{other_sign, part_len}
use Rattle.mono_bounds.proofs.Switches.{switched_by}

-- a literal of a frame, and the edges of its variable
pub record IsNextOf (f : Facts) (n : ℕ) (l : ℤ) (ks : List ℕ) : Type 0 where
  pub more : n < length f.seen
  pub at : get_or f.seen n l ≡ l
  pub partial : IsTrue (is_partial f.seen)
  pub places : ArePlacesOf (edge_vars f.graph) (nat_abs l) ks

-- as a frame tells it
pub next_of : (f : Facts) (n : ℕ) (l : ℤ) (ks : List ℕ) → n < length f.seen → get_or f.seen n l ≡ l → IsTrue (is_partial f.seen) → ArePlacesOf (edge_vars f.graph) (var_of (get_or f.seen n (pos 0))) ks → IsNextOf f n l ks
next_of f n l ks lt at partial places = record {
  more = lt;
  at = at;
  partial = partial;
  places = subst (λ (m : ℤ). ArePlacesOf (edge_vars f.graph) (nat_abs m) ks) (get_or_default f.seen n (pos 0) l lt ∙ at) places;
}

bounds_by : Digraph → List ℤ → Bound
bounds_by g t = record { vars = edge_vars g; places = []; under = map (λ v. is_true_in t (pos v)) (edge_vars g); over = map (λ v. not (is_false_in t (pos v))) (edge_vars g) }

held_by : (g : Digraph) (t : List ℤ) → IsBoundUnder (bounds_by g t) (edge_vars g) t
unfolding bounds_by
held_by g t = record { vars = refl; surely = refl; possibly = refl }

-- ---- a literal that changes the part

pub switched_on : (f : Facts) (n : ℕ) (l : ℤ) (b : Bool) (ks : List ℕ) → IsNextOf f n l ks → int_lt (pos 0) l ≡ not b
    → switched (edge_vars f.graph) (nat_abs l) (not b) (part_of f.graph (take n f.seen) b) ≡ part_of f.graph (take (n + 1) f.seen) b
unfolding bounds_by
switched_on f n l true ks h down =
    let before = bounds_by f.graph (take n f.seen) in
    let after = one_on before (edge_vars f.graph) f.seen n l h.more h.at h.partial (held_by f.graph (take n f.seen)) in
    ap (switched (edge_vars f.graph) (nat_abs l) false) (sym (over_is before f.graph (take n f.seen) (held_by f.graph (take n f.seen))))
    ∙ sym (ap (λ c. cond c before.over (switched (edge_vars f.graph) (nat_abs l) false before.over)) down) ∙ over_is (assigned before l) f.graph (take (n + 1) f.seen) after
switched_on f n l false ks h up =
    let before = bounds_by f.graph (take n f.seen) in
    let after = one_on before (edge_vars f.graph) f.seen n l h.more h.at h.partial (held_by f.graph (take n f.seen)) in
    ap (switched (edge_vars f.graph) (nat_abs l) true) (sym (under_is before f.graph (take n f.seen) (held_by f.graph (take n f.seen))))
    ∙ sym (ap (λ c. cond c (switched (edge_vars f.graph) (nat_abs l) true before.under) before.under) up) ∙ under_is (assigned before l) f.graph (take (n + 1) f.seen) after

switched_back : (f : Facts) (n : ℕ) (l : ℤ) (b : Bool) (ks : List ℕ) → IsNextOf f n l ks → int_lt (pos 0) l ≡ not b
    → switched (edge_vars f.graph) (nat_abs l) b (part_of f.graph (take (n + 1) f.seen) b) ≡ part_of f.graph (take n f.seen) b
unfolding bounds_by
switched_back f n l true ks h down =
    let after = bounds_by f.graph (take (n + 1) f.seen) in
    let before = one_back after (edge_vars f.graph) f.seen n l h.more h.at h.partial (held_by f.graph (take (n + 1) f.seen)) in
    ap (switched (edge_vars f.graph) (nat_abs l) true) (sym (over_is after f.graph (take (n + 1) f.seen) (held_by f.graph (take (n + 1) f.seen))))
    ∙ sym (ap (λ c. cond c after.over (switched (edge_vars f.graph) (nat_abs l) true after.over)) down) ∙ over_is (unassigned after l) f.graph (take n f.seen) before
switched_back f n l false ks h up =
    let after = bounds_by f.graph (take (n + 1) f.seen) in
    let before = one_back after (edge_vars f.graph) f.seen n l h.more h.at h.partial (held_by f.graph (take (n + 1) f.seen)) in
    ap (switched (edge_vars f.graph) (nat_abs l) false) (sym (under_is after f.graph (take (n + 1) f.seen) (held_by f.graph (take (n + 1) f.seen))))
    ∙ sym (ap (λ c. cond c (switched (edge_vars f.graph) (nat_abs l) false after.under) after.under) up) ∙ under_is (unassigned after l) f.graph (take n f.seen) before

pub vars_len : (g : Digraph) (t : List ℤ) (b : Bool) → length (part_of g t b) ≡ length (edge_vars g)
vars_len g t b = part_len g t b ∙ sym (length-map g.edges (λ (e : Edge). e.var))

-- the edges of a literal are places of the part
pub edges_held : {f : Facts} {n : ℕ} {l : ℤ} {ks : List ℕ} (t : List ℤ) (b : Bool) (P : List Bool) → P ≡ part_of f.graph t b → IsNextOf f n l ks → All (λ k. k < length P) ks
edges_held {f = f} {ks = ks} t b P is h = subst (λ (m : ℕ). All (λ k. k < m) ks) (sym (ap length is ∙ vars_len f.graph t b)) h.places.held

pub part_on : (f : Facts) (n : ℕ) (l : ℤ) (b : Bool) (ks : List ℕ) (P Q : List Bool) → IsNextOf f n l ks → int_lt (pos 0) l ≡ not b → P ≡ part_of f.graph (take n f.seen) b → length Q ≡ length P
    → ((i : ℕ) → i < length ks → present Q (get_or ks i 0) ≡ not b) → ((k : ℕ) → ((i : ℕ) → i < length ks → get_or ks i 0 ≢ k) → present Q k ≡ present P k) → Q ≡ part_of f.graph (take (n + 1) f.seen) b
part_on f n l b ks P Q h sign is len done others =
    let size = ap length is ∙ vars_len f.graph (take n f.seen) b in
    switched_by (edge_vars f.graph) ks (nat_abs l) (not b) P Q h.places size (len ∙ size) done others
    ∙ ap (switched (edge_vars f.graph) (nat_abs l) (not b)) is ∙ switched_on f n l b ks h sign

pub part_back : (f : Facts) (n : ℕ) (l : ℤ) (b : Bool) (ks : List ℕ) (P Q : List Bool) → IsNextOf f n l ks → int_lt (pos 0) l ≡ not b → P ≡ part_of f.graph (take (n + 1) f.seen) b → length Q ≡ length P
    → ((i : ℕ) → i < length ks → present Q (get_or ks i 0) ≡ b) → ((k : ℕ) → ((i : ℕ) → i < length ks → get_or ks i 0 ≢ k) → present Q k ≡ present P k) → Q ≡ part_of f.graph (take n f.seen) b
part_back f n l b ks P Q h sign is len done others =
    let size = ap length is ∙ vars_len f.graph (take (n + 1) f.seen) b in
    switched_by (edge_vars f.graph) ks (nat_abs l) b P Q h.places size (len ∙ size) done others
    ∙ ap (switched (edge_vars f.graph) (nat_abs l) b) is ∙ switched_back f n l b ks h sign

-- ---- a literal of the other sign

pub part_still : (f : Facts) (n : ℕ) (l : ℤ) (b : Bool) → n < length f.seen → get_or f.seen n l ≡ l → IsTrue (is_lit l) → int_lt (pos 0) l ≡ b → part_of f.graph (take (n + 1) f.seen) b ≡ part_of f.graph (take n f.seen) b
part_still f n l b lt at lit sign =
    ap (λ (t : List ℤ). part_of f.graph t b) (take_more f.seen n l lt ∙ ap (λ (m : ℤ). take n f.seen ++ m ∷ []) at) ∙ other_sign f.graph (take n f.seen) l b lit sign

-- ---- before any literal

pub first_none : (g : Digraph) (P : List Bool) → length P ≡ length g.edges → ((k : ℕ) → present P k ≡ false) → P ≡ part_of g [] false
unfolding bounds_by
first_none g P len none =
    none_on (edge_vars g) P (len ∙ sym (length-map g.edges (λ (e : Edge). e.var))) none ∙ under_is (bounds_by g []) g [] (held_by g [])

pub first_all : (g : Digraph) (P : List Bool) → length P ≡ length g.edges → ((k : ℕ) → k < length g.edges → present P k ≡ true) → P ≡ part_of g [] true
unfolding bounds_by
first_all g P len on =
    all_on (edge_vars g) P (len ∙ sym (length-map g.edges (λ (e : Edge). e.var))) (λ k lt. on k (omega (arith, lt, length-map g.edges (λ (e : Edge). e.var)))) ∙ over_is (bounds_by g []) g [] (held_by g [])
