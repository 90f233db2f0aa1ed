-- The possibly present edges of the first literals seen: how they go, and what the rows of walks along them tell then.
use Rattle.std.proofs.Common.{◌≡◌, ℕ, ◌+◌, ◌<◌, ◌≤◌, Bool, true, false, not, List, [], ◌∷◌, ◌++◌, length, take, get_or, refl, sym, ap, subst, ◌∙◌, inl, inr, arith, ℤ, pos, neg_ℤ, int_lt, take-take, Option, None, Some}
use Rattle.std.specs.Prelude.{IsTrue, IfSome, All}
use Rattle.std.specs.Option.{is_some}
use Rattle.std.specs.List.{AllZip}
use Rattle.std.proofs.lemmas.Bool.{cases_lt, cases_eq, both_ways, false_from_ne_true, not-true}
use Rattle.std.proofs.lemmas.List.{get_or-map, get_or_past, length-map, length-take-le, take_more}
use Rattle.std.proofs.lemmas.List.Elements.{length_all_zip, AllZip-get_or}
use Rattle.mono_base.specs.Literal.{has_lit, is_lit, var_of}
use Rattle.mono_base.specs.Partial.{is_false_in}
use Rattle.mono_graph.specs.Digraph.{Digraph, no_edge, edge_at, present, has, IsSubpart}
use Rattle.mono_graph.specs.Walks.{bound_of, is_path}
use Rattle.mono_graph.specs.declared.edge.Edge.{Edge}
use Rattle.mono_graph.proofs.Parts.{part_by-larger}
use Rattle.mono_dynamic.specs.declared.walk_target.WalkTarget.{WalkTarget}
use Rattle.mono_dynamic.specs.Arrivals.{IsTree}
use Rattle.mono_dynamic.specs.LeastRows.{measure_of}
use Rattle.mono_dynamic.specs.Ways.{Ways, has_target, IsSameSource, IsTarget, IsTargetOf}
use Rattle.mono_dynamic.specs.Targets.{Targets, TargetRows, no_targets, targets_at, is_lacking, AreTold, IsShrunk, IsShrunkRow, IsUndoneRow, OnlyShrink}
use Rattle.mono_dynamic.proofs.Lacking.{told_kept, told_stale}
use Rattle.mono_problem.specs.Quiet.{over}
use Rattle.mono_bounds.specs.Bound.{edge_vars}
use Rattle.mono_bounds.specs.Index.{ArePlacesOf}
use Rattle.mono_theory.specs.PossibleRows.{PossibleView, AreEach, AreTargetRows, IsRenewedRow, is_cut_off, lacks_by, possible_parts, target_at}
use Rattle.mono_theory.specs.Theories.{Facts, cut_to}
use Rattle.mono_theory.proofs.PartsOfSides.{has_lit-take, unswitched_at, other_sign}

pub possible_smaller : (g : Digraph) (t : List ℤ) (m n : ℕ) → m ≤ n → IsSubpart (over g (take n t)) (over g (take m t))
possible_smaller g t m n le =
    part_by-larger (λ (e : Edge). not (is_false_in (take n t) (pos e.var))) (λ (e : Edge). not (is_false_in (take m t) (pos e.var))) g
    (λ e h. ap not (false_from_ne_true (is_false_in (take m t) (pos e.var)) (λ off.
    both_ways (is_false_in (take n t) (pos e.var)) (not-true (is_false_in (take n t) (pos e.var)) h)
    (has_lit-take m (take n t) (neg_ℤ (pos e.var)) (subst (λ (u : List ℤ). IsTrue (has_lit u (neg_ℤ (pos e.var)))) (sym (take-take m n t le)) off)))))

-- fewer edges are possibly present under all literals than under the first
pub fewer_possible : (g : Digraph) (t : List ℤ) (n : ℕ) → IsSubpart (over g t) (over g (take n t))
fewer_possible g t n =
    part_by-larger (λ (e : Edge). not (is_false_in t (pos e.var))) (λ (e : Edge). not (is_false_in (take n t) (pos e.var))) g
    (λ e free. ap not (false_from_ne_true (is_false_in (take n t) (pos e.var)) (λ on. both_ways (is_false_in t (pos e.var)) (not-true (is_false_in t (pos e.var)) free) (has_lit-take n t (neg_ℤ (pos e.var)) on))))

pub only_shrinks : (f : Facts) (n : ℕ) → OnlyShrink (possible_parts f) n
only_shrinks f n = record { each = λ i j le low. possible_smaller f.graph f.seen i j le }

-- the edges of a literal's variable are the only ones that go with it
pub possible_shrunk : (f : Facts) (n : ℕ) (l : ℤ) (ks : List ℕ) → n < length f.seen → get_or f.seen n l ≡ l
    → ((k : ℕ) → k < length f.graph.edges → (edge_at f.graph k).var ≡ var_of l → IsTrue (has ks k)) → IsShrunk (possible_parts f n) (possible_parts f (n + 1)) ks
possible_shrunk f n l ks lt at all = record {
  each = λ k here none. elim (cases_lt k (length f.graph.edges)) [
    | inl low ↦ elim (cases_eq (edge_at f.graph k).var (var_of l)) [
      | inl e ↦ absurd (both_ways (has ks k) none (all k low e))
      | inr ne ↦
          subst (λ (t : List ℤ). IsTrue (present (over f.graph t) k)) (sym more)
          (unswitched_at f.graph (take n f.seen) l k true low ne ∙ here)
    ]
    | inr past ↦
        absurd (both_ways (present (possible_parts f n) k)
        (get_or_past (possible_parts f n) k false (omega (arith, past, length-map f.graph.edges (λ (e : Edge). not (is_false_in (take n f.seen) (pos e.var)))))) here)
  ];
}
  where
    more : take (n + 1) f.seen ≡ take n f.seen ++ l ∷ []
    more = take_more f.seen n l lt ∙ ap (λ (m : ℤ). take n f.seen ++ m ∷ []) at

-- a positive literal leaves the part as it is
pub possible_same : (f : Facts) (n : ℕ) (l : ℤ) → n < length f.seen → get_or f.seen n l ≡ l → IsTrue (is_lit l) → int_lt (pos 0) l ≡ true → possible_parts f (n + 1) ≡ possible_parts f n
possible_same f n l lt at lit up =
    ap (over f.graph) (take_more f.seen n l lt ∙ ap (λ (m : ℤ). take n f.seen ++ m ∷ []) at) ∙ other_sign f.graph (take n f.seen) l true lit up

-- ---- what one row tells

told_still : (g : Digraph) (parts : ℕ → List Bool) (n : ℕ) (r : Targets) (o : Option ℕ) → r.lost ≡ o → parts (n + 1) ≡ parts n → AreTold g parts n r → AreTold g parts (n + 1) r
told_still g parts n r None e same t =
    told_kept g parts n (n + 1) [] r refl (record { each = λ k h none. subst (λ (P : List Bool). IsTrue (present P k)) (sym same) h }) e (λ P k tree h rests. absurd cc) t
told_still g parts n r (Some k) e same t = told_stale g parts n (n + 1) r refl (ap is_some e) t

like_since : (n : ℕ) (o : Option ℕ) (Q R : ℕ → Type 0) → ((s : ℕ) → s ≤ n → Q s → R s) → IfSome o (λ s. s ≤ n) → IfSome o Q → IfSome o R
like_since n None Q R step early h = tt
like_since n (Some s) Q R step early h = step s early h

-- no walk in the part is within a target's limit that the row doesn't have
abbrev AreOut : Digraph → List Bool → Targets → Type 0
AreOut g P r = All (λ (t : WalkTarget). has_target r.ways t ≡ false → (ks : List ℕ) → IsTrue (is_path g P r.ways.tree.source t.node t.limit ks) → ⊥) r.targets

told_like : (g : Digraph) (parts others : ℕ → List Bool) (n : ℕ) (r : Targets) → ((m : ℕ) → m ≤ n → others m ≡ parts m) → AreTold g parts n r → AreTold g others n r
told_like g parts others n r same t = record {
  tree = λ m le before. subst (λ (P : List Bool). IsTree g P r.ways.tree.source r.ways.tree.arrivals) (sym (same m le)) (t.tree m le before);
  priced = t.priced;
  past = t.past;
  early = t.early;
  lacking = like_since n r.since (λ s. AreOut g (parts s) r) (λ s. AreOut g (others s) r) (λ s le h. subst (λ (P : List Bool). AreOut g P r) (sym (same s le)) h) t.early t.lacking;
}

-- ---- what all rows tell

rows_like : {f : Facts} {s : PossibleView} (n : ℕ) (t : List ℤ) → ((m : ℕ) → m ≤ n → take m t ≡ take m f.seen) → AreTargetRows f n s → AreTargetRows (record { graph = f.graph; atoms = f.atoms; seen = t }) n s
rows_like {f = f} {s = s} n t same h = record {
  asks = h.asks;
  nodes = h.nodes;
  few = h.few;
  told = λ i lt. told_like f.graph (possible_parts f) (λ m. over f.graph (take m t)) n (targets_at s.rows.rows i) (λ m le. ap (over f.graph) (same m le)) (h.told i lt);
  row_len = h.row_len;
  targets = h.targets;
  own = h.own;
  asked = h.asked;
}

-- what is right for the list that was cut is right for its first literals, and the other way about
pub targets_in : (f : Facts) {s : PossibleView} (n : ℕ) → n ≤ length f.seen → AreTargetRows (cut_to n f) (length (take n f.seen)) s → AreTargetRows f n s
targets_in f {s = s} n le h =
    rows_like {f = cut_to n f} n f.seen (λ m low. sym (take-take m n f.seen low)) (subst (λ (k : ℕ). AreTargetRows (cut_to n f) k s) (length-take-le n f.seen le) h)

pub targets_cut : (f : Facts) {s : PossibleView} (n : ℕ) → n ≤ length f.seen → AreTargetRows f n s → AreTargetRows (cut_to n f) (length (take n f.seen)) s
targets_cut f {s = s} n le h =
    subst (λ (k : ℕ). AreTargetRows (cut_to n f) k s) (sym (length-take-le n f.seen le)) (rows_like {f = f} n (take n f.seen) (λ m low. take-take m n f.seen low) h)

each_of : (Is : Targets → Targets → Type 0) (olds news : List Targets) → AllZip Is olds news → AreEach Is olds news
each_of Is olds news all = record { len = sym (length_all_zip Is olds news all); each = λ i lt. AllZip-get_or Is olds news i no_targets no_targets all lt }

-- ways from the same source are asked for the same
pub same_ways : (v w : Ways) → w ≡ v → IsSameSource v w
same_ways v w is = record { nodes = ap (λ (x : Ways). x.tree.nodes) is; source = ap (λ (x : Ways). x.tree.source) is; limit = ap (λ (x : Ways). x.limit) is; cap = ap (λ (x : Ways). x.cap) is }

target_same : {v w : Ways} {t : WalkTarget} → IsSameSource v w → IsTargetOf v t → IsTargetOf w t
target_same {v = v} {w = w} {t = t} is h = record {
  known = (let known = h.known in let nodes = is.nodes in omega (arith, known, nodes));
  alike = h.alike ∙ sym (ap measure_of is.limit);
  below = subst (λ (n : ℕ). int_lt (bound_of t.limit) (pos n) ≡ true) (sym is.cap) h.below;
}

-- what a change of a row keeps
pub record IsChange (f : Facts) (n m : ℕ) (a b : Targets) : Type 0 where
  pub from : IsSameSource a.ways b.ways
  pub targets : b.targets ≡ a.targets
  pub told : AreTold f.graph (possible_parts f) n a → AreTold f.graph (possible_parts f) m b

rows_changed : {f : Facts} {s : PossibleView} (n m : ℕ) (Is : Targets → Targets → Type 0) (new : TargetRows) → new.nodes ≡ s.rows.nodes → AreEach Is s.rows.rows new.rows → ((a b : Targets) → Is a b → IsChange f n m a b) → AreTargetRows f n s
    → AreTargetRows f m (record { rows = new; row_of = s.row_of; targets = s.targets })
rows_changed {f = f} {s = s} n m Is new same all change h = record {
  asks = h.asks;
  nodes = same ∙ h.nodes;
  few = (let few = h.few in omega (arith, few, len));
  told = λ i lt. (let low : i < length s.rows.rows = omega (arith, lt, len) in (at i low).told (h.told i low));
  row_len = h.row_len;
  targets = h.targets;
  own = λ a lt. (
      let own = h.own a lt in
      let held = own.held in
      let one = at (get_or s.row_of a 0) held in
      record { held = omega (arith, held, len); source = one.from.source ∙ own.source; target = target_same one.from own.target });
  asked = record {
    each = λ a lt. subst (λ (ts : List WalkTarget). IsTarget ts (target_at s.targets a)) (sym (at (get_or s.row_of a 0) (h.own a (omega (arith, lt, h.row_len))).held).targets) (h.asked.each a lt);
  };
}
  where
    len : length s.rows.rows ≡ length new.rows
    len = sym all.len

    at : (i : ℕ) → i < length s.rows.rows → IsChange f n m (targets_at s.rows.rows i) (targets_at new.rows i)
    at i lt = change (targets_at s.rows.rows i) (targets_at new.rows i) (all.each i lt)

-- the next literal is negative, and the edges of its variable have gone
pub rows_shrunk : {f : Facts} {s : PossibleView} (n : ℕ) (ks : List ℕ) (new : TargetRows) → new.nodes ≡ s.rows.nodes → AllZip (IsShrunkRow f.graph ks (n + 1)) s.rows.rows new.rows → IsShrunk (possible_parts f n) (possible_parts f (n + 1)) ks
    → AreTargetRows f n s → AreTargetRows f (n + 1) (record { rows = new; row_of = s.row_of; targets = s.targets })
rows_shrunk {f = f} {s = s} n ks new same all shrunk h = rows_changed {f = f} {s = s} n (n + 1) (IsShrunkRow f.graph ks (n + 1)) new same (each_of (IsShrunkRow f.graph ks (n + 1)) s.rows.rows new.rows all)
    (λ a b is. record {
      from = same_ways a.ways b.ways (ap (λ (r : Targets). r.ways) is.same);
      targets = ap (λ (r : Targets). r.targets) is.same;
      told = is.told (possible_parts f) n refl shrunk;
    }) h

-- it is positive: no edge has gone
pub rows_passed : {f : Facts} {s : PossibleView} (n : ℕ) → possible_parts f (n + 1) ≡ possible_parts f n → AreTargetRows f n s → AreTargetRows f (n + 1) s
rows_passed {f = f} {s = s} n same h = record {
  asks = h.asks;
  nodes = h.nodes;
  few = h.few;
  told = λ i lt. told_still f.graph (possible_parts f) n (targets_at s.rows.rows i) (targets_at s.rows.rows i).lost refl same (h.told i lt);
  row_len = h.row_len;
  targets = h.targets;
  own = h.own;
  asked = h.asked;
}

pub rows_undone : {f : Facts} {s : PossibleView} (n kept : ℕ) (new : TargetRows) → kept ≤ n → new.nodes ≡ s.rows.nodes → AllZip (IsUndoneRow kept) s.rows.rows new.rows → AreTargetRows f n s
    → AreTargetRows f kept (record { rows = new; row_of = s.row_of; targets = s.targets })
rows_undone {f = f} {s = s} n kept new le same all h = rows_changed {f = f} {s = s} n kept (IsUndoneRow kept) new same (each_of (IsUndoneRow kept) s.rows.rows new.rows all)
    (λ a b is. record {
      from = same_ways a.ways b.ways is.ways;
      targets = is.targets;
      told = is.told f.graph (possible_parts f) n le;
    }) h

pub rows_renewed : {f : Facts} {s : PossibleView} (n : ℕ) (P : List Bool) (new : TargetRows) → P ≡ possible_parts f n → new.nodes ≡ s.rows.nodes → AreEach (IsRenewedRow f.graph P n) s.rows.rows new.rows → AreTargetRows f n s
    → AreTargetRows f n (record { rows = new; row_of = s.row_of; targets = s.targets })
rows_renewed {f = f} {s = s} n P new part same all h = rows_changed {f = f} {s = s} n n (IsRenewedRow f.graph P n) new same all
    (λ a b is. record {
      from = is.from;
      targets = is.targets;
      told = is.told (possible_parts f) (sym part) (only_shrinks f n);
    }) h

-- ---- of which atoms something is shown

-- a row that loses edges tells of no other walk that there is none
pub shrunk_shows : {f : Facts} {s : PossibleView} (n number : ℕ) (g : Digraph) (ks : List ℕ) (news : List Targets) (a : ℕ) → AreTargetRows f n s → a < length f.atoms → AllZip (IsShrunkRow g ks number) s.rows.rows news
    → lacks_by news s.row_of s.targets a ≡ is_cut_off s a
shrunk_shows {f = f} {s = s} n number g ks news a h lt all =
    ap (λ (r : Targets). is_lacking r (target_at s.targets a)) (AllZip-get_or (IsShrunkRow g ks number) s.rows.rows news (get_or s.row_of a 0) no_targets no_targets all (h.own a lt).held).same

pub undone_shows : {f : Facts} {s : PossibleView} (n kept : ℕ) (news : List Targets) (a : ℕ) → AreTargetRows f n s → a < length f.atoms → AllZip (IsUndoneRow kept) s.rows.rows news → lacks_by news s.row_of s.targets a ≡ true → is_cut_off s a ≡ true
undone_shows {f = f} {s = s} n kept news a h lt all =
    (AllZip-get_or (IsUndoneRow kept) s.rows.rows news (get_or s.row_of a 0) no_targets no_targets all (h.own a lt).held).lacking (target_at s.targets a)

-- the places of a variable are all its edges
pub all_places : (g : Digraph) (vs ks : List ℕ) (v k : ℕ) → vs ≡ edge_vars g → ArePlacesOf vs v ks → k < length g.edges → (edge_at g k).var ≡ v → IsTrue (has ks k)
all_places g vs ks v k is places lt e =
    places.all k (omega (arith, lt, ap length is, length-map g.edges (λ (e : Edge). e.var))) (ap (λ (us : List ℕ). get_or us k 0) is ∙ (get_or-map (λ (e : Edge). e.var) g.edges k no_edge 0 lt ∙ e))

pub places_known : (g : Digraph) (vs ks : List ℕ) (v : ℕ) → vs ≡ edge_vars g → ArePlacesOf vs v ks → All (λ k. k < length g.edges) ks
places_known g vs ks v is places = λ i d lt. (let held = places.held i d lt in omega (arith, held, ap length is, length-map g.edges (λ (e : Edge). e.var)))
