-- What a theory of distances knows of nodes decides when it is quiet, and stays while literals come.
use Rattle.std.proofs.Common.{◌≡◌, ◌≢◌, ℕ, ◌<◌, ◌≤◌, ◌&&◌, Bool, true, false, not, cond, List, length, take, eqb, eq-eqb, refl, sym, ap, subst, ◌∙◌, inl, inr, arith, ℤ, pos, ◌+ℤ◌, int_le}
use Rattle.std.specs.Prelude.{IsTrue, Option, Some, None, IfSome, IsSome, ◌⊎◌}
use Rattle.std.specs.Option.{is_some}
use Rattle.std.proofs.lemmas.Bool.{and_from, cases_lt, ne_eqb}
use Rattle.std.proofs.lemmas.Int.{ints}
use Rattle.mono_graph.specs.declared.limit.Limit.{Limit}
use Rattle.mono_graph.specs.Digraph.{Digraph, IsGraph}
use Rattle.mono_graph.specs.Walks.{admits, is_light, is_path, is_walk, bound_of, cost_along}
use Rattle.mono_paths.specs.Found.{HasBound}
use Rattle.mono_graph.proofs.Limits.{light_of, low_enough}
use Rattle.mono_problem.specs.declared.atom.Atom.{Atom}
use Rattle.mono_problem.specs.declared.atom.Predicate.{Predicate}
use Rattle.mono_problem.specs.declared.atom.Predicate.TheVariants as kind
use Rattle.mono_problem.specs.Holds.{Holds}
use Rattle.mono_problem.specs.Quiet.{under, over}
use Rattle.mono_problem.specs.Read.{no_atom}
use Rattle.mono_problem.specs.WellFormed.{IsOver}
use Rattle.mono_theory.specs.declared.evidence.Evidence.{Evidence}
use Rattle.mono_theory.specs.declared.stage.Stage.{Stage}
use Rattle.mono_theory.specs.declared.stage.Stage.TheVariants as stage
use Rattle.mono_theory.specs.AtomPlaces.{place_of_atom}
use Rattle.mono_theory.specs.Asked.{asks_walk}
use Rattle.mono_theory.specs.Evidences.{Decides, shown_by}
use Rattle.mono_theory.specs.Frames.{AreAtomsOf}
use Rattle.mono_theory.specs.Sound.{IsRightIn, IsSound, evidence_at}
use Rattle.mono_theory.specs.Stages.{shows, stage_at}
use Rattle.mono_theory.specs.PossibleRows.{PossibleView, is_cut_off}
use Rattle.mono_theory.specs.Supports.{AreCovered, IsKeptBy, IsSideFor, SideView, StageIs, atom_at, facts_in, part_of}
use Rattle.mono_theory.specs.Theories.{Facts, atom_of, cut_to}
use Rattle.mono_theory.specs.declared.either_side.EitherSide.{EitherSide}
use Rattle.mono_theory.specs.declared.either_side.EitherSide.TheVariants as side
use Rattle.mono_theory.specs.EitherSides.{IsEitherKept}
use Rattle.mono_theory.specs.RowSides.{RowsView}
use Rattle.mono_theory.proofs.SureEdges.{sure_all}
use Rattle.mono_distance.specs.Distances.{is_distance, predicate_of}
use Rattle.mono_theory.proofs.PlacesOfAtoms.{place_held}
use Rattle.mono_theory.proofs.PartsOfSides.{part_len}
use Rattle.mono_theory.proofs.SidesStay.{shown_now}
use Rattle.mono_theory.proofs.KeptEvidenceDecides.{rising_decides, sound_witness}
use Rattle.mono_distance.specs.declared.node_labels.Labels.{Labels}
use Rattle.mono_distance.specs.Readings.{AreBothDecided, DistanceView, IsDecidedSide, IsPossiblyDecided, IsPossiblyRight, IsBelowEachWalk, IsRightSide, above, bound_number, labels_at, labels_in, over_at, over_known, over_of, under_at, under_in}
use Rattle.mono_distance.specs.SureLabels.{SureLabels, AreLabelsAfter, first_node, last_node, limit_of, under_label}
use Rattle.mono_distance.proofs.DistanceEvidence.{distance_rises}
use Rattle.mono_theory.proofs.AskedRows.{last_asked, limit_asked}
use Rattle.mono_theory.proofs.PossibleParts.{only_shrinks}
use Rattle.mono_theory.proofs.WalksTold.{cut_off_fails, lacking_decides, none_later}
use Rattle.mono_distance.proofs.SureLabels.{label_decides, labels_uncut, of_holds}
use Rattle.mono_distance.proofs.WitnessLabels.{above_is, none_below, up_to_above, witness_high}

-- ---- what is known decides

pub decides_by : (g : Digraph) (P : List Bool) (q : Predicate) (b c : Bool) → c ≡ b → Decides g P q b → Decides g P q c
decides_by g P q b c e h = subst (Decides g P q) (sym e) h

shown_high : (g : Digraph) (P : List Bool) (q : Predicate) (m : ℕ) (o : Option Evidence) → length P ≡ length g.edges → HasBound (limit_of q) → IsTrue (is_distance q) → IfSome o (IsSound g q false) → IsRightIn P false o
    → admits (limit_of q) (over_of (limit_of q) (last_node q) (stage.Shows m) o) ≡ false
shown_high g P q m None len bound d sound right = absurd right
shown_high g P q m (Some e) len bound d sound right = (let w = sound_witness g P q false e len sound right in witness_high g P q e.witness bound d w.rests w.passes)

bound_of_kind : (g : Digraph) (q : Predicate) → IsTrue (is_distance q) → IsOver g q → HasBound (limit_of q)
bound_of_kind g (kind.Steps u v most) d h = h.2
bound_of_kind g (kind.Distance u v most) d h = h.2
bound_of_kind g (kind.Reach u v) d h = absurd cc
bound_of_kind g (kind.Flow u v least) d h = absurd cc
bound_of_kind g (kind.Tree most) d h = absurd cc
bound_of_kind g kind.Acyclic d h = absurd cc

pub at_stage : {f : Facts} {r : SideView} (a : ℕ) (st : Stage) → IsGraph f.graph → IsOver f.graph (atom_at f.atoms a).predicate → IsTrue (is_distance (atom_at f.atoms a).predicate) → a < length f.atoms → IsSideFor f true true r → stage_at r.stages a ≡ st → (st ≡ stage.Waits → ⊥)
    → Decides f.graph (over f.graph f.seen) (atom_at f.atoms a).predicate (admits (limit_of (atom_at f.atoms a).predicate) (over_of (limit_of (atom_at f.atoms a).predicate) (last_node (atom_at f.atoms a).predicate) st (evidence_at r.shown a)))
at_stage a stage.Waits graph over-it kind-it lt h at some = absurd (some refl)
at_stage {f = f} {r = r} a stage.Stands graph over-it kind-it lt h at some =
    let q = (atom_at f.atoms a).predicate in
    let P = over f.graph f.seen in
    let right : StageIs f true r a stage.Stands = subst (StageIs f true r a) at (h.side.right a lt) in
    let holds : Holds f.graph P q = rising_decides f.graph P q true (evidence_at r.supports a) (distance_rises q kind-it) graph over-it (part_len f.graph f.seen true) (h.side.supports.each a lt) right in
    let w = of_holds f.graph P q (limit_of q) kind-it refl holds in
    decides_by f.graph P q true (admits (limit_of q) 0) (low_enough 0 (cost_along (limit_of q) f.graph w.0) (bound_of (limit_of q)) (omega arith) w.2) holds
at_stage {f = f} {r = r} a (stage.Shows m) graph over-it kind-it lt h at some =
    let q = (atom_at f.atoms a).predicate in
    let P = over f.graph f.seen in
    let shown : StageIs f true r a (stage.Shows m) = subst (StageIs f true r a) at (h.side.right a lt) in
    let sound = h.side.shown.each a lt in
    let right : IsRightIn P false (evidence_at r.shown a) = shown_now {x = atom_at f.atoms a} shown h.thorough sound in
    decides_by f.graph P q false (admits (limit_of q) (over_of (limit_of q) (last_node q) (stage.Shows m) (evidence_at r.shown a)))
    (shown_high f.graph P q m (evidence_at r.shown a) (part_len f.graph f.seen true) (bound_of_kind f.graph q kind-it over-it) kind-it sound right)
    (rising_decides f.graph P q false (evidence_at r.shown a) (distance_rises q kind-it) graph over-it (part_len f.graph f.seen true) sound right)

some_within : (b : Bool) (n : ℕ) → is_some (cond b (Some n) None) ≡ b
some_within true n = refl
some_within false n = refl

last_inside : (g : Digraph) (q : Predicate) → IsTrue (is_distance q) → IsOver g q → last_node q < g.nodes
last_inside g (kind.Steps u v most) d o = o.1
last_inside g (kind.Distance u v most) d o = o.1
last_inside g (kind.Reach u v) d o = absurd cc
last_inside g (kind.Flow u v least) d o = absurd cc
last_inside g (kind.Tree most) d o = absurd cc
last_inside g kind.Acyclic d o = absurd cc

decided_by_rows : {f : Facts} {s : SureLabels} {n : ℕ} (a : ℕ) → IsOver f.graph (atom_at f.atoms a).predicate → IsTrue (is_distance (atom_at f.atoms a).predicate) → a < length f.atoms → n ≡ length f.seen → AreLabelsAfter f n s
    → Decides f.graph (under f.graph f.seen) (atom_at f.atoms a).predicate (is_some (under_at s a (atom_at f.atoms a).predicate (last_node (atom_at f.atoms a).predicate)))
decided_by_rows {f = f} {s = s} {n = n} a over-it kind-it lt e h =
    let q = (atom_at f.atoms a).predicate in
    let label = under_label s a (last_node q) in
    decides_by f.graph (under f.graph f.seen) q (admits (limit_of q) label) (is_some (under_at s a q (last_node q))) (some_within (admits (limit_of q) label) label)
    (subst (λ (P : List Bool). Decides f.graph P q (admits (limit_of q) label)) (sure_all f n e) (label_decides a lt kind-it (last_inside f.graph q kind-it over-it) h))

by_stage : {f : Facts} {s : SideView} (a : ℕ) (st : Stage) → IsGraph f.graph → IsOver f.graph (atom_at f.atoms a).predicate → IsTrue (is_distance (atom_at f.atoms a).predicate) → a < length f.atoms → IsSideFor f false true s → stage_at s.stages a ≡ st → (st ≡ stage.Waits → ⊥)
    → Decides f.graph (under f.graph f.seen) (atom_at f.atoms a).predicate (shows st)
by_stage a stage.Waits graph over-it kind-it lt h at some = absurd (some refl)
by_stage {f = f} {s = s} a stage.Stands graph over-it kind-it lt h at some =
    rising_decides f.graph (under f.graph f.seen) (atom_at f.atoms a).predicate false (evidence_at s.supports a) (distance_rises (atom_at f.atoms a).predicate kind-it) graph over-it (part_len f.graph f.seen false) (h.side.supports.each a lt) (subst (StageIs f false s a) at (h.side.right a lt))
by_stage {f = f} {s = s} a (stage.Shows m) graph over-it kind-it lt h at some =
    let shown : StageIs f false s a (stage.Shows m) = subst (StageIs f false s a) at (h.side.right a lt) in
    let sound = h.side.shown.each a lt in
    rising_decides f.graph (under f.graph f.seen) (atom_at f.atoms a).predicate true (evidence_at s.shown a) (distance_rises (atom_at f.atoms a).predicate kind-it) graph over-it (part_len f.graph f.seen false) sound (shown_now {x = atom_at f.atoms a} shown h.thorough sound)

at_last : (q : Predicate) (b : Bool) (n : ℕ) → is_some (cond (eqb (last_node q) (last_node q) && b) (Some n) None) ≡ b
at_last q b n = ap (λ (x : Bool). is_some (cond (x && b) (Some n) None)) (eq-eqb (last_node q) (last_node q) refl) ∙ some_within b n

pub decided_under : (f : Facts) (d : EitherSide SureLabels) (a : ℕ) → IsGraph f.graph → IsOver f.graph (atom_at f.atoms a).predicate → IsTrue (is_distance (atom_at f.atoms a).predicate) → a < length f.atoms → IsDecidedSide f d → IsRightSide f d
    → Decides f.graph (under f.graph f.seen) (atom_at f.atoms a).predicate (is_some (under_in d a (atom_at f.atoms a).predicate (last_node (atom_at f.atoms a).predicate)))
decided_under f (side.Rows s) a graph over-it kind-it lt e h = decided_by_rows {f = f} {s = s.rows} a over-it kind-it lt e.looked (labels_uncut {f = f} s.looked h.looked h.rows)
decided_under f (side.Searches s) a graph over-it kind-it lt none h =
    let q = (atom_at f.atoms a).predicate in
    let len = h.side.stages_len in
    decides_by f.graph (under f.graph f.seen) q (shows (stage_at s.stages a)) (is_some (under_in (side.Searches s) a q (last_node q))) (at_last q (shows (stage_at s.stages a)) (bound_number (bound_of (limit_of q))))
    (by_stage a (stage_at s.stages a) graph over-it kind-it lt h refl (none a stage.Waits (omega (arith, lt, len))))

-- what a predicate asks for
pub limit_is : (q : Predicate) (u w : ℕ) (l : Limit) → q ≡ predicate_of u w l → limit_of q ≡ l
limit_is q u w l is = ap limit_of is ∙ limit_asked u w l

pub to_is_last : (q : Predicate) (u w : ℕ) (l : Limit) → q ≡ predicate_of u w l → w ≡ last_node q
to_is_last q u w l is = sym (ap last_node is ∙ last_asked u w l)

-- ---- where rows of the possibly present edges are kept

beyond_bound : (l : Limit) → HasBound l → admits l (above (bound_of l)) ≡ false
beyond_bound l bound = beyond (bound_of l) (above (bound_of l)) (above_is l bound)
  where
    beyond : (x : ℤ) (m : ℕ) → pos m ≡ x +ℤ pos 1 → int_le (pos m) x ≡ false
    beyond x m e = grind (arith, ints)

-- the label says whether a walk within the bound leads to the last node, where that is known
rows_decide : (g : Digraph) (P : List Bool) (q : Predicate) (b : Bool) → IsTrue (is_distance q) → HasBound (limit_of q) → Decides g P q (not b) → Decides g P q (admits (limit_of q) (cond b (above (bound_of (limit_of q))) 0))
rows_decide g P q true kind-it bound fails = decides_by g P q false (admits (limit_of q) (above (bound_of (limit_of q)))) (beyond_bound (limit_of q) bound) fails
rows_decide g P q false kind-it bound holds =
    let w = of_holds g P q (limit_of q) kind-it refl holds in
    decides_by g P q true (admits (limit_of q) 0) (low_enough 0 (cost_along (limit_of q) g w.0) (bound_of (limit_of q)) (omega arith) w.2) holds

pub rows_decided : (g : Digraph) (P : List Bool) (q : Predicate) (b : Bool) (r : ℕ) → IsTrue (is_distance q) → HasBound (limit_of q) → r ≡ cond b (above (bound_of (limit_of q))) 0 → Decides g P q (not b) → Decides g P q (admits (limit_of q) r)
rows_decided g P q b r kind-it bound read h = decides_by g P q (admits (limit_of q) (cond b (above (bound_of (limit_of q))) 0)) (admits (limit_of q) r) (ap (λ (m : ℕ). admits (limit_of q) m) read) (rows_decide g P q b kind-it bound h)

-- a walk that costs less than that is within the bound
below_above : (b : ℤ) (m n : ℕ) → pos m ≡ b +ℤ pos 1 → n < m → int_le (pos n) b ≡ true
below_above b m n e lt = grind (arith, ints)

no_walk_below : (g : Digraph) (P : List Bool) (q : Predicate) (ks : List ℕ) → HasBound (limit_of q) → ((js : List ℕ) → IsTrue (is_path g P (first_node q) (last_node q) (limit_of q) js) → ⊥) → IsTrue (is_walk g P (first_node q) (last_node q) ks) → above (bound_of (limit_of q)) ≤ cost_along (limit_of q) g ks
no_walk_below g P q ks bound none way = elim (cases_lt (cost_along (limit_of q) g ks) (above (bound_of (limit_of q)))) [
  | inl low ↦ absurd (none ks (and_from (is_walk g P (first_node q) (last_node q) ks) (is_light (limit_of q) g ks) way
      (light_of (limit_of q) g ks (below_above (bound_of (limit_of q)) (above (bound_of (limit_of q))) (cost_along (limit_of q) g ks) (above_is (limit_of q) bound) low))))
  | inr high ↦ high
]

pub rows_below : (g : Digraph) (t : List ℤ) (n : ℕ) (q : Predicate) (v : ℕ) (b : Bool) → IsTrue (asks_walk q) → HasBound (limit_of q) → v ≡ last_node q → (IsTrue b → Decides g (part_of g (take n t) true) q (shown_by q false)) → IsBelowEachWalk g (over g t) q v (cond b (above (bound_of (limit_of q))) 0)
rows_below g t n q v false asks bound last fails = none_below g (over g t) q v bound
rows_below g t n q v true asks bound last fails = record {
  below = λ ks way. no_walk_below g (over g t) q ks bound (none_later g t n q asks (fails refl)) (subst (λ (w : ℕ). IsTrue (is_walk g (over g t) (first_node q) w ks)) last way);
  most = up_to_above (limit_of q) (above (bound_of (limit_of q))) bound (omega arith);
}

-- of other nodes nothing is known
pub over_elsewhere : (s : PossibleView) (a v w u : ℕ) (l : Limit) (q : Predicate) → q ≡ predicate_of u w l → v ≢ w → 0 ≡ over_at s a q v
over_elsewhere s a v w u l q is other = sym (ap (λ (b : Bool). cond (b && is_cut_off s a) (above (bound_of (limit_of q))) 0) (ne_eqb v (last_node q) (λ e. other (e ∙ (ap last_node is ∙ last_asked u w l)))))

pub over_at_last : (s : PossibleView) (a v w u : ℕ) (l : Limit) (q : Predicate) (b : Bool) (r : ℕ) → q ≡ predicate_of u w l → v ≡ w → b ≡ is_cut_off s a → r ≡ cond b (above (bound_of l)) 0 → r ≡ over_at s a q v
over_at_last s a v w u l q b r is last cut read =
    read ∙ (ap (λ (c : Bool). cond c (above (bound_of l)) 0) cut
    ∙ (ap (λ (k : Limit). cond (is_cut_off s a) (above (bound_of k)) 0) (sym (ap limit_of is ∙ limit_asked u w l))
    ∙ sym (ap (λ (c : Bool). cond (c && is_cut_off s a) (above (bound_of (limit_of q))) 0) (eq-eqb v (last_node q) (last ∙ sym (ap last_node is ∙ last_asked u w l))))))

decided_over : (f : Facts) (d : EitherSide PossibleView) (a : ℕ) → IsGraph f.graph → IsOver f.graph (atom_at f.atoms a).predicate → IsTrue (is_distance (atom_at f.atoms a).predicate) → a < length f.atoms → IsPossiblyDecided f d → IsPossiblyRight f d
    → Decides f.graph (over f.graph f.seen) (atom_at f.atoms a).predicate (admits (limit_of (atom_at f.atoms a).predicate) (over_known d a (atom_at f.atoms a).predicate (last_node (atom_at f.atoms a).predicate)))
decided_over f (side.Rows s) a graph over-it kind-it lt stands h =
    let q = (atom_at f.atoms a).predicate in
    let P = over f.graph f.seen in
    let off = is_cut_off s.rows a in
    let fails : IsTrue off → Decides f.graph (part_of f.graph (take s.looked f.seen) true) q (shown_by q false) = λ on. cut_off_fails {f = cut_to s.looked f} a lt (only_shrinks (cut_to s.looked f) _) h.rows on in
    let same : cond (eqb (last_node q) (last_node q) && off) (above (bound_of (limit_of q))) 0 ≡ cond off (above (bound_of (limit_of q))) 0 =
    ap (λ (c : Bool). cond (c && off) (above (bound_of (limit_of q))) 0) (eq-eqb (last_node q) (last_node q) refl) in
    decides_by f.graph P q (admits (limit_of q) (cond off (above (bound_of (limit_of q))) 0)) (admits (limit_of q) (over_at s.rows a q (last_node q))) (ap (λ (m : ℕ). admits (limit_of q) m) same)
    (rows_decide f.graph P q off kind-it (bound_of_kind f.graph q kind-it over-it) (lacking_decides a off lt h stands refl fails))
decided_over f (side.Searches r) a graph over-it kind-it lt none h =
    let len = h.side.stages_len in
    at_stage {f = f} a (stage_at r.stages a) graph over-it kind-it lt h refl (none a stage.Waits (omega (arith, lt, len)))

found_at : (f : Facts) (n : ℕ) (x : Atom) → AreAtomsOf f.graph f.atoms → atom_of f.atoms n ≡ Some x → (place_of_atom f.atoms n < length f.atoms) × (atom_at f.atoms (place_of_atom f.atoms n) ≡ x)
found_at f n x known is =
    let held = place_held f.atoms n (subst (λ (o : Option Atom). IsSome o) (sym is) (cc)) in
    let own : atom_of f.atoms (atom_at f.atoms (place_of_atom f.atoms n)).number ≡ Some (atom_at f.atoms (place_of_atom f.atoms n)) = known.numbers (place_of_atom f.atoms n) no_atom held.0 in
    (held.0, some_same _ _ (sym own ∙ (ap (atom_of f.atoms) held.1 ∙ is)))
  where
    some_same : (y z : Atom) → Some y ≡ Some z → y ≡ z
    some_same y z e = cc

-- the labels of an atom's last node decide once what is kept does
pub labels_decide : (s : DistanceView) (n : ℕ) (x : Atom) → IsGraph s.graph → AreAtomsOf s.graph s.atoms → AreCovered is_distance s.atoms → IsRightSide (facts_in s) s.surely → IsPossiblyRight (facts_in s) s.possibly → AreBothDecided s → atom_of s.atoms n ≡ Some x
    → Decides s.graph (under s.graph s.seen) x.predicate (is_some (labels_in s n (last_node x.predicate)).under) × Decides s.graph (over s.graph s.seen) x.predicate (admits (limit_of x.predicate) (labels_in s n (last_node x.predicate)).over)
labels_decide s n x graph known covered right possibly decides is =
    let f : Facts = facts_in s in
    let a = place_of_atom s.atoms n in
    let p = found_at f n x known is in
    let over-it : IsOver s.graph (atom_at s.atoms a).predicate = (known.over a no_atom p.0).1 in
    let kind-it : IsTrue (is_distance (atom_at s.atoms a).predicate) = covered.each a no_atom p.0 in
    subst
    (λ (y : Atom). Decides s.graph (under s.graph s.seen) y.predicate (is_some (labels_in s n (last_node y.predicate)).under) × Decides s.graph (over s.graph s.seen) y.predicate (admits (limit_of y.predicate) (labels_in s n (last_node y.predicate)).over)) p.1 (
      decided_under f s.surely a graph over-it kind-it p.0 decides.surely right,
      decided_over f s.possibly a graph over-it kind-it p.0 decides.possibly possibly,
    )

-- ---- what is known stays while literals come

over_stays : (l : Limit) (v : ℕ) (st later : Stage) (o : Option Evidence) → (later ≡ st) ⊎ ((st ≡ stage.Stands) × (later ≡ stage.Waits)) → over_of l v later o ≡ over_of l v st o
over_stays l v st later o (inl same) = ap (λ (x : Stage). over_of l v x o) same
over_stays l v st later o (inr lost) = ap (λ (x : Stage). over_of l v x o) lost.1 ∙ sym (ap (λ (x : Stage). over_of l v x o) lost.0)

shows_stays : (st later : Stage) → (later ≡ st) ⊎ ((st ≡ stage.Stands) × (later ≡ stage.Waits)) → shows later ≡ shows st
shows_stays st later (inl same) = ap shows same
shows_stays st later (inr lost) = ap shows lost.1 ∙ sym (ap shows lost.0)

stage_stays : {g : Digraph} {possible : Bool} {l : ℤ} {s r : SideView} (a : ℕ) → IsKeptBy g possible l s r → (stage_at r.stages a ≡ stage_at s.stages a) ⊎ ((stage_at s.stages a ≡ stage.Stands) × (stage_at r.stages a ≡ stage.Waits))
stage_stays a kept = elim (kept.each a) [ inl same ↦ inl same | inr lost ↦ inr (lost.stood, lost.waits) ]

under_stays : (f : Facts) (l : ℤ) (c d : EitherSide SureLabels) (a : ℕ) (q : Predicate) (v : ℕ) → IsEitherKept f l c d → under_in d a q v ≡ under_in c a q v
under_stays f l (side.Rows s) (side.Rows r) a q v same = ap (λ (t : RowsView SureLabels). under_at t.rows a q v) same
under_stays f l (side.Searches s) (side.Searches r) a q v kept =
    ap (λ (b : Bool). cond (eqb v (last_node q) && b) (Some (bound_number (bound_of (limit_of q)))) None) (shows_stays (stage_at s.stages a) (stage_at r.stages a) (stage_stays a kept))
under_stays f l (side.Rows s) (side.Searches r) a q v same = absurd same
under_stays f l (side.Searches s) (side.Rows r) a q v same = absurd same

known_stays : (f : Facts) (l : ℤ) (c d : EitherSide PossibleView) (a : ℕ) (q : Predicate) (v : ℕ) → IsEitherKept f l c d → over_known d a q v ≡ over_known c a q v
known_stays f l (side.Rows s) (side.Rows r) a q v same = ap (λ (t : RowsView PossibleView). over_at t.rows a q v) same
known_stays f l (side.Searches s) (side.Searches r) a q v kept =
    ap (λ (x : SideView). over_of (limit_of q) v (stage_at r.stages a) (evidence_at x.shown a)) kept.same
    ∙ over_stays (limit_of q) v (stage_at s.stages a) (stage_at r.stages a) (evidence_at s.shown a) (stage_stays a kept)
known_stays f l (side.Rows s) (side.Searches r) a q v same = absurd same
known_stays f l (side.Searches s) (side.Rows r) a q v same = absurd same

pub labels_stay : (s r : DistanceView) (lit : ℤ) (n v : ℕ) → r.atoms ≡ s.atoms → IsEitherKept (facts_in s) lit s.surely r.surely → IsEitherKept (facts_in s) lit s.possibly r.possibly → labels_in r n v ≡ labels_in s n v
labels_stay s r lit n v atoms surely possibly =
    let a = place_of_atom s.atoms n in
    let q = (atom_at s.atoms a).predicate in
    ap (λ (xs : List Atom). labels_at r (place_of_atom xs n) (atom_at xs (place_of_atom xs n)).predicate v) atoms
    ∙ (ap (λ (o : Option ℕ). let x : Labels = record { under = o; over = over_known r.possibly a q v } in x) (under_stays (facts_in s) lit s.surely r.surely a q v surely)
    ∙ ap (λ (d : ℕ). let x : Labels = record { under = under_in s.surely a q v; over = d } in x) (known_stays (facts_in s) lit s.possibly r.possibly a q v possibly))
