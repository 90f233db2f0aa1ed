-- What a theory of reachability tells of a node.
use Rattle.std.proofs.Common.{◌≡◌, ◌≢◌, ℤ, cond, inl, inr, ℕ, ◌<◌, Bool, true, false, not, ◌&&◌, List, length, take, eqb, eq-eqb, Some, refl, sym, ap, subst, ◌∙◌, MatchOption}
use Rattle.std.specs.Prelude.{IsTrue, Option, None}
use Rattle.std.specs.List.{list_all}
use Rattle.std.proofs.lemmas.Bool.{and_from, and_parts, both_ways, false_from_ne_true, not-true}
use Rattle.mono_graph.specs.Digraph.{Digraph, IsGraph, edge_at, has, leads_out, places, present}
use Rattle.mono_graph.specs.Walks.{is_cut, is_walk}
use Rattle.mono_graph.proofs.CutsBoundWalks.{cut_excludes}
use Rattle.mono_graph.proofs.Subparts.{is_walk-larger}
use Rattle.mono_problem.specs.declared.atom.Atom.{Atom}
use Rattle.mono_problem.specs.declared.atom.Predicate.{Predicate}
use Rattle.mono_problem.specs.declared.atom.Predicate.TheVariants as kind
use Rattle.mono_problem.specs.Quiet.{over, under}
use Rattle.mono_problem.specs.Read.{no_atom}
use Rattle.mono_problem.specs.WellFormed.{IsOver}
use Rattle.mono_theory.specs.declared.either_side.EitherSide.{EitherSide}
use Rattle.mono_theory.specs.declared.either_side.EitherSide.TheVariants as either
use Rattle.mono_theory.specs.EitherSides.{IsEitherKept}
use Rattle.mono_theory.specs.RowSides.{AreRowsFor, RowsView}
use Rattle.mono_theory.specs.SureParts.{sure_parts}
use Rattle.mono_theory.proofs.PossibleParts.{fewer_possible}
use Rattle.mono_theory.proofs.SureEdges.{sure_all}
use Rattle.mono_steps.specs.declared.lemma.Witness.{Witness}
use Rattle.mono_steps.specs.declared.lemma.Witness.TheVariants as by
use Rattle.mono_steps.proofs.Witnessed.{positive_holds}
use Rattle.mono_theory.specs.declared.evidence.Evidence.{Evidence}
use Rattle.mono_theory.specs.declared.stage.Stage.{Stage}
use Rattle.mono_theory.specs.declared.stage.Stage.TheVariants as stage
use Rattle.mono_theory.specs.Evidences.{Decides, shown_by}
use Rattle.mono_theory.specs.Sound.{IsWitnessIn, evidence_at}
use Rattle.mono_theory.specs.Stages.{NoneWaits, shows, stage_at}
use Rattle.mono_theory.specs.Supports.{IsKeptBy, IsSide, SideView, StageIs, atom_at, facts_in, part_of}
use Rattle.mono_theory.specs.Theories.{Facts}
use Rattle.mono_theory.proofs.PartsOfSides.{part_len}
use Rattle.mono_theory.proofs.KeptEvidenceDecides.{rising_decides, rising_sign, shown_rising}
use Rattle.mono_reach.specs.Marks.{SureMarks, AreMarksOf, first_node, last_node, shows_last, under_mark}
use Rattle.mono_theory.specs.PossibleRows.{PossibleView}
use Rattle.mono_reach.specs.Readings.{ReachView, cut_mark, found_mark, in_cut, in_kept_cut, marks_at, over_mark, possible_mark, sure_mark}
use Rattle.mono_reach.specs.declared.marks.Marks.{Marks}
use Rattle.mono_reach.specs.Reaches.{is_reach}
use Rattle.mono_reach.proofs.MarksStay.{holds_reach, marked_walk, marks_decide, marks_in, reach_holds}
use Rattle.mono_reach.proofs.WalksAndCuts.{reach_rises}

-- ---- with the surely present edges

-- a row has the node exactly where a walk leads to it
pub row_decides : {f : Facts} {s : RowsView SureMarks} (a v : ℕ) (b : Bool) → a < length f.atoms → AreRowsFor is_reach false AreMarksOf shows_last f s → b ≡ under_mark s.rows a v → s.looked ≡ length f.seen → v ≡ last_node (atom_at f.atoms a).predicate
    → Decides f.graph (under f.graph f.seen) (atom_at f.atoms a).predicate b
row_decides {f = f} {s = s} a v b lt h is all last =
    let q = (atom_at f.atoms a).predicate in
    subst (λ (P : List Bool). Decides f.graph P q b) (sure_all f s.looked all)
    (subst (Decides f.graph (sure_parts f s.looked) q) (ap (under_mark s.rows a) (sym last) ∙ sym is)
    (marks_decide s.looked a lt (h.covered.each a no_atom lt) (marks_in f s.looked h.looked h.rows)))

pub row_walk : {f : Facts} {s : RowsView SureMarks} (a v : ℕ) (b : Bool) → a < length f.atoms → AreRowsFor is_reach false AreMarksOf shows_last f s → b ≡ under_mark s.rows a v → IsTrue b
    → (walk : List ℕ) × IsTrue (is_walk f.graph (under f.graph f.seen) (first_node (atom_at f.atoms a).predicate) v walk)
row_walk {f = f} {s = s} a v b lt h is on = marked_walk s.looked a v h.looked lt (marks_in f s.looked h.looked h.rows) (sym is ∙ on)

-- a walk that was found leads to the last node
pub found_walk : (g : Digraph) (P : List Bool) (q : Predicate) (w : Witness) (v : ℕ) → IsTrue (is_reach q) → IsWitnessIn g P q true w → v ≡ last_node q → (walk : List ℕ) × IsTrue (is_walk g P (first_node q) v walk)
found_walk g P q w v r h last =
    let found = holds_reach g P q r (positive_holds g P q w (rising_sign g P q w true (reach_rises q r) h.rests h.passes) h.passes) in
    (found.0, subst (λ (u : ℕ). IsTrue (is_walk g P (first_node q) u found.0)) (sym last) found.1)

pub found_decides : (g : Digraph) (P : List Bool) (q : Predicate) (w : Witness) (v : ℕ) → IsTrue (is_reach q) → IsWitnessIn g P q true w → v ≡ last_node q → Decides g P q (eqb v (last_node q))
found_decides g P q w v r h last = subst (Decides g P q) (sym (eq-eqb v (last_node q) last)) (positive_holds g P q w (rising_sign g P q w true (reach_rises q r) h.rests h.passes) h.passes)

-- ---- with the possibly present edges, where rows are kept

-- where the first literals leave no walk to the last node, no more do all
pub lacking_fails : (g : Digraph) (t : List ℤ) (n : ℕ) (q : Predicate) (v : ℕ) → IsTrue (is_reach q) → Decides g (part_of g (take n t) true) q (shown_by q false) → v ≡ last_node q → (walk : List ℕ) → is_walk g (over g t) (first_node q) v walk ≡ false
lacking_fails g t n q v r fails last walk =
    false_from_ne_true (is_walk g (over g t) (first_node q) v walk) (λ on.
    subst (Decides g (over g (take n t)) q) (shown_rising q false (reach_rises q r)) fails
    (reach_holds g (over g (take n t)) q r (walk, is_walk-larger g (over g t) (over g (take n t)) (fewer_possible g t n) (first_node q) (last_node q) walk (subst (λ (u : ℕ). IsTrue (is_walk g (over g t) (first_node q) u walk)) last on))))

-- ---- with the possibly present edges, where searches are kept

-- no walk leads out of the set
pub cut_fails : (g : Digraph) (P : List Bool) (q : Predicate) (w : Witness) (v : ℕ) → IsTrue (is_reach q) → IsWitnessIn g P q false w → in_cut w v ≡ false → (walk : List ℕ) → is_walk g P (first_node q) v walk ≡ false
cut_fails g P (kind.Reach u t) (by.Cut us) v r h out walk =
    let both = and_parts (has us u && not (has us t)) (list_all (λ k. not (present P k && leads_out us (edge_at g k))) (places g)) h.passes in
    let ends = and_parts (has us u) (not (has us t)) both.0 in
    let cut : IsTrue (is_cut g P u v us) = and_from (has us u && not (has us v)) (list_all (λ k. not (present P k && leads_out us (edge_at g k))) (places g)) (and_from (has us u) (not (has us v)) ends.0 (ap not out)) both.1 in
    false_from_ne_true (is_walk g P u v walk) (λ on. cut_excludes g P u v us walk cut on)
cut_fails g P (kind.Reach u t) (by.Path es) v r h out walk = absurd cc
cut_fails g P (kind.Reach u t) (by.Label ls) v r h out walk = absurd cc
cut_fails g P (kind.Reach u t) (by.Flow ms) v r h out walk = absurd cc
cut_fails g P (kind.Reach u t) (by.FlowCut us) v r h out walk = absurd cc
cut_fails g P (kind.Reach u t) (by.Tree es) v r h out walk = absurd cc
cut_fails g P (kind.Reach u t) (by.Split us) v r h out walk = absurd cc
cut_fails g P (kind.Reach u t) (by.Least es) v r h out walk = absurd cc
cut_fails g P (kind.Reach u t) (by.Cycle es) v r h out walk = absurd cc
cut_fails g P (kind.Reach u t) (by.Order us) v r h out walk = absurd cc
cut_fails g P (kind.Steps u t most) w v r h out walk = absurd cc
cut_fails g P (kind.Distance u t most) w v r h out walk = absurd cc
cut_fails g P (kind.Flow u t least) w v r h out walk = absurd cc
cut_fails g P (kind.Tree most) w v r h out walk = absurd cc
cut_fails g P kind.Acyclic w v r h out walk = absurd cc

-- the last node isn't in it
cut_lacks_last : (g : Digraph) (P : List Bool) (q : Predicate) (w : Witness) → IsTrue (is_reach q) → IsWitnessIn g P q false w → in_cut w (last_node q) ≡ false
cut_lacks_last g P (kind.Reach u t) (by.Cut us) r h =
    let both = and_parts (has us u && not (has us t)) (list_all (λ k. not (present P k && leads_out us (edge_at g k))) (places g)) h.passes in
    not-true (has us t) (and_parts (has us u) (not (has us t)) both.0).1
cut_lacks_last g P (kind.Reach u t) (by.Path es) r h = absurd (let s = h.rests in cc)
cut_lacks_last g P (kind.Reach u t) (by.Label ls) r h = absurd (let s = h.passes in cc)
cut_lacks_last g P (kind.Reach u t) (by.Flow ms) r h = absurd (let s = h.passes in cc)
cut_lacks_last g P (kind.Reach u t) (by.FlowCut us) r h = absurd (let s = h.passes in cc)
cut_lacks_last g P (kind.Reach u t) (by.Tree es) r h = absurd (let s = h.passes in cc)
cut_lacks_last g P (kind.Reach u t) (by.Split us) r h = absurd (let s = h.passes in cc)
cut_lacks_last g P (kind.Reach u t) (by.Least es) r h = absurd (let s = h.passes in cc)
cut_lacks_last g P (kind.Reach u t) (by.Cycle es) r h = absurd (let s = h.passes in cc)
cut_lacks_last g P (kind.Reach u t) (by.Order us) r h = absurd (let s = h.passes in cc)
cut_lacks_last g P (kind.Steps u t most) w r h = absurd cc
cut_lacks_last g P (kind.Distance u t most) w r h = absurd cc
cut_lacks_last g P (kind.Flow u t least) w r h = absurd cc
cut_lacks_last g P (kind.Tree most) w r h = absurd cc
cut_lacks_last g P kind.Acyclic w r h = absurd cc

pub shown_decides : (g : Digraph) (P : List Bool) (q : Predicate) (w : Witness) (v : ℕ) → IsTrue (is_reach q) → IsWitnessIn g P q false w → v ≡ last_node q → Decides g P q (in_cut w v)
shown_decides g P q w v r h last =
    subst (Decides g P q) (sym (ap (in_cut w) last ∙ cut_lacks_last g P q w r h))
    (λ holds. (let walk = holds_reach g P q r holds in both_ways (is_walk g P (first_node q) (last_node q) walk.0) (cut_fails g P q w (last_node q) r h (cut_lacks_last g P q w r h) walk.0) walk.1))

stands_by : (s : Stage) → s ≢ stage.Waits → shows s ≡ false → s ≡ stage.Stands
stands_by stage.Waits waits shown = absurd (waits refl)
stands_by stage.Stands waits shown = refl
stands_by (stage.Shows m) waits shown = absurd cc

-- where nothing is shown of it and it doesn't wait, its support decides the predicate
pub unshown_decides : {f : Facts} {s : SideView} (possible : Bool) (a : ℕ) → a < length f.atoms → IsGraph f.graph → IsTrue (is_reach (atom_at f.atoms a).predicate) → IsOver f.graph (atom_at f.atoms a).predicate → IsSide f possible s → NoneWaits s.stages → shows (stage_at s.stages a) ≡ false
    → Decides f.graph (part_of f.graph f.seen possible) (atom_at f.atoms a).predicate possible
unshown_decides {f = f} {s = s} possible a lt graph r known h none shown =
    let stood = stands_by (stage_at s.stages a) (none a stage.Waits (subst (λ (n : ℕ). a < n) (sym h.stages_len) lt)) shown in
    rising_decides f.graph (part_of f.graph f.seen possible) (atom_at f.atoms a).predicate possible (evidence_at s.supports a) (reach_rises (atom_at f.atoms a).predicate r) graph known (part_len f.graph f.seen possible) (h.supports.each a lt)
    (subst (StageIs f possible s a) stood (h.right a lt))

-- ---- what is known of a node

abbrev both : Bool → Bool → Marks
both b o = record { under = b; over = o }

pub marks_known : (s : ReachView) (a v : ℕ) (b o : Bool) → b ≡ sure_mark s.surely (atom_at s.atoms a).predicate a v → o ≡ possible_mark s.possibly (atom_at s.atoms a).predicate a v → record { under = b; over = o } ≡ marks_at s a v
marks_known s a v b o under_is over_is = ap (λ (x : Bool). both x o) under_is ∙ ap (λ (x : Bool). both (sure_mark s.surely (atom_at s.atoms a).predicate a v) x) over_is

-- what an atom shows, if it shows something
pub by_shown : (s : SideView) (a : ℕ) (b x y : Bool) → s.thorough ≡ true → shows (stage_at s.stages a) ≡ b → cond b x y ≡ cond (s.thorough && shows (stage_at s.stages a)) x y
by_shown s a b x y thorough shown = sym (ap (λ (c : Bool). cond (c && shows (stage_at s.stages a)) x y) thorough ∙ ap (λ (c : Bool). cond c x y) shown)

-- what an atom shows is its witness
pub shown_is_cut : (s : SideView) (a v : ℕ) (w : Witness) → s.thorough ≡ true → shows (stage_at s.stages a) ≡ true → MatchOption (evidence_at s.shown a) ⊥ (λ e. w ≡ e.witness) → in_cut w v ≡ cut_mark s a v
shown_is_cut s a v w thorough shown its = its_cut (evidence_at s.shown a) its ∙ by_shown s a true (in_kept_cut (evidence_at s.shown a) v) true thorough shown
  where
    its_cut : (o : Option Evidence) → MatchOption o ⊥ (λ e. w ≡ e.witness) → in_cut w v ≡ in_kept_cut o v
    its_cut None is = absurd is
    its_cut (Some e) is = ap (λ (x : Witness). in_cut x v) is

-- of an atom that shows nothing no node is known to be cut off
pub unshown_is_cut : (s : SideView) (a v : ℕ) → s.thorough ≡ true → shows (stage_at s.stages a) ≡ false → true ≡ cut_mark s a v
unshown_is_cut s a v thorough shown = by_shown s a false (in_kept_cut (evidence_at s.shown a) v) true thorough shown

-- ---- one more literal

-- an atom that lost its support showed nothing
shows_same : {g : Digraph} {possible : Bool} {l : ℤ} {s r : SideView} (a : ℕ) → IsKeptBy g possible l s r → shows (stage_at r.stages a) ≡ shows (stage_at s.stages a)
shows_same a kept = elim (kept.each a) [
  | inl is ↦ ap shows is
  | inr lost ↦ ap shows lost.waits ∙ sym (ap shows lost.stood)
]

sure_stays : (f : Facts) (l : ℤ) (c d : EitherSide SureMarks) (q : Predicate) (a v : ℕ) → IsEitherKept f l c d → sure_mark d q a v ≡ sure_mark c q a v
sure_stays f l (either.Rows s) (either.Rows r) q a v same = ap (λ (x : RowsView SureMarks). under_mark x.rows a v) same
sure_stays f l (either.Searches s) (either.Searches r) q a v kept =
    ap (λ (x : SideView). found_mark x q a v) kept.same ∙ ap (λ (c : Bool). cond (s.thorough && c) (eqb v (last_node q)) false) (shows_same a kept)
sure_stays f l (either.Rows s) (either.Searches r) q a v kept = absurd kept
sure_stays f l (either.Searches s) (either.Rows r) q a v kept = absurd kept

possible_stays : (f : Facts) (l : ℤ) (c d : EitherSide PossibleView) (q : Predicate) (a v : ℕ) → IsEitherKept f l c d → possible_mark d q a v ≡ possible_mark c q a v
possible_stays f l (either.Rows s) (either.Rows r) q a v same = ap (λ (x : RowsView PossibleView). over_mark x.rows q a v) same
possible_stays f l (either.Searches s) (either.Searches r) q a v kept =
    ap (λ (x : SideView). cut_mark x a v) kept.same ∙ ap (λ (c : Bool). cond (s.thorough && c) (in_kept_cut (evidence_at s.shown a) v) true) (shows_same a kept)
possible_stays f l (either.Rows s) (either.Searches r) q a v kept = absurd kept
possible_stays f l (either.Searches s) (either.Rows r) q a v kept = absurd kept

-- one more literal changes no mark
pub marks_stay : (l : ℤ) (s r : ReachView) (a v : ℕ) → r.atoms ≡ s.atoms → IsEitherKept (facts_in s) l s.surely r.surely → IsEitherKept (facts_in s) l s.possibly r.possibly → marks_at r a v ≡ marks_at s a v
marks_stay l s r a v atoms surely possibly =
    let q = (atom_at s.atoms a).predicate in
    let under_is : sure_mark r.surely (atom_at r.atoms a).predicate a v ≡ sure_mark s.surely q a v = ap (λ (xs : List Atom). sure_mark r.surely (atom_at xs a).predicate a v) atoms ∙ sure_stays (facts_in s) l s.surely r.surely q a v surely in
    let over_is : possible_mark r.possibly (atom_at r.atoms a).predicate a v ≡ possible_mark s.possibly q a v = ap (λ (xs : List Atom). possible_mark r.possibly (atom_at xs a).predicate a v) atoms ∙ possible_stays (facts_in s) l s.possibly r.possibly q a v possibly in
    marks_known s a v (sure_mark r.surely (atom_at r.atoms a).predicate a v) (possible_mark r.possibly (atom_at r.atoms a).predicate a v) under_is over_is
