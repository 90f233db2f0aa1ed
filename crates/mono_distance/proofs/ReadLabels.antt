-- A reading of what a theory of distances knows of a node is right, and decides at the last one.
use Rattle.std.proofs.Common.{◌≡◌, ℕ, ◌<◌, ◌≤◌, ◌&&◌, Bool, true, false, cond, List, length, eqb, refl, sym, ap, subst, ◌∙◌, arith, ℤ, pos, negsuc, ◌≤ℤ◌, int_le}
use Rattle.std.specs.Prelude.{IsTrue, Option, Some, None, IfSome, IfNone, IsSome, MatchOption}
use Rattle.std.specs.Option.{is_some}
use Rattle.std.proofs.lemmas.Bool.{and_parts}
use Rattle.std.proofs.lemmas.Int.{ints}
use Rattle.mono_graph.specs.declared.limit.Limit.{Limit}
use Rattle.mono_graph.specs.Digraph.{Digraph, IsGraph, weight_of}
use Rattle.mono_graph.specs.Walks.{admits, is_walk, bound_of}
use Rattle.mono_dynamic.specs.LeastRows.{costs_at}
use Rattle.mono_paths.specs.Found.{HasBound}
use Rattle.mono_graph.proofs.Limits.{ones, under_cap}
use Rattle.mono_dynamic.proofs.Lightest.{same_cost}
use Rattle.mono_problem.specs.declared.atom.Predicate.{Predicate}
use Rattle.mono_problem.specs.declared.atom.Predicate.TheVariants as kind
use Rattle.mono_problem.specs.Quiet.{under, over}
use Rattle.mono_problem.specs.WellFormed.{IsOver}
use Rattle.mono_steps.specs.declared.lemma.Witness.{Witness}
use Rattle.mono_steps.specs.declared.lemma.Witness.TheVariants as by
use Rattle.mono_steps.specs.Witnesses.{rests_on_present, passes, placed}
use Rattle.mono_theory.specs.declared.evidence.Evidence.{Evidence}
use Rattle.mono_theory.specs.declared.stage.Stage.{Stage}
use Rattle.mono_theory.specs.declared.stage.Stage.TheVariants as stage
use Rattle.mono_theory.specs.AtomPlaces.{place_of_atom}
use Rattle.mono_theory.specs.Evidences.{Decides}
use Rattle.mono_theory.specs.Sound.{IsWitnessIn, evidence_at}
use Rattle.mono_theory.specs.Stages.{NoneWaits, shows, stage_at}
use Rattle.mono_theory.specs.Supports.{IsSideFor, SideView, atom_at}
use Rattle.mono_theory.specs.Theories.{Facts}
use Rattle.mono_theory.specs.declared.either_side.EitherSide.{EitherSide}
use Rattle.mono_theory.specs.declared.either_side.EitherSide.TheVariants as side
use Rattle.mono_distance.specs.Distances.{is_distance, predicate_of}
use Rattle.mono_distance.specs.declared.node_labels.Labels.{Labels}
use Rattle.mono_distance.specs.Readings.{DistanceView, IsDecidedSide, IsReached, IsBelowEachWalk, IsRightSide, bound_number, labels_at, labels_in, over_by, over_known, over_of, under_at, under_in}
use Rattle.mono_theory.specs.SureRows.{row_of_atom}
use Rattle.mono_distance.specs.SureLabels.{SureLabels, AreLabelsAfter, last_node, limit_of, under_label}
use Rattle.mono_theory.proofs.AskedRows.{last_asked}
use Rattle.mono_distance.proofs.SureLabels.{label_walk, own_alike, own_beyond}
use Rattle.mono_distance.proofs.KnownLabels.{at_stage, decided_under, decides_by, limit_is}
use Rattle.mono_distance.proofs.WitnessLabels.{none_below, witness_below}

-- ---- with the surely present edges

under_is_reached : {f : Facts} {s : SureLabels} {n : ℕ} (a v : ℕ) → a < length f.atoms → v < f.graph.nodes → n ≤ length f.seen → AreLabelsAfter f n s → IsTrue (admits (limit_of (atom_at f.atoms a).predicate) (under_label s a v))
    → IsReached f.graph (under f.graph f.seen) (atom_at f.atoms a).predicate v (under_label s a v)
under_is_reached {f = f} {s = s} a v lt inside fits h low =
    let q = (atom_at f.atoms a).predicate in
    let row = costs_at s.rows (row_of_atom s a) in
    let w = label_walk a v lt inside fits h (under_cap (under_label s a v) row.cap (bound_of (limit_of q)) low (own_beyond a lt h)) in
    record {
      within = low;
      walk = w.0;
      leads = w.1;
      cost = (let cost = w.2 in let same = same_cost row.limit (limit_of q) f.graph w.0 (own_alike a lt h) in omega (arith, cost, same));
    }

-- ---- a reading

-- where nothing is shown, nothing is known
pub over_none : (l : Limit) (v : ℕ) (s : Stage) (o : Option Evidence) → shows s ≡ false → over_of l v s o ≡ 0
over_none l v stage.Waits o e = refl
over_none l v stage.Stands o e = refl
over_none l v (stage.Shows m) o e = absurd cc

pub over_some : (l : Limit) (v : ℕ) (s : Stage) (o : Option Evidence) (w : Witness) → shows s ≡ true → MatchOption o ⊥ (λ e. w ≡ e.witness) → over_of l v s o ≡ over_by l v w
over_some l v stage.Waits o w e is = absurd cc
over_some l v stage.Stands o w e is = absurd cc
over_some l v (stage.Shows m) None w e is = absurd is
over_some l v (stage.Shows m) (Some x) w e is = ap (over_by l v) (sym is)

pub over_read : {W : Type 0} (o : Option W) (value : W → Witness) (r : ℕ) (l : Limit) (v : ℕ) (st : Stage) (kept : Option Evidence) → MatchOption o (r ≡ 0) (λ w. r ≡ over_by l v (value w))
    → IfNone o (shows st ≡ false) → (IsSome o → shows st ≡ true) → IfSome o (λ w. MatchOption kept ⊥ (λ e. value w ≡ e.witness)) → r ≡ over_of l v st kept
over_read None value r l v st kept is none some its = is ∙ sym (over_none l v st kept none)
over_read (Some w) value r l v st kept is none some its = is ∙ sym (over_some l v st kept (value w) (some cc) its)

pub known_read : (s : SideView) (a v u w r : ℕ) (l : Limit) (q : Predicate) → q ≡ predicate_of u w l → r ≡ over_of l v (stage_at s.stages a) (evidence_at s.shown a) → r ≡ over_of (limit_of q) v (stage_at s.stages a) (evidence_at s.shown a)
known_read s a v u w r l q is read = read ∙ ap (λ (k : Limit). over_of k v (stage_at s.stages a) (evidence_at s.shown a)) (sym (limit_is q u w l is))

pub below_read : {W : Type 0} (o : Option W) (value : W → Witness) (r : ℕ) (g : Digraph) (P : List Bool) (q : Predicate) (u x v : ℕ) (l : Limit) → q ≡ predicate_of u x l → HasBound l → IsTrue (is_distance q) → MatchOption o (r ≡ 0) (λ w. r ≡ over_by l v (value w))
    → IfSome o (λ w. IsWitnessIn g P q false (value w)) → IsBelowEachWalk g P q v r
below_read None value r g P q u x v l is bound d r-is right = subst (IsBelowEachWalk g P q v) (sym r-is) (none_below g P q v (subst HasBound (sym (limit_is q u x l is)) bound))
below_read (Some w) value r g P q u x v l is bound d r-is right =
    subst (IsBelowEachWalk g P q v) (sym (r-is ∙ ap (λ (k : Limit). over_by k v (value w)) (sym (limit_is q u x l is))))
    (witness_below g P q v (value w) (subst HasBound (sym (limit_is q u x l is)) bound) d right.passes)

-- a label of rows
pub rows_read : (s : SureLabels) (a v u w label : ℕ) (l : Limit) (q : Predicate) (o : Option ℕ) → q ≡ predicate_of u w l → label ≡ under_label s a v → o ≡ cond (admits l label) (Some label) None → o ≡ under_at s a q v
rows_read s a v u w label l q o is at read =
    read ∙ (ap (λ (k : Limit). cond (admits k label) (Some label) None) (sym (limit_is q u w l is)) ∙ ap (λ (m : ℕ). cond (admits (limit_of q) m) (Some m) None) at)

pub rows_reach : {f : Facts} {s : SureLabels} {n : ℕ} (a v : ℕ) (o : Option ℕ) → a < length f.atoms → v < f.graph.nodes → n ≤ length f.seen → AreLabelsAfter f n s → o ≡ under_at s a (atom_at f.atoms a).predicate v
    → IfSome o (IsReached f.graph (under f.graph f.seen) (atom_at f.atoms a).predicate v)
rows_reach {f = f} {s = s} a v o lt inside fits h read =
    subst (λ (p : Option ℕ). IfSome p (IsReached f.graph (under f.graph f.seen) (atom_at f.atoms a).predicate v)) (sym read) (by (admits (limit_of (atom_at f.atoms a).predicate) (under_label s a v)) refl)
  where
    by : (b : Bool) → admits (limit_of (atom_at f.atoms a).predicate) (under_label s a v) ≡ b → IfSome (cond b (Some (under_label s a v)) None) (IsReached f.graph (under f.graph f.seen) (atom_at f.atoms a).predicate v)
    by false e = tt
    by true e = under_is_reached a v lt inside fits h e

-- what searches found of the last node
pub searches_read : (s : SideView) (a v u w : ℕ) (l : Limit) (q : Predicate) (o : Option ℕ) → q ≡ predicate_of u w l → o ≡ cond (eqb v w && shows (stage_at s.stages a)) (Some (bound_number (bound_of l))) None → o ≡ under_in (side.Searches s) a q v
searches_read s a v u w l q o is read =
    read ∙ (ap (λ (x : ℕ). cond (eqb v x && shows (stage_at s.stages a)) (Some (bound_number (bound_of l))) None) (sym (ap last_node is ∙ last_asked u w l))
    ∙ ap (λ (k : Limit). cond (eqb v (last_node q) && shows (stage_at s.stages a)) (Some (bound_number (bound_of k))) None) (sym (limit_is q u w l is)))

below_none : (m : ℕ) (x : ℤ) → x ≤ℤ negsuc 0 → IsTrue (int_le (pos m) x) → ⊥
below_none m x e k = grind (arith, ints)

light_number : (c : ℕ) (b : ℤ) → IsTrue (int_le (pos c) b) → c ≤ bound_number b
light_number c (pos n) h = grind (arith, ints)
light_number c (negsuc n) h = absurd (below_none c (negsuc n) (omega (arith, ints)) h)

number_within : (c : ℕ) (b : ℤ) → IsTrue (int_le (pos c) b) → IsTrue (int_le (pos (bound_number b)) b)
number_within c (pos n) h = itself n
  where
    itself : (m : ℕ) → IsTrue (int_le (pos m) (pos m))
    itself m = grind (arith, ints)
number_within c (negsuc n) h = absurd (below_none c (negsuc n) (omega (arith, ints)) h)

-- a walk that is shown costs at most the bound
reach_by : (g : Digraph) (P : List Bool) (q : Predicate) (x : Witness) → IsTrue (is_distance q) → rests_on_present x ≡ true → IsTrue (passes g P q x) → IsReached g P q (last_node q) (bound_number (bound_of (limit_of q)))
reach_by g P (kind.Steps u v most) (by.Path es) d sign h =
    let ks = placed g es in
    let p = and_parts (is_walk g P u v ks) (int_le (pos (length ks)) most) h in
    record { within = number_within (length ks) most p.1; walk = ks; leads = p.0; cost = (let far = light_number (length ks) most p.1 in omega (arith, ones ks, far)) }
reach_by g P (kind.Distance u v most) (by.Path es) d sign h =
    let ks = placed g es in
    let p = and_parts (is_walk g P u v ks) (int_le (pos (weight_of g ks)) most) h in
    record { within = number_within (weight_of g ks) most p.1; walk = ks; leads = p.0; cost = light_number (weight_of g ks) most p.1 }
reach_by g P (kind.Steps u v most) (by.Cut es) d sign h = absurd cc
reach_by g P (kind.Distance u v most) (by.Cut es) d sign h = absurd cc
reach_by g P (kind.Steps u v most) (by.Label es) d sign h = absurd cc
reach_by g P (kind.Distance u v most) (by.Label es) d sign h = absurd cc
reach_by g P (kind.Steps u v most) (by.Flow es) d sign h = absurd cc
reach_by g P (kind.Distance u v most) (by.Flow es) d sign h = absurd cc
reach_by g P (kind.Steps u v most) (by.FlowCut es) d sign h = absurd cc
reach_by g P (kind.Distance u v most) (by.FlowCut es) d sign h = absurd cc
reach_by g P (kind.Steps u v most) (by.Tree es) d sign h = absurd cc
reach_by g P (kind.Distance u v most) (by.Tree es) d sign h = absurd cc
reach_by g P (kind.Steps u v most) (by.Split es) d sign h = absurd cc
reach_by g P (kind.Distance u v most) (by.Split es) d sign h = absurd cc
reach_by g P (kind.Steps u v most) (by.Least es) d sign h = absurd cc
reach_by g P (kind.Distance u v most) (by.Least es) d sign h = absurd cc
reach_by g P (kind.Steps u v most) (by.Cycle es) d sign h = absurd cc
reach_by g P (kind.Distance u v most) (by.Cycle es) d sign h = absurd cc
reach_by g P (kind.Steps u v most) (by.Order us) d sign h = absurd cc
reach_by g P (kind.Distance u v most) (by.Order us) d sign h = absurd cc
reach_by g P (kind.Reach x y) w d sign h = absurd cc
reach_by g P (kind.Flow x y least) w d sign h = absurd cc
reach_by g P (kind.Tree most) w d sign h = absurd cc
reach_by g P kind.Acyclic w d sign h = absurd cc

pub searches_reach : (f : Facts) (a u w v number : ℕ) (l : Limit) (x : Witness) → (atom_at f.atoms a).predicate ≡ predicate_of u w l → v ≡ w → number ≡ bound_number (bound_of l) → IsTrue (is_distance (atom_at f.atoms a).predicate)
    → IsWitnessIn f.graph (under f.graph f.seen) (atom_at f.atoms a).predicate true x → IsReached f.graph (under f.graph f.seen) (atom_at f.atoms a).predicate v number
searches_reach f a u w v number l x is last same kind-it shown =
    let g = f.graph in
    let P = under f.graph f.seen in
    let q = (atom_at f.atoms a).predicate in
    let shows-it = reach_by g P q x kind-it shown.rests shown.passes in
    let number-is : bound_number (bound_of (limit_of q)) ≡ number = ap (λ (k : Limit). bound_number (bound_of k)) (limit_is q u w l is) ∙ sym same in
    subst (λ (m : ℕ). IsReached g P q m number) (sym (last ∙ sym (ap last_node is ∙ last_asked u w l))) (subst (λ (d : ℕ). IsReached g P q (last_node q) d) number-is shows-it)

pub reading_is : (s : DistanceView) (n v a r : ℕ) (o : Option ℕ) → place_of_atom s.atoms n ≡ a → o ≡ under_in s.surely a (atom_at s.atoms a).predicate v → r ≡ over_known s.possibly a (atom_at s.atoms a).predicate v → record { under = o; over = r } ≡ labels_in s n v
reading_is s n v a r o at read high =
    let q = (atom_at s.atoms a).predicate in
    ap (λ (p : Option ℕ). let x : Labels = record { under = p; over = r } in x) read
    ∙ (ap (λ (d : ℕ). let x : Labels = record { under = under_in s.surely a q v; over = d } in x) high
    ∙ sym (ap (λ (b : ℕ). labels_at s b (atom_at s.atoms b).predicate v) at))

-- a reading of the last node decides

pub under_decides : (f : Facts) (d : EitherSide SureLabels) (a v : ℕ) (o : Option ℕ) → IsGraph f.graph → IsOver f.graph (atom_at f.atoms a).predicate → IsTrue (is_distance (atom_at f.atoms a).predicate) → a < length f.atoms → IsDecidedSide f d → IsRightSide f d
    → o ≡ under_in d a (atom_at f.atoms a).predicate v → v ≡ last_node (atom_at f.atoms a).predicate → Decides f.graph (under f.graph f.seen) (atom_at f.atoms a).predicate (is_some o)
under_decides f d a v o graph over-it kind-it lt decided right read last =
    let q = (atom_at f.atoms a).predicate in
    decides_by f.graph (under f.graph f.seen) q (is_some (under_in d a q (last_node q))) (is_some o) (ap is_some (read ∙ ap (under_in d a q) last)) (decided_under f d a graph over-it kind-it lt decided right)

pub over_decides : (f : Facts) (r : SideView) (a u w v d : ℕ) (l : Limit) → IsGraph f.graph → IsOver f.graph (atom_at f.atoms a).predicate → IsTrue (is_distance (atom_at f.atoms a).predicate) → a < length f.atoms → NoneWaits r.stages → IsSideFor f true true r
    → (atom_at f.atoms a).predicate ≡ predicate_of u w l → d ≡ over_of l v (stage_at r.stages a) (evidence_at r.shown a) → v ≡ last_node (atom_at f.atoms a).predicate
    → Decides f.graph (over f.graph f.seen) (atom_at f.atoms a).predicate (admits (limit_of (atom_at f.atoms a).predicate) d)
over_decides f r a u w v d l graph over-it kind-it lt none right is read last =
    let q = (atom_at f.atoms a).predicate in
    let st = stage_at r.stages a in
    let len = right.side.stages_len in
    let same : d ≡ over_of (limit_of q) (last_node q) st (evidence_at r.shown a) =
    read ∙ (ap (λ (k : Limit). over_of k v st (evidence_at r.shown a)) (sym (limit_is q u w l is)) ∙ ap (λ (x : ℕ). over_of (limit_of q) x st (evidence_at r.shown a)) last) in
    decides_by f.graph (over f.graph f.seen) q (admits (limit_of q) (over_of (limit_of q) (last_node q) st (evidence_at r.shown a))) (admits (limit_of q) d) (ap (λ (m : ℕ). admits (limit_of q) m) same)
    (at_stage {f = f} a st graph over-it kind-it lt right refl (none a stage.Waits (omega (arith, lt, len))))
