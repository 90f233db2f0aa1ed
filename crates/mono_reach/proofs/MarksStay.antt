-- What is kept of the nodes that are reached along the surely present edges decides each predicate.
use Rattle.std.proofs.Common.{◌≡◌, ℕ, ◌<◌, ◌≤◌, Bool, true, false, List, length, refl, subst, ◌∙◌, arith}
use Rattle.std.specs.Prelude.{IsTrue}
use Rattle.std.proofs.lemmas.Bool.{both_ways, and_from, and_parts}
use Rattle.mono_graph.specs.Digraph.{Digraph}
use Rattle.mono_graph.specs.Walks.{is_walk}
use Rattle.mono_graph.proofs.Subparts.{is_walk-larger}
use Rattle.mono_dynamic.specs.declared.arrival.Arrival.{Arrival}
use Rattle.mono_dynamic.specs.Arrivals.{AreReached}
use Rattle.mono_dynamic.specs.Rows.{no_row, row_at}
use Rattle.mono_dynamic.proofs.Listed.{within_all}
use Rattle.mono_dynamic.proofs.RowsAlong.{reached_same}
use Rattle.mono_problem.specs.declared.atom.Predicate.{Predicate}
use Rattle.mono_problem.specs.declared.atom.Predicate.TheVariants as kind
use Rattle.mono_problem.specs.Holds.{Holds}
use Rattle.mono_problem.specs.Quiet.{under}
use Rattle.mono_theory.specs.Evidences.{Decides}
use Rattle.mono_theory.specs.Supports.{atom_at}
use Rattle.mono_theory.specs.Theories.{Facts, cut_to}
use Rattle.mono_theory.specs.SureParts.{sure_parts}
use Rattle.mono_theory.proofs.SureEdges.{sure_within}
use Rattle.mono_theory.proofs.SureRowsStay.{row_held, sure_in}
use Rattle.mono_reach.specs.Marks.{SureMarks, AreMarks, AreMarksOf, first_node, last_node, under_mark, row_of_atom}
use Rattle.mono_reach.specs.Reaches.{is_reach}

-- what is right for the list that was cut is right for its first literals
pub marks_in : (f : Facts) {s : SureMarks} (n : ℕ) → n ≤ length f.seen → AreMarksOf s (cut_to n f) → AreMarks f n s
marks_in f n le h = sure_in reached_same f n le h

-- ---- what marks tell

-- what was reached from the atom's first node
own_reached : {f : Facts} {s : SureMarks} (n a : ℕ) → a < length f.atoms → AreMarks f n s → AreReached f.graph (sure_parts f n) (first_node (atom_at f.atoms a).predicate) (row_at s.rows (row_of_atom s a)).arrivals
own_reached {f = f} {s = s} n a lt h =
    let row = row_at s.rows (row_of_atom s a) in
    let right = h.rows (row_of_atom s a) no_row (row_held a lt h) in
    subst (λ (u : ℕ). AreReached f.graph (sure_parts f n) u row.arrivals) (right.source ∙ (h.served.each a lt).1.node)
    (subst (λ (xs : List Arrival). AreReached f.graph (sure_parts f n) row.source xs) (within_all n row.arrivals right.along.latest) (right.along.each n (omega arith)))

pub reach_holds : (g : Digraph) (P : List Bool) (q : Predicate) → IsTrue (is_reach q) → ((ks : List ℕ) × IsTrue (is_walk g P (first_node q) (last_node q) ks)) → Holds g P q
reach_holds g P (kind.Reach u v) r w = (w.0, and_from (is_walk g P u v w.0) true w.1 refl)
reach_holds g P (kind.Steps u v most) r w = absurd cc
reach_holds g P (kind.Distance u v most) r w = absurd cc
reach_holds g P (kind.Flow u v least) r w = absurd cc
reach_holds g P (kind.Tree most) r w = absurd cc
reach_holds g P kind.Acyclic r w = absurd cc

pub holds_reach : (g : Digraph) (P : List Bool) (q : Predicate) → IsTrue (is_reach q) → Holds g P q → (ks : List ℕ) × IsTrue (is_walk g P (first_node q) (last_node q) ks)
holds_reach g P (kind.Reach u v) r w = (w.0, (and_parts (is_walk g P u v w.0) true w.1).0)
holds_reach g P (kind.Steps u v most) r w = absurd cc
holds_reach g P (kind.Distance u v most) r w = absurd cc
holds_reach g P (kind.Flow u v least) r w = absurd cc
holds_reach g P (kind.Tree most) r w = absurd cc
holds_reach g P kind.Acyclic r w = absurd cc

decides_by : (g : Digraph) (P : List Bool) (q : Predicate) (b : Bool) → (IsTrue b → Holds g P q) → (b ≡ false → ¬ Holds g P q) → Decides g P q b
decides_by g P q true yes_holds no_holds = yes_holds refl
decides_by g P q false yes_holds no_holds = no_holds refl

-- the mark of an atom's last node is whether its predicate holds
pub marks_decide : {f : Facts} {s : SureMarks} (n a : ℕ) → a < length f.atoms → IsTrue (is_reach (atom_at f.atoms a).predicate) → AreMarks f n s
    → Decides f.graph (sure_parts f n) (atom_at f.atoms a).predicate (under_mark s a (last_node (atom_at f.atoms a).predicate))
marks_decide {f = f} {s = s} n a lt r h =
    let q = (atom_at f.atoms a).predicate in
    let exact = (own_reached n a lt h).exact (last_node q) in
    decides_by f.graph (sure_parts f n) q (under_mark s a (last_node q))
    (λ on. reach_holds f.graph (sure_parts f n) q r (exact.0 on))
    (λ off holds. both_ways (under_mark s a (last_node q)) off (exact.1 (holds_reach f.graph (sure_parts f n) q r holds)))

-- a marked node is reached under all later literals too
pub marked_walk : {f : Facts} {s : SureMarks} (n a v : ℕ) → n ≤ length f.seen → a < length f.atoms → AreMarks f n s → IsTrue (under_mark s a v) → (ks : List ℕ) × IsTrue (is_walk f.graph (under f.graph f.seen) (first_node (atom_at f.atoms a).predicate) v ks)
marked_walk {f = f} {s = s} n a v fits lt h m =
    let q = (atom_at f.atoms a).predicate in
    let w = ((own_reached n a lt h).exact v).0 m in
    (w.0, is_walk-larger f.graph (sure_parts f n) (under f.graph f.seen) (sure_within f n fits) (first_node q) v w.0 w.1)
