-- What a theory of reachability knows of nodes.
use Rattle.std.specs.Prelude.{ℕ, ◌==◌, ◌&&◌, not, Bool, true, false, Option, None, Some, if◌then◌else◌}
use Rattle.mono_graph.specs.Digraph.{has}
use Rattle.mono_problem.specs.declared.atom.Predicate.{Predicate}
use Rattle.mono_theory.specs.declared.either_side.EitherSide.{EitherSide}
use Rattle.mono_theory.specs.declared.either_side.EitherSide.TheVariants as either
use Rattle.mono_theory.specs.EitherSides.{IsEitherDecided}
use Rattle.mono_theory.specs.RowSides.{AlwaysStand}
use Rattle.mono_steps.specs.declared.lemma.Witness.{Witness}
use Rattle.mono_steps.specs.declared.lemma.Witness.TheVariants as by
use Rattle.mono_theory.specs.declared.evidence.Evidence.{Evidence}
use Rattle.mono_theory.specs.Sound.{evidence_at}
use Rattle.mono_theory.specs.Stages.{shows, stage_at}
use Rattle.mono_theory.specs.Supports.{GraphTheoryView, SideView, atom_at, facts_in}
use Rattle.mono_reach.specs.Marks.{SureMarks, last_node, under_mark}
use Rattle.mono_theory.specs.PossibleRows.{PossibleView, RowsStand, is_cut_off}
use Rattle.mono_reach.specs.declared.marks.Marks.{Marks}

-- whether the node is in the set of nodes that the witness is, if it is one
abbrev pub in_cut : Witness → ℕ → Bool
in_cut (by.Cut us) v = has us v
in_cut w v = true

abbrev pub in_kept_cut : Option Evidence → ℕ → Bool
in_kept_cut None v = true
in_kept_cut (Some e) v = in_cut e.witness v

-- whether the node isn't known to be cut off along the possibly present edges: it isn't the last node, or its row has it
abbrev pub over_mark : PossibleView → Predicate → ℕ → ℕ → Bool
over_mark s q a v = not (v == last_node q && is_cut_off s a)

-- whether no set that cuts it off was found: it is in the one that was, or none was
abbrev pub cut_mark : SideView → ℕ → ℕ → Bool
cut_mark s a v = if s.thorough && shows (stage_at s.stages a) then in_kept_cut (evidence_at s.shown a) v else true

-- whether a walk to the node was found along the surely present edges: it is one to the last node
abbrev pub found_mark : SideView → Predicate → ℕ → ℕ → Bool
found_mark s q a v = if s.thorough && shows (stage_at s.stages a) then v == last_node q else false

-- whether the node is known to be reached from the atom's first node along the surely present edges
abbrev pub sure_mark : EitherSide SureMarks → Predicate → ℕ → ℕ → Bool
sure_mark (either.Rows s) q a v = under_mark s.rows a v
sure_mark (either.Searches s) q a v = found_mark s q a v

-- whether the node isn't known to be cut off from the atom's first node along the possibly present edges
abbrev pub possible_mark : EitherSide PossibleView → Predicate → ℕ → ℕ → Bool
possible_mark (either.Rows s) q a v = over_mark s.rows q a v
possible_mark (either.Searches s) q a v = cut_mark s a v

-- a theory of reachability
abbrev pub ReachView : Type 0
ReachView = GraphTheoryView (EitherSide SureMarks) (EitherSide PossibleView)

-- what is known of a node, for the atom at a place
abbrev pub marks_at : ReachView → ℕ → ℕ → Marks
marks_at s a v = record { under = sure_mark s.surely (atom_at s.atoms a).predicate a v; over = possible_mark s.possibly (atom_at s.atoms a).predicate a v }

-- what is kept decides each predicate with the surely present edges, and with the possibly present ones
pub record AreBothDecided (s : ReachView) : Type 0 where
  pub surely : IsEitherDecided AlwaysStand (facts_in s) s.surely
  pub possibly : IsEitherDecided RowsStand (facts_in s) s.possibly
