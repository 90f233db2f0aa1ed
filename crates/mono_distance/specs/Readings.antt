-- What a theory of distances knows of nodes, for its atoms.
use Rattle.std.specs.Prelude.{ℕ, suc, ◌≤◌, ◌==◌, ◌&&◌, Bool, true, false, ℤ, pos, negsuc, ◌+ℤ◌, int_le, min, List, Option, None, Some, IsTrue, if◌then◌else◌}
use Rattle.mono_graph.specs.declared.label.Label.{Label}
use Rattle.mono_graph.specs.declared.limit.Limit.{Limit}
use Rattle.mono_graph.specs.Digraph.{Digraph}
use Rattle.mono_graph.specs.Walks.{admits, is_walk, bound_of, cost_along}
use Rattle.mono_problem.specs.declared.atom.Predicate.{Predicate}
use Rattle.mono_steps.specs.declared.lemma.Witness.{Witness}
use Rattle.mono_steps.specs.declared.lemma.Witness.TheVariants as by
use Rattle.mono_theory.specs.declared.evidence.Evidence.{Evidence}
use Rattle.mono_theory.specs.declared.stage.Stage.{Stage}
use Rattle.mono_theory.specs.declared.stage.Stage.TheVariants as stage
use Rattle.mono_theory.specs.AtomPlaces.{place_of_atom}
use Rattle.mono_theory.specs.Sound.{evidence_at}
use Rattle.mono_theory.specs.Stages.{shows, stage_at}
use Rattle.mono_theory.specs.PossibleRows.{PossibleView, AreTargetsOf, RowsStand, is_cut_off}
use Rattle.mono_theory.specs.Supports.{GraphTheoryView, atom_at, facts_in}
use Rattle.mono_theory.specs.Theories.{Facts}
use Rattle.mono_theory.specs.declared.either_side.EitherSide.{EitherSide}
use Rattle.mono_theory.specs.declared.either_side.EitherSide.TheVariants as side
use Rattle.mono_theory.specs.EitherSides.{IsEitherDecided, IsEitherRight}
use Rattle.mono_distance.specs.Distances.{is_distance}
use Rattle.mono_distance.specs.declared.node_labels.Labels.{Labels}
use Rattle.mono_distance.specs.Labels.{entry_in, value_by}
use Rattle.mono_theory.specs.RowSides.{AlwaysStand}
use Rattle.mono_distance.specs.SureLabels.{SureLabels, AreSureLabels, shows_last, first_node, last_node, limit_of, under_label}

-- the label is within the predicate's bound, and a walk in the part from its first node to the node costs at most so much
pub record IsReached (g : Digraph) (P : List Bool) (q : Predicate) (v d : ℕ) : Type 0 where
  pub within : IsTrue (admits (limit_of q) d)
  pub walk : List ℕ
  pub leads : IsTrue (is_walk g P (first_node q) v walk)
  pub cost : cost_along (limit_of q) g walk ≤ d

-- each walk in the part from the predicate's first node to the node costs at least so much, at most one more than the bound
pub record IsBelowEachWalk (g : Digraph) (P : List Bool) (q : Predicate) (v d : ℕ) : Type 0 where
  pub below : (ks : List ℕ) → IsTrue (is_walk g P (first_node q) v ks) → d ≤ cost_along (limit_of q) g ks
  pub most : IsTrue (int_le (pos d) (bound_of (limit_of q) +ℤ pos 1))

-- one more than the bound
abbrev pub above : ℤ → ℕ
above (pos n) = suc n
above (negsuc n) = 0

-- what is kept with the surely present edges is right
abbrev pub IsRightSide : Facts → EitherSide SureLabels → Type 0
IsRightSide f s = IsEitherRight is_distance false true AreSureLabels shows_last f s

-- what is kept with the surely present edges decides each predicate
abbrev pub IsDecidedSide : Facts → EitherSide SureLabels → Type 0
IsDecidedSide f s = IsEitherDecided AlwaysStand f s

-- the label with the surely present edges, where it is within the bound
abbrev pub under_at : SureLabels → ℕ → Predicate → ℕ → Option ℕ
under_at s a q v = if admits (limit_of q) (under_label s a v) then Some (under_label s a v) else None

-- a bound as a number
abbrev pub bound_number : ℤ → ℕ
bound_number (pos n) = n
bound_number (negsuc n) = 0

-- Rows have a label of each node. What searches found says of the last node alone that a walk within the bound leads there:
-- then the label is the bound.
abbrev pub under_in : EitherSide SureLabels → ℕ → Predicate → ℕ → Option ℕ
under_in (side.Rows s) a q v = under_at s.rows a q v
under_in (side.Searches s) a q v = if v == last_node q && shows (stage_at s.stages a) then Some (bound_number (bound_of (limit_of q))) else None

-- the label that a list gives, up to one more than the bound
abbrev pub over_in : Limit → List Label → ℕ → ℕ
over_in l ls v = min (value_by (above (bound_of l)) (entry_in ls v)) (above (bound_of l))

abbrev pub over_by : Limit → ℕ → Witness → ℕ
over_by l v (by.Label ls) = over_in l ls v
over_by l v w = 0

-- the label by what is shown against a predicate
abbrev pub over_of : Limit → ℕ → Stage → Option Evidence → ℕ
over_of l v (stage.Shows m) (Some e) = over_by l v e.witness
over_of l v s o = 0

-- what is kept with the possibly present edges is right
abbrev pub IsPossiblyRight : Facts → EitherSide PossibleView → Type 0
IsPossiblyRight f s = IsEitherRight is_distance true true AreTargetsOf is_cut_off f s

-- what is kept with the possibly present edges decides each predicate
abbrev pub IsPossiblyDecided : Facts → EitherSide PossibleView → Type 0
IsPossiblyDecided f s = IsEitherDecided RowsStand f s

-- Rows say of the last node alone that each walk there costs more than the bound: then the label is one more than the bound.
abbrev pub over_at : PossibleView → ℕ → Predicate → ℕ → ℕ
over_at s a q v = if v == last_node q && is_cut_off s a then above (bound_of (limit_of q)) else 0

-- the label by what is kept with the possibly present edges
abbrev pub over_known : EitherSide PossibleView → ℕ → Predicate → ℕ → ℕ
over_known (side.Rows s) a q v = over_at s.rows a q v
over_known (side.Searches s) a q v = over_of (limit_of q) v (stage_at s.stages a) (evidence_at s.shown a)

-- a theory of distances
abbrev pub DistanceView : Type 0
DistanceView = GraphTheoryView (EitherSide SureLabels) (EitherSide PossibleView)

-- what is known of a node for the atom of a number
abbrev pub labels_at : DistanceView → ℕ → Predicate → ℕ → Labels
labels_at s a q v = record { under = under_in s.surely a q v; over = over_known s.possibly a q v }

abbrev pub labels_in : DistanceView → ℕ → ℕ → Labels
labels_in s n v = labels_at s (place_of_atom s.atoms n) (atom_at s.atoms (place_of_atom s.atoms n)).predicate v

-- what is kept decides each predicate with the surely present edges, and with the possibly present ones
pub record AreBothDecided (s : DistanceView) : Type 0 where
  pub surely : IsDecidedSide (facts_in s) s.surely
  pub possibly : IsPossiblyDecided (facts_in s) s.possibly
