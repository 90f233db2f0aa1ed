-- What is kept of the walks along the possibly present edges for which atoms ask: a row for each first node and measure, of what
-- its atoms ask for.
use Rattle.std.specs.Prelude.{◌≡◌, ℕ, ◌<◌, ◌^◌, Bool, true, List, take, length, slice_index_or, None}
use Rattle.mono_graph.specs.Digraph.{Digraph}
use Rattle.mono_dynamic.specs.declared.walk_target.WalkTarget.{WalkTarget}
use Rattle.mono_dynamic.specs.Ways.{no_target, IsSameSource, IsTarget, IsTargetOf}
use Rattle.mono_dynamic.specs.Targets.{Targets, TargetRows, targets_at, is_lacking, is_settled, AreTold, OnlyShrink}
use Rattle.mono_problem.specs.declared.atom.Predicate.{Predicate}
use Rattle.mono_problem.specs.Quiet.{over}
use Rattle.mono_theory.specs.DueAtoms.{PutsDue}
use Rattle.mono_theory.specs.Asked.{asks_walk, first_node, target_of, AreOfAtoms, HasTarget}
use Rattle.mono_theory.specs.Supports.{AreCovered, atom_at}
use Rattle.mono_theory.specs.Theories.{Facts}

-- the rows, and by place of an atom its row and where its walk is to lead
pub record PossibleView : Type 0 where
  pub rows : TargetRows
  pub row_of : List ℕ
  pub targets : List WalkTarget

abbrev pub target_at : List WalkTarget → ℕ → WalkTarget
target_at ts a = slice_index_or ts a no_target

-- whether it is known that no walk along the possibly present edges is as the atom at a place asks
abbrev pub lacks_by : List Targets → List ℕ → List WalkTarget → ℕ → Bool
lacks_by rows row_of targets a = is_lacking (targets_at rows (slice_index_or row_of a 0)) (target_at targets a)

abbrev pub is_cut_off : PossibleView → ℕ → Bool
is_cut_off s a = lacks_by s.rows.rows s.row_of s.targets a

-- the possibly present edges of the first m literals
abbrev pub possible_parts : Facts → ℕ → List Bool
possible_parts f m = over f.graph (take m f.seen)

-- the row begins where the predicate's walk does, and measures it
pub record IsRowFor (rows : List Targets) (r : ℕ) (q : Predicate) : Type 0 where
  pub held : r < length rows
  pub source : (targets_at rows r).ways.tree.source ≡ first_node q
  pub target : IsTargetOf (targets_at rows r).ways (target_of q)

-- the row of each atom is asked for what the atom asks for
pub record AreAsked (rows : List Targets) (row_of : List ℕ) (targets : List WalkTarget) : Type 0 where
  pub each : (a : ℕ) → a < length row_of → IsTarget (targets_at rows (slice_index_or row_of a 0)).targets (target_at targets a)

-- each row tells of the first n literals, and each atom has a row that is asked for its walk
pub record AreTargetRows (f : Facts) (n : ℕ) (s : PossibleView) : Type 0 where
  pub asks : AreCovered asks_walk f.atoms
  pub nodes : s.rows.nodes ≡ f.graph.nodes
  pub few : length s.rows.rows < 2 ^ 32
  pub told : (i : ℕ) → i < length s.rows.rows → AreTold f.graph (possible_parts f) n (targets_at s.rows.rows i)
  pub row_len : length s.row_of ≡ length f.atoms
  pub targets : AreOfAtoms HasTarget f.atoms (length f.atoms) s.targets
  pub own : (a : ℕ) → a < length f.atoms → IsRowFor s.rows.rows (slice_index_or s.row_of a 0) (atom_at f.atoms a).predicate
  pub asked : AreAsked s.rows.rows s.row_of s.targets

-- they tell of all literals seen
abbrev pub AreTargetsOf : PossibleView → Facts → Type 0
AreTargetsOf s f = AreTargetRows f (length f.seen) s

-- it is known of each walk that a row is asked for whether there is one
pub record AreSettledRows (rows : List Targets) : Type 0 where
  pub each : (i : ℕ) → i < length rows → is_settled (targets_at rows i) ≡ true

abbrev pub RowsStand : PossibleView → Facts → Type 0
RowsStand s f = AreSettledRows s.rows.rows

-- ---- how rows change

-- the row is what it was, or what a search after so many steps found
pub record IsRenewedRow (g : Digraph) (P : List Bool) (number : ℕ) (old new : Targets) : Type 0 where
  pub from : IsSameSource old.ways new.ways
  pub targets : new.targets ≡ old.targets
  pub told : (parts : ℕ → List Bool) → parts number ≡ P → OnlyShrink parts number → AreTold g parts number old → AreTold g parts number new

-- each row has changed as the relation says
pub record AreEach (Is : Targets → Targets → Type 0) (olds news : List Targets) : Type 0 where
  pub len : length news ≡ length olds
  pub each : (i : ℕ) → i < length olds → Is (targets_at olds i) (targets_at news i)

-- Rows were brought up to date as the relation says, and the atoms are due of which that shows something new.
pub record AreBroughtUp (Is : List Targets → List Targets → Type 0) (row_of : List ℕ) (old new : TargetRows)
    (before after : List Bool) : Type 0 where
  pub nodes : new.nodes ≡ old.nodes
  pub size : length after ≡ length before
  pub rows : Is old.rows new.rows
  pub due : (targets : List WalkTarget) → AreAsked old.rows row_of targets
      → PutsDue (length row_of) (lacks_by old.rows row_of targets) (lacks_by new.rows row_of targets) before after

-- targets were added
pub record IsFilledRow (old new : Targets) : Type 0 where
  pub ways : new.ways ≡ old.ways
  pub lost : new.lost ≡ old.lost
  pub since : old.since ≡ None → new.since ≡ None
