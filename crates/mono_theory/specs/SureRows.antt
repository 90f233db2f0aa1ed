-- Rows along the surely present edges that follow the literals one by one.
use Rattle.std.specs.Prelude.{◌≡◌, ℕ, ◌+◌, ◌<◌, ◌⊎◌, Bool, false, List, length, map, slice_index_or, All}
use Rattle.std.specs.List.{AllZip}
use Rattle.mono_graph.specs.Digraph.{Digraph}
use Rattle.mono_dynamic.specs.declared.cost_source.CostSource.{CostSource}
use Rattle.mono_dynamic.specs.declared.walk_target.WalkTarget.{WalkTarget}
use Rattle.mono_dynamic.specs.Arrivals.{GrowsAfter}
use Rattle.mono_problem.specs.declared.atom.Predicate.{Predicate}
use Rattle.mono_theory.specs.Asked.{source_at, AreOfAtoms, HasTarget, HaveRows}
use Rattle.mono_bounds.specs.DueNodes.{PutsRows}
use Rattle.mono_theory.specs.PossibleRows.{target_at}
use Rattle.mono_theory.specs.SureParts.{sure_parts}
use Rattle.mono_theory.specs.Supports.{AreCovered}
use Rattle.mono_theory.specs.Theories.{Facts}

-- the rows, and by place of an atom its row and where its walk is to lead
pub record SureRowsView (R : Type 0) : Type 0 where
  pub rows : List R
  pub row_of : List ℕ
  pub targets : List WalkTarget

abbrev pub row_of_atom : {R : Type 0} → SureRowsView R → ℕ → ℕ
row_of_atom s a = slice_index_or s.row_of a 0

-- the nodes to which walks are to lead
abbrev pub nodes_of : List WalkTarget → List ℕ
nodes_of ts = map (λ t. t.node) ts

-- whether the row of the atom at a place shows the walk for which the atom asks
abbrev pub shows_walk : {R : Type 0} → (R → WalkTarget → Bool) → SureRowsView R → ℕ → Bool
shows_walk shows s a = slice_index_or (map (λ r. shows r (target_at s.targets a)) s.rows) (row_of_atom s a) false

-- The atoms are of the kind. Each row is right after each number of literals up to the first n, and each atom has one that
-- serves it.
pub record AreSureRows {R : Type 0} (covers : Predicate → Bool) (along : Digraph → (ℕ → List Bool) → ℕ → CostSource → R → Type 0)
    (f : Facts) (n : ℕ) (s : SureRowsView R) : Type 0 where
  pub covered : AreCovered covers f.atoms
  pub sources : List CostSource
  pub as_many : length sources ≡ length s.rows
  pub rows : (i : ℕ) (d : R) → i < length s.rows → along f.graph (sure_parts f) n (source_at sources i) (slice_index_or s.rows i d)
  pub served : HaveRows f.atoms (length f.atoms) s.row_of sources
  pub targets : AreOfAtoms HasTarget f.atoms (length f.atoms) s.targets
  pub known : All (λ t. t.node < f.graph.nodes) s.targets

-- the literal after the first n brings no edge: all is as it was
pub record HaveStayed {R : Type 0} (f : Facts) (n : ℕ) (old new : SureRowsView R) (before after : List Bool) : Type 0 where
  pub parts : sure_parts f (n + 1) ≡ sure_parts f n
  pub rows : new ≡ old
  pub due : after ≡ before

-- it brings edges: the rows have grown by them, and the atoms are due whose last nodes have changed in a row
pub record HaveGrown {R : Type 0} (Grown : Digraph → List Bool → List ℕ → ℕ → R → R → Type 0) (changed : ℕ → R → List ℕ)
    (f : Facts) (n : ℕ) (old new : SureRowsView R) (before after : List Bool) : Type 0 where
  pub part : List Bool
  pub places : List ℕ
  pub grows : GrowsAfter (sure_parts f) n (n + 1) part places
  pub grown : AllZip (Grown f.graph part places n) old.rows new.rows
  pub same : new ≡ record { rows = new.rows; row_of = old.row_of; targets = old.targets }
  pub due : PutsRows (nodes_of new.targets) (changed n) new.rows (length new.rows) before after

-- the rows have looked at the literal after the first n
abbrev pub HaveLooked : {R : Type 0} → (Digraph → List Bool → List ℕ → ℕ → R → R → Type 0) → (ℕ → R → List ℕ)
    → Facts → ℕ → SureRowsView R → SureRowsView R → List Bool → List Bool → Type 0
HaveLooked Grown changed f n old new before after = HaveStayed f n old new before after ⊎ HaveGrown Grown changed f n old new before after
