-- Nodes that are reached from each of several sources.
use Rattle.std.specs.Prelude.{◌≡◌, ℕ, ◌<◌, ◌≤◌, Bool, List, [], ◌∷◌, length, slice_index_or, All}
use Rattle.mono_graph.specs.Digraph.{Digraph}
use Rattle.mono_dynamic.specs.Arrivals.{at_source, within, AreReachedAlong, GrowsAfter}
use Rattle.mono_dynamic.specs.Reached.{Reached}

abbrev pub no_row : Reached
no_row = record { nodes = 0; source = 0; arrivals = [] }

abbrev pub row_at : List Reached → ℕ → Reached
row_at rows i = slice_index_or rows i no_row

-- the source alone, of a graph with this many nodes
abbrev pub alone : ℕ → ℕ → Reached
alone n u = record { nodes = n; source = u; arrivals = at_source u ∷ [] }

-- what was reached after n steps
abbrev pub back_to : ℕ → Reached → Reached
back_to n r = record { nodes = r.nodes; source = r.source; arrivals = within n r.arrivals }

-- the row is of a graph with this many nodes, and no arrival is later
pub record IsRow (n latest : ℕ) (r : Reached) : Type 0 where
  pub nodes : r.nodes ≡ n
  pub stamps : All (λ a. a.stamp ≤ latest) r.arrivals

-- each row has what is reached from its source after each number of steps up to n
pub record AreAllReached (g : Digraph) (parts : ℕ → List Bool) (n : ℕ) (rows : List Reached) : Type 0 where
  pub each : (i : ℕ) → i < length rows → AreReachedAlong g parts n (row_at rows i).source (row_at rows i).arrivals

-- edges have come, and the row has grown by them
pub record IsGrownRow (g : Digraph) (Q : List Bool) (ks : List ℕ) (stamp : ℕ) (old new : Reached) : Type 0 where
  pub nodes : new.nodes ≡ old.nodes
  pub source : new.source ≡ old.source
  pub earlier : (m : ℕ) → m < stamp → within m new.arrivals ≡ within m old.arrivals
  pub along : (parts : ℕ → List Bool) (n : ℕ) → AreReachedAlong g parts n old.source old.arrivals → GrowsAfter parts n stamp Q ks
      → AreReachedAlong g parts stamp old.source new.arrivals
