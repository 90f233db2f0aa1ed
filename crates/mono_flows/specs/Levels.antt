-- Paths that rise by one level at each visit.
use Rattle.std.specs.Prelude.{◌≡◌, ℕ, ◌-◌, ◌<◌, Bool, List, length, slice_index_or}
use Rattle.mono_graph.specs.Digraph.{Digraph}
use Rattle.mono_flows.specs.declared.network.Network.{Network}
use Rattle.mono_flows.specs.declared.flow.Flow.{Flow}
use Rattle.mono_flows.specs.declared.level_graph.LevelGraph.{LevelGraph}
use Rattle.mono_flows.specs.declared.visit.Visit.{Visit}
use Rattle.mono_flows.specs.Residual.{amount_of}
use Rattle.mono_flows.specs.Visits.{visit_at, IsSearchTree}

-- there is a level for each node
pub record AreLevels (nodes : ℕ) (x : LevelGraph) : Type 0 where
  pub levels : length x.levels.items ≡ nodes
  pub next : length x.next.items ≡ nodes

-- the path starts at the node s, where this much can be carried, and each node's level is its place on the path
pub record IsRising (g : Digraph) (P : List Bool) (f : ℕ → ℕ) (levels : List ℕ) (s most : ℕ) (vs : List Visit) : Type 0 where
  pub tree : IsSearchTree g P f vs
  pub first : (visit_at vs 0).node ≡ s
  pub residual : (visit_at vs 0).residual ≡ most
  pub rises : (i : ℕ) → i < length vs → slice_index_or levels (visit_at vs i).node 0 ≡ i

-- the path starts at the source, where as much can be carried as is still asked for
abbrev pub IsLevelPath : Network → Flow → List ℕ → ℕ → List Visit → Type 0
IsLevelPath n flow levels goal path = IsRising n.graph.now n.part.now (amount_of flow.amounts.items) levels n.source (goal - flow.value) path
