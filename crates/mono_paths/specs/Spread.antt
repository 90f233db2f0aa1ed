-- Labels that are lowered until no present edge asks for more.
use Rattle.std.specs.Prelude.{◌≡◌, ℕ, ◌+◌, ◌<◌, ◌≤◌, ◌⊎◌, Bool, not, ◌&&◌, ◌||◌, ◌==◌, ◌++◌, ◌∷◌, [], List, length, slice_index_or, slice_set, nat_le, IsTrue}
use Rattle.mono_graph.specs.Digraph.{Digraph, present, edge_at}
use Rattle.mono_graph.specs.Walks.{cost_of}
use Rattle.mono_paths.specs.declared.visit.Visit.{Visit}
use Rattle.mono_paths.specs.Trails.{visit_at, IsVisited}
use Rattle.mono_graph.specs.declared.limit.Limit.{Limit}

abbrev pub label_of : List ℕ → ℕ → ℕ
label_of labels u = slice_index_or labels u 0

-- the edge asks for no lower label
abbrev pub IsTight : Digraph → Limit → List ℕ → ℕ → Type 0
IsTight g limit labels k = label_of labels (edge_at g k).to ≤ label_of labels (edge_at g k).from + cost_of limit (edge_at g k)

-- no present edge does
pub record AreTight (g : Digraph) (P : List Bool) (limit : Limit) (labels : List ℕ) : Type 0 where
  pub each : (k : ℕ) → k < length g.edges → IsTrue (present P k) → IsTight g limit labels k

-- a waiting visit has the node's label
abbrev pub IsWaiting : (ℕ → Bool) → List ℕ → List Visit → ℕ → Type 0
IsWaiting waits labels vs u = (i : ℕ) × (i < length vs) × IsTrue (waits i) × ((visit_at vs i).node ≡ u) × ((visit_at vs i).cost ≡ label_of labels u)

-- each present edge is tight or begins at a node that waits
pub record IsSpread (g : Digraph) (P : List Bool) (limit : Limit) (labels : List ℕ) (vs : List Visit) (waits : ℕ → Bool) : Type 0 where
  pub each : (k : ℕ) → k < length g.edges → IsTrue (present P k) → IsTight g limit labels k ⊎ IsWaiting waits labels vs (edge_at g k).from

-- one label for each node, 0 where the trail starts, and one below the cap is what a visit of the node costs
pub record AreLabels (g : Digraph) (cap : ℕ) (labels : List ℕ) (vs : List Visit) : Type 0 where
  pub len : length labels ≡ g.nodes
  pub start : label_of labels (visit_at vs 0).node ≡ 0
  pub most : (u : ℕ) → label_of labels u ≤ cap
  pub made : (u : ℕ) → u < g.nodes → label_of labels u < cap → IsVisited vs u (label_of labels u)

-- the node's label is lowered to the visit's cost, and the visit is added
pub record Lowers (old new : List ℕ) (vs ws : List Visit) (v : Visit) : Type 0 where
  pub below : v.cost < label_of old v.node
  pub labels : new ≡ slice_set old v.node v.cost
  pub visits : ws ≡ vs ++ v ∷ []

-- the visits that wait once this one no longer does and those from some place on do
abbrev pub waits_after : (ℕ → Bool) → ℕ → ℕ → ℕ → Bool
waits_after waits at from i = (waits i && not (i == at)) || nat_le from i
