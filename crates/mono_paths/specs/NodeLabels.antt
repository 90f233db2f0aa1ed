-- The labels of a search: for each node a number from 0 to a cap.
use Rattle.std.specs.Prelude.{◌≡◌, ℕ, ◌-◌, ◌≤◌, ◌<◌, All, IsTrue, List, map, nat_lt, slice_index_or}
use Rattle.mono_graph.specs.Digraph.{has, is_distinct}
use Rattle.mono_paths.specs.Spread.{label_of}
use Rattle.mono_paths.specs.declared.labels.Labels.TheInside.{Inside}

-- the cap, the label of each node, and the nodes that were reached: those whose labels are below the cap
pub record NodeLabels : Type 0 where
  pub cap : ℕ
  pub each : List ℕ
  pub reached : List ℕ

-- the nodes that were reached are those whose labels are below the cap, each listed once
pub record AreReached (nodes cap : ℕ) (labels us : List ℕ) : Type 0 where
  pub known : All (λ u. u < nodes) us
  pub once : IsTrue (is_distinct us)
  pub below : (u : ℕ) → u < nodes → has us u ≡ nat_lt (label_of labels u) cap

abbrev pub shown : Inside → NodeLabels
shown l = record { cap = l.cap; each = map (λ x. l.cap - x) l.below.items; reached = l.reached.items }

-- no label is more than the cap below it, and the nodes whose labels are below it are listed, each once
pub record AreBelowCap (cap : ℕ) (below reached : List ℕ) : Type 0 where
  pub within : (u : ℕ) → slice_index_or below u 0 ≤ cap
  pub once : IsTrue (is_distinct reached)
  pub listed : (u : ℕ) → has reached u ≡ nat_lt 0 (slice_index_or below u 0)
