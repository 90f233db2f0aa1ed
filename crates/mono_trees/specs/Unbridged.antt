-- The absent edges that would make a tree lighter.
use Rattle.std.specs.Prelude.{◌≡◌, ◌<◌, ℕ, Bool, false, List, length, IsTrue, not}
use Rattle.mono_graph.specs.Digraph.{Digraph, edge_at, present, has}
use Rattle.mono_graph.specs.Trees.{is_bridged}

-- the tree doesn't join the ends of the edge at this place by edges no heavier than it, and the edge is absent
pub record IsUnbridged (g : Digraph) (P : List Bool) (ks : List ℕ) (k : ℕ) : Type 0 where
  pub place : k < length g.edges
  pub absent : present P k ≡ false
  pub apart : IsTrue (not (is_bridged g ks (edge_at g k)))

-- the places are those of all such edges
pub record AreUnbridged (g : Digraph) (P : List Bool) (ks edges : List ℕ) : Type 0 where
  pub only : (k : ℕ) → IsTrue (has edges k) → IsUnbridged g P ks k
  pub all : (k : ℕ) → IsUnbridged g P ks k → IsTrue (has edges k)
