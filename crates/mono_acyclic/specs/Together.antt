-- Edges that come to a part with an order together, and an edge that would close a cycle there.
use Rattle.std.specs.Prelude.{◌≡◌, ℕ, ◌<◌, Bool, false, List, length, IsTrue}
use Rattle.mono_graph.specs.Digraph.{Digraph, present}
use Rattle.mono_graph.specs.Cycles.{is_cycle, is_order}
use Rattle.mono_cycles.specs.Kept.{IsGrownBy, PartWithOrder}
use Rattle.mono_dynamic.specs.Arrivals.{IsGrown}

-- these edges have come, and the order is one of all
pub record IsPutIn (g : Digraph) (old new : PartWithOrder) (ks : List ℕ) : Type 0 where
  pub size : length new.order ≡ length old.order
  pub part_size : length new.part ≡ length old.part
  pub grown : IsGrown old.part new.part ks
  pub order : IsTrue (is_order g old.part old.order) → IsTrue (is_order g new.part new.order)

-- the same edges are there, and an order of them if there was one
pub record HasSameEdges (g : Digraph) (old new : PartWithOrder) : Type 0 where
  pub size : length new.order ≡ length old.order
  pub part_size : length new.part ≡ length old.part
  pub part : (k : ℕ) → present new.part k ≡ present old.part k
  pub order : IsTrue (is_order g old.part old.order) → IsTrue (is_order g new.part new.order)

-- the edge isn't in the part, may come, and closes the cycle with the edges of the part
pub record IsClosing (g : Digraph) (P Q : List Bool) (cycle : List ℕ) (k : ℕ) : Type 0 where
  pub known : k < length g.edges
  pub absent : present P k ≡ false
  pub may_come : IsTrue (present Q k)
  pub closes : (R : List Bool) → IsGrownBy P R k → IsTrue (is_cycle g R cycle)
