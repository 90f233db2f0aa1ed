-- What a search by labels ends with.
use Rattle.std.specs.Prelude.{ℕ, ◌<◌, Bool, List, length, All, IsTrue}
use Rattle.mono_graph.specs.declared.limit.Limit.{Limit}
use Rattle.mono_graph.specs.Digraph.{Digraph}
use Rattle.mono_graph.specs.Walks.{is_walk, cost_along}

-- a walk that costs less than the cap
pub record IsCheap (g : Digraph) (P : List Bool) (limit : Limit) (u v cap : ℕ) (ks : List ℕ) : Type 0 where
  pub walk : IsTrue (is_walk g P u v ks)
  pub known : All (λ k. k < length g.edges) ks
  pub cost : cost_along limit g ks < cap
