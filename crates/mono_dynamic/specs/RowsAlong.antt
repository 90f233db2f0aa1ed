-- Rows from a source after each number of steps by which a part grew, and the walks that they show.
use Rattle.std.specs.Prelude.{◌≡◌, ℕ, Bool, true, pos, int_lt, List}
use Rattle.mono_graph.specs.declared.limit.Limit.{Limit}
use Rattle.mono_graph.specs.declared.limit.Limit.TheVariants as limit
use Rattle.mono_graph.specs.Digraph.{Digraph}
use Rattle.mono_graph.specs.Walks.{admits, bound_of}
use Rattle.mono_dynamic.specs.declared.cost_source.CostSource.{CostSource}
use Rattle.mono_dynamic.specs.declared.walk_target.WalkTarget.{WalkTarget}
use Rattle.mono_dynamic.specs.Arrivals.{is_reached, AreReachedAlong}
use Rattle.mono_dynamic.specs.Costs.{Costs, label_of, AreLeastAlong}
use Rattle.mono_dynamic.specs.LeastRows.{measure_of}
use Rattle.mono_dynamic.specs.Reached.{Reached}

-- walks to the target are measured as from the source, and labels there go beyond its bound
pub record IsMeasured (s : CostSource) (t : WalkTarget) : Type 0 where
  pub alike : measure_of s.limit ≡ measure_of t.limit
  pub beyond : int_lt (bound_of t.limit) (pos s.cap) ≡ true

-- ---- nodes that are reached

-- the row is from the source, and has what is reached from there after each number of steps up to n
pub record IsReachedRow (g : Digraph) (parts : ℕ → List Bool) (n : ℕ) (s : CostSource) (r : Reached) : Type 0 where
  pub nodes : r.nodes ≡ g.nodes
  pub source : r.source ≡ s.node
  pub along : AreReachedAlong g parts n r.source r.arrivals

-- any walk is as asked
abbrev pub IsFree : Limit → Type 0
IsFree l = l ≡ limit.Free

abbrev pub shows_reached : Reached → WalkTarget → Bool
shows_reached r t = is_reached r.arrivals t.node

-- ---- what walks cost at least

-- the row is from the source, and has what walks from there cost at least after each number of steps up to n
pub record IsLeastRow (g : Digraph) (parts : ℕ → List Bool) (n : ℕ) (s : CostSource) (t : Costs) : Type 0 where
  pub limit : t.limit ≡ s.limit
  pub cap : t.cap ≡ s.cap
  pub along : AreLeastAlong g parts n s.node t

abbrev pub shows_least : Costs → WalkTarget → Bool
shows_least c t = admits t.limit (label_of c.labels t.node)
