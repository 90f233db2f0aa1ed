-- What walks from each of several sources cost at least.
use Rattle.std.specs.Prelude.{◌≡◌, ℕ, ◌+◌, ◌*◌, ◌<◌, ◌≤◌, Bool, List, [], length, replicate, slice_index_or, slice_set, All}
use Rattle.mono_base.specs.declared.limits.TheConstants.{MAX_BOUND}
use Rattle.mono_graph.specs.Digraph.{Digraph}
use Rattle.mono_graph.specs.declared.limit.Limit.{Limit}
use Rattle.mono_graph.specs.declared.limit.Limit.TheVariants as limit
use Rattle.mono_dynamic.specs.declared.cost_source.CostSource.{CostSource}
use Rattle.mono_dynamic.specs.Arrivals.{GrowsAfter}
use Rattle.mono_dynamic.specs.Costs.{Costs, labels_after, made_by, AreLeastAlong, IsLater}

abbrev pub no_costs : Costs
no_costs = record { limit = limit.Free; cap = 0; labels = []; changes = [] }

abbrev pub costs_at : List Costs → ℕ → Costs
costs_at rows i = slice_index_or rows i no_costs

-- the source is one of a graph with this many nodes, and labels may be as great as its cap
pub record IsCostSource (n : ℕ) (s : CostSource) : Type 0 where
  pub known : s.node < n
  pub small : s.cap ≤ MAX_BOUND + 1

-- the number of what a limit measures
abbrev pub measure_of : Limit → ℕ
measure_of limit.Free = 0
measure_of (limit.Steps most) = 1
measure_of (limit.Weight most) = 2

-- the node and what is measured, as one number
abbrev pub cost_slot : CostSource → ℕ
cost_slot s = s.node * 3 + measure_of s.limit

-- 0 at the source and the cap at each other node
abbrev pub costs_from : ℕ → CostSource → Costs
costs_from n s = record { limit = s.limit; cap = s.cap; labels = slice_set (replicate n s.cap) s.node 0; changes = [] }

-- what walks cost after n steps
abbrev pub costs_back : ℕ → Costs → Costs
costs_back n t = record { limit = t.limit; cap = t.cap; labels = labels_after n t; changes = made_by n t.changes }

-- the row is of a graph with this many nodes, and no change is later
pub record IsCostRow (nodes latest : ℕ) (t : Costs) : Type 0 where
  pub sized : length t.labels ≡ nodes
  pub stamps : All (λ c. c.stamp ≤ latest) t.changes

-- edges have come, and the row has grown by them
pub record IsGrownCosts (g : Digraph) (Q : List Bool) (ks : List ℕ) (stamp : ℕ) (old new : Costs) : Type 0 where
  pub later : IsLater stamp old new
  pub along : (parts : ℕ → List Bool) (n u : ℕ) → AreLeastAlong g parts n u old → GrowsAfter parts n stamp Q ks → AreLeastAlong g parts stamp u new

-- the row has gone back to n steps
pub record IsBackCosts (n : ℕ) (old new : Costs) : Type 0 where
  pub is : new ≡ costs_back n old
  pub along : (g : Digraph) (parts : ℕ → List Bool) (m u : ℕ) → n ≤ m → AreLeastAlong g parts m u old → AreLeastAlong g parts n u new
