-- Arrivals, targets, and parts that grow or shrink for the worked rows.
use Rattle.std.specs.Prelude.{ℕ, zero, suc, Bool, pos, List, [], ◌∷◌, Option}
use Rattle.mono_graph.specs.declared.limit.Limit.{Limit}
use Rattle.mono_graph.specs.declared.limit.Limit.TheVariants as limit
use Rattle.mono_graph.specs.Worked.{both, first_alone, last_alone, neither}
use Rattle.mono_dynamic.specs.declared.arrival.Arrival.{Arrival}
use Rattle.mono_dynamic.specs.declared.change.Change.{Change}
use Rattle.mono_dynamic.specs.declared.cost_source.CostSource.{CostSource}
use Rattle.mono_dynamic.specs.declared.walk_target.WalkTarget.{WalkTarget}
use Rattle.mono_dynamic.specs.Arrivals.{at_source}
use Rattle.mono_dynamic.specs.Costs.{Costs}
use Rattle.mono_dynamic.specs.Targets.{Targets}
use Rattle.mono_dynamic.specs.Ways.{Ways}

abbrev pub arrival : ℕ → ℕ → ℕ → ℕ → Arrival
arrival v k before stamp = record { node = v; place = k; before = before; stamp = stamp }

-- two edges that come one after the other, and at once
abbrev pub one_by_one : ℕ → List Bool
one_by_one zero = neither
one_by_one (suc zero) = first_alone
one_by_one (suc (suc n)) = both

abbrev pub at_once : ℕ → List Bool
at_once zero = neither
at_once (suc n) = both

-- the last edge comes before the first
abbrev pub last_first : ℕ → List Bool
last_first zero = neither
last_first (suc zero) = last_alone
last_first (suc (suc n)) = both

-- a change by an edge that leaves the source
abbrev pub change : ℕ → ℕ → ℕ → ℕ → ℕ → ℕ → Change
change v k previous old l stamp = record { node = v; place = k; before = 0; previous = previous; old = old; label = l; stamp = stamp }

-- by an edge that leaves the node of this change before it, counted from 1
abbrev pub change_from : ℕ → ℕ → ℕ → ℕ → Change
change_from before v k l = record { node = v; place = k; before = before; previous = 0; old = 10; label = l; stamp = 1 }

-- what walks over two parallel edges cost, the cheaper of which weighs 1, by these changes
abbrev pub lowered_by : List Change → Costs
lowered_by cs = record { limit = limit.Weight (pos 9); cap = 10; labels = 0 ∷ 1 ∷ []; changes = cs }

-- by the dearer edge in the first step, and by the cheaper one in the second
abbrev pub lowered_twice : Costs
lowered_twice = lowered_by (change 1 1 0 10 4 1 ∷ change 1 0 1 4 1 2 ∷ [])

-- walks from a node that are measured so, up to a cap
abbrev pub walks_from : ℕ → Limit → ℕ → CostSource
walks_from u l cap = record { node = u; limit = l; cap = cap }

-- both of two edges, until the first of them goes with the first step
abbrev pub first_goes : ℕ → List Bool
first_goes zero = both
first_goes (suc n) = last_alone

-- node 1, by walks that weigh at most so much
abbrev pub within_weight : ℕ → WalkTarget
within_weight most = record { node = 1; limit = limit.Weight (pos most) }

-- of a graph with two nodes these arrivals, from the first node. The second one's label is given
abbrev pub ways_by : List Arrival → ℕ → Ways
ways_by xs label = record { limit = limit.Weight (pos 9); cap = 10; tree = record { nodes = 2; source = 0; arrivals = xs }; labels = 0 ∷ label ∷ [] }

-- the first node alone
abbrev pub without_way : ℕ → Ways
without_way label = ways_by (at_source 0 ∷ []) label

-- and the second by the edge at place k
abbrev pub with_way : ℕ → ℕ → Ways
with_way k label = ways_by (at_source 0 ∷ arrival 1 k 0 0 ∷ []) label

-- what is known of one target, within a weight of 3
abbrev pub known_by : Ways → Option ℕ → Option ℕ → Targets
known_by w since lost = record { ways = w; targets = within_weight 3 ∷ []; since = since; lost = lost }
