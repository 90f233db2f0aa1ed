-- Walks from a source to targets that are kept of a search, as a tree.
use Rattle.std.specs.Prelude.{◌≡◌, ℕ, ◌+◌, ◌<◌, ◌≤◌, ◌==◌, ◌&&◌, ◌⊎◌, ◌↔◌, Bool, true, pos, int_lt, List, [], length, replicate, slice_index_or, slice_set, Option, None, Some, IsTrue, All, if◌then◌else◌}
use Rattle.mono_graph.specs.declared.edge.Edge.{Edge}
use Rattle.mono_graph.specs.declared.limit.Limit.{Limit}
use Rattle.mono_graph.specs.declared.limit.Limit.TheVariants as limit
use Rattle.mono_graph.specs.Digraph.{Digraph, edge_at, present, has}
use Rattle.mono_graph.specs.Walks.{admits, bound_of, cost_along, cost_of, is_path, is_walk}
use Rattle.mono_dynamic.specs.declared.cost_source.CostSource.{CostSource}
use Rattle.mono_dynamic.specs.declared.walk_target.WalkTarget.{WalkTarget}
use Rattle.mono_dynamic.specs.Arrivals.{arrival_at, is_reached, IsTree}
use Rattle.mono_dynamic.specs.Costs.{Costs, label_of, unwound}
use Rattle.mono_dynamic.specs.LeastRows.{costs_from, measure_of}
use Rattle.mono_dynamic.specs.Reached.{Reached}
use Rattle.mono_dynamic.specs.Rows.{alone}
use Rattle.mono_dynamic.specs.SearchTrees.{RestsOn, LeadsOn}

-- What walks cost, the cost that no longer matters, how nodes are reached, and what the walks to them cost at least. Where
-- walks cost nothing no node has a label, and each reads 0.
pub record Ways : Type 0 where
  pub limit : Limit
  pub cap : ℕ
  pub tree : Reached
  pub labels : List ℕ

-- ---- targets

abbrev pub no_target : WalkTarget
no_target = record { node = 0; limit = limit.Free }

-- it stands somewhere in the list
abbrev pub IsTarget : List WalkTarget → WalkTarget → Type 0
IsTarget ts t = (i : ℕ) × (i < length ts) × (slice_index_or ts i no_target ≡ t)

-- a walk to the target within its limit is kept
abbrev pub has_target : Ways → WalkTarget → Bool
has_target w t = is_reached w.tree.arrivals t.node && admits t.limit (label_of w.labels t.node)

-- walks to the target can be asked for here: it is a node, what it measures is what is measured, and its limit matters
pub record IsTargetOf (w : Ways) (t : WalkTarget) : Type 0 where
  pub known : t.node < w.tree.nodes
  pub alike : measure_of t.limit ≡ measure_of w.limit
  pub below : int_lt (bound_of t.limit) (pos w.cap) ≡ true

-- along each edge of the tree the label rises by at least what the edge costs
pub record IsPriced (g : Digraph) (w : Ways) : Type 0 where
  pub each : (k : ℕ) → RestsOn w.tree.arrivals k → label_of w.labels (edge_at g k).from + cost_of w.limit (edge_at g k) ≤ label_of w.labels (edge_at g k).to

-- The tree is one in the part. Of these targets it has exactly those to which a walk in the part leads within its limit.
pub record AreReachedWays (g : Digraph) (P : List Bool) (targets : List WalkTarget) (w : Ways) : Type 0 where
  pub tree : IsTree g P w.tree.source w.tree.arrivals
  pub priced : IsPriced g w
  pub exact : All (λ t. IsTrue (has_target w t) ↔ ((ks : List ℕ) × IsTrue (is_path g P w.tree.source t.node t.limit ks))) targets

-- The tree is one in the part. Of these targets it has exactly those to which a walk in the part leads within its limit, and
-- it has nothing that isn't on the way to one of them.
pub record AreWaysTo (g : Digraph) (P : List Bool) (targets : List WalkTarget) (w : Ways) : Type 0 where
  pub tree : IsTree g P w.tree.source w.tree.arrivals
  pub priced : IsPriced g w
  pub exact : All (λ t. IsTrue (has_target w t) ↔ ((ks : List ℕ) × IsTrue (is_path g P w.tree.source t.node t.limit ks))) targets
  pub needed : (i : ℕ) → 0 < i → i < length w.tree.arrivals
      → ((t : WalkTarget) × IsTarget targets t × IsTrue (has_target w t) × (t.node ≡ (arrival_at w.tree.arrivals i).node)) ⊎ LeadsOn w.tree.arrivals i

-- they are from the same source, and measured alike
pub record IsSameSource (old new : Ways) : Type 0 where
  pub nodes : new.tree.nodes ≡ old.tree.nodes
  pub source : new.tree.source ≡ old.tree.source
  pub limit : new.limit ≡ old.limit
  pub cap : new.cap ≡ old.cap

-- ---- labels, where walks cost something

abbrev pub limit_in : Option Costs → Limit
limit_in None = limit.Free
limit_in (Some c) = c.limit

abbrev pub cap_in : Option Costs → ℕ
cap_in None = 1
cap_in (Some c) = c.cap

abbrev pub labels_in : Option Costs → List ℕ
labels_in None = []
labels_in (Some c) = c.labels

abbrev pub ways_of : Reached → Option Costs → Ways
ways_of r costs = record { limit = limit_in costs; cap = cap_in costs; tree = r; labels = labels_in costs }

-- before any search
abbrev pub first_costs : ℕ → CostSource → Option Costs
first_costs n s = if measure_of s.limit == 0 then None else Some (costs_from n s)

abbrev pub first_ways : ℕ → CostSource → Ways
first_ways n s = ways_of (alone n s.node) (first_costs n s)

-- once all changes are taken back, the source has label 0 and each other node the cap
pub record AreCostsFrom (n u : ℕ) (c : Costs) : Type 0 where
  pub inside : u < n
  pub len : length c.labels ≡ n
  pub first : unwound c.labels c.changes ≡ slice_set (replicate n c.cap) u 0

abbrev pub AreFrom : ℕ → ℕ → Option Costs → Type 0
AreFrom n u None = Unit {0}
AreFrom n u (Some c) = AreCostsFrom n u c

-- ---- while walks are searched

-- the edge gives the node to which it leads its label
abbrev pub gives_label : Limit → List ℕ → Edge → Bool
gives_label limit labels e = label_of labels e.to == label_of labels e.from + cost_of limit e

-- the edge at a place is one of P and does so
abbrev pub is_lightest : Digraph → List Bool → Limit → List ℕ → ℕ → Bool
is_lightest g P limit labels k = present P k && gives_label limit labels (edge_at g k)

-- the part T has such edges alone, and all of them that leave nodes with labels below the cap
pub record AreLightest (g : Digraph) (P : List Bool) (limit : Limit) (cap : ℕ) (labels : List ℕ) (T : List Bool) : Type 0 where
  pub len : length T ≡ length g.edges
  pub only : (k : ℕ) → k < length g.edges → IsTrue (present T k) → IsTrue (is_lightest g P limit labels k)
  pub each : (k : ℕ) → k < length g.edges → label_of labels (edge_at g k).from < cap → IsTrue (is_lightest g P limit labels k) → IsTrue (present T k)

-- Along edges of the part T, which are edges of P, labels rise by what the edges cost. No walk in P costs less than its end's
-- label, and where that is below the cap a walk in T leads there too.
pub record IsLight (g : Digraph) (P T : List Bool) (u : ℕ) (costs : Option Costs) : Type 0 where
  pub gives : (k : ℕ) → k < length g.edges → IsTrue (present T k) → IsTrue (is_lightest g P (limit_in costs) (labels_in costs) k)
  pub least : (v : ℕ) (ks : List ℕ) → IsTrue (is_walk g P u v ks) → label_of (labels_in costs) v ≤ cost_along (limit_in costs) g ks
  pub lead : (v : ℕ) (ks : List ℕ) → v < g.nodes → IsTrue (is_walk g P u v ks) → label_of (labels_in costs) v < cap_in costs
      → (js : List ℕ) × IsTrue (is_walk g T u v js)

-- the part that is searched: the lightest edges, where walks cost something, else all
abbrev pub searched_part : List Bool → Option (List Bool) → List Bool
searched_part P None = P
searched_part P (Some T) = T

-- the nodes of those targets whose labels are within their bounds
pub record AreAsked (labels : List ℕ) (targets : List WalkTarget) (nodes : List ℕ) : Type 0 where
  pub each : All (λ t. IsTrue (admits t.limit (label_of labels t.node)) → IsTrue (has nodes t.node)) targets
  pub only : (v : ℕ) → IsTrue (has nodes v) → (t : WalkTarget) × IsTarget targets t × IsTrue (admits t.limit (label_of labels t.node)) × (t.node ≡ v)
