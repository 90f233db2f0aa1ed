-- Labels that are looked up by node, and what they make tense.
use Rattle.std.specs.Prelude.{ℕ, ◌+◌, Bool, false, not, ◌&&◌, List, map, nat_lt, slice_index_or, if◌then◌else◌}
use Rattle.std.specs.List.{list_all}
use Rattle.mono_graph.specs.declared.label.Label.{Label}
use Rattle.mono_graph.specs.declared.limit.Limit.{Limit}
use Rattle.mono_graph.specs.Digraph.{Digraph, present, edge_at, leaving, entering}
use Rattle.mono_graph.specs.Walks.{cost_of}
use Rattle.mono_paths.specs.declared.table.LabelTable.{LabelTable}

-- the nodes that are listed
abbrev pub nodes_listed : List Label → List ℕ
nodes_listed labels = map (λ l. l.node) labels

-- the label of a node: its value where it is marked as listed, and otherwise that of the nodes that aren't
abbrev pub value_at : List Bool → List ℕ → ℕ → ℕ → ℕ
value_at listed values others u = if slice_index_or listed u false then slice_index_or values u 0 else others

abbrev pub label_in : LabelTable → ℕ → ℕ
label_in t u = value_at t.listed.items t.values.items t.others u

-- the edge at the place isn't present, or the label rises along it by at most what it costs
abbrev pub is_calm : (ℕ → ℕ) → Limit → Digraph → List Bool → ℕ → Bool
is_calm label limit g P k = not (present P k && nat_lt (label (edge_at g k).from + cost_of limit (edge_at g k)) (label (edge_at g k).to))

-- along each present edge of the node the label rises by at most what the edge costs
abbrev pub is_calm_around : (ℕ → ℕ) → Limit → Digraph → List Bool → ℕ → Bool
is_calm_around label limit g P u = list_all (is_calm label limit g P) (leaving g u) && list_all (is_calm label limit g P) (entering g u)
