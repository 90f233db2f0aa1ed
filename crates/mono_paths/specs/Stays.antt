-- Edges that stay within a set.
use Rattle.std.specs.Prelude.{ℕ, Bool, false, List, ◌&&◌, not, slice_index_or}
use Rattle.std.specs.List.{list_all}
use Rattle.mono_graph.specs.Digraph.{Digraph, present, edge_at, leaving}

-- the edge at a place isn't present, or leads to a marked node
abbrev pub stays_by : (ℕ → Bool) → Digraph → List Bool → ℕ → Bool
stays_by marked g P k = not (present P k && not (marked (edge_at g k).to))

-- each present edge that leaves the node leads to a marked node
abbrev pub stays_at : List Bool → Digraph → List Bool → ℕ → Bool
stays_at inside g P u = list_all (stays_by (λ v. slice_index_or inside v false) g P) (leaving g u)
