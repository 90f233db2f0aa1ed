-- Labels by node as a table keeps them, and the absent edges along which they rise.
use Rattle.std.specs.Prelude.{◌≡◌, ◌≤◌, ◌+◌, ◌-◌, ◌==◌, ◌++◌, ℕ, Bool, not, ◌&&◌, nat_lt, if◌then◌else◌, List, [], ◌∷◌, filter, flat_map, slice_index_or}
use Rattle.mono_base.specs.declared.limits.TheConstants.{MAX_WITNESS_VALUE}
use Rattle.mono_graph.specs.declared.edge.Edge.{Edge}
use Rattle.mono_graph.specs.declared.label.Label.{Label}
use Rattle.mono_graph.specs.declared.limit.Limit.{Limit}
use Rattle.mono_graph.specs.Digraph.{Digraph, edge_at, present, leaving, entering}
use Rattle.mono_graph.specs.Walks.{cost_of}

-- the entry of a node: one more than its label where it is listed, and 0 where it isn't
abbrev pub entry_in : List Label → ℕ → ℕ
entry_in [] u = 0
entry_in (l ∷ ls) u = if l.node == u then l.value + 1 else entry_in ls u

-- the label that an entry says, where the nodes that aren't listed have this one
abbrev pub value_by : ℕ → ℕ → ℕ
value_by others entry = if entry == 0 then others else entry - 1

abbrev pub label_in : List ℕ → ℕ → ℕ → ℕ
label_in entries others u = value_by others (slice_index_or entries u 0)

-- no node is listed
pub record IsUnlisted (entries : List ℕ) : Type 0 where
  pub none : (u : ℕ) → slice_index_or entries u 0 ≡ 0

-- no label is more than one of a witness may be
pub record AreSmall (entries : List ℕ) (others : ℕ) : Type 0 where
  pub each : (u : ℕ) → label_in entries others u ≤ MAX_WITNESS_VALUE

-- the labels rise along the edge by more than it costs
abbrev pub rises : List ℕ → ℕ → Limit → Edge → Bool
rises entries others limit e = nat_lt (label_in entries others e.from + cost_of limit e) (label_in entries others e.to)

-- of these edges, the absent ones along which they do
abbrev pub absent_rising : Digraph → List Bool → List ℕ → ℕ → Limit → List ℕ → List ℕ
absent_rising g P entries others limit ks = filter (λ k. not (present P k) && rises entries others limit (edge_at g k)) ks

-- those at a listed node. Into it they rise from a node that isn't listed only where its label is greater
abbrev pub absent_at : Digraph → List Bool → List ℕ → ℕ → Limit → Label → List ℕ
absent_at g P entries others limit l =
    absent_rising g P entries others limit (leaving g l.node)
    ++ (if nat_lt others l.value then absent_rising g P entries others limit (entering g l.node) else [])

abbrev pub absent_tense : Digraph → List Bool → List ℕ → ℕ → Limit → List Label → List ℕ
absent_tense g P entries others limit ls = flat_map (absent_at g P entries others limit) ls
