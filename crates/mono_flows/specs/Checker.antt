-- What a checker keeps between two tests: nothing, of as many places and nodes as a graph has.
use Rattle.std.specs.Prelude.{◌≡◌, ℕ, false, List, Bool, length, slice_index_or}
use Rattle.mono_graph.specs.Digraph.{Digraph}
use Rattle.mono_flows.specs.declared.checker.FlowChecker.TheInside.{Inside}
use Rattle.mono_flows.specs.Sums.{AreZero}

pub record Sizes : Type 0 where
  pub nodes : ℕ
  pub edges : ℕ

abbrev pub sizes_of : Digraph → Sizes
sizes_of g = record { nodes = g.nodes; edges = length g.edges }

abbrev pub shown : Inside → Sizes
shown c = record { nodes = length c.inside.items; edges = length c.listed.items }

abbrev pub AreUnmarked : List Bool → Type 0
AreUnmarked marks = (k : ℕ) → slice_index_or marks k false ≡ false

pub record IsClear (c : Inside) : Type 0 where
  pub listed : AreUnmarked c.listed.items
  pub sums : AreZero (length c.inside.items) c.sums
  pub inside : AreUnmarked c.inside.items
  pub counted_len : length c.counted.items ≡ length c.inside.items
  pub counted : AreUnmarked c.counted.items
