-- What leaves and enters each node.
use Rattle.std.specs.Prelude.{◌≡◌, ◌⊎◌, ◌<◌, ◌^◌, ℕ, List, length, slice_index_or}
use Rattle.mono_graph.specs.declared.amount.Amount.{Amount}
use Rattle.mono_graph.specs.Digraph.{Digraph}
use Rattle.mono_flows.specs.declared.node_sums.NodeSums.{NodeSums}
use Rattle.mono_flows.specs.Listed.{listed_out, listed_in}

-- there are two sums for each node
pub record AreSums (nodes : ℕ) (x : NodeSums) : Type 0 where
  pub leaving : length x.leaving.items ≡ nodes
  pub entering : length x.entering.items ≡ nodes

-- there are two for each node, all of them 0
pub record AreZero (nodes : ℕ) (x : NodeSums) : Type 0 where
  pub len : AreSums nodes x
  pub leaving : (u : ℕ) → slice_index_or x.leaving.items u 0 ≡ 0
  pub entering : (u : ℕ) → slice_index_or x.entering.items u 0 ≡ 0

-- 128 bits hold the difference of two
pub record AreSmall (x : NodeSums) : Type 0 where
  pub leaving : (u : ℕ) → slice_index_or x.leaving.items u 0 < 2 ^ 120
  pub entering : (u : ℕ) → slice_index_or x.entering.items u 0 < 2 ^ 120

-- they are what the listed amounts make leave and enter
pub record AreSumsOf (g : Digraph) (amounts : List Amount) (x : NodeSums) : Type 0 where
  pub leaving : (u : ℕ) → slice_index_or x.leaving.items u 0 ≡ listed_out g amounts u
  pub entering : (u : ℕ) → slice_index_or x.entering.items u 0 ≡ listed_in g amounts u

-- each is that or still 0
pub record MayBeSumsOf (g : Digraph) (amounts : List Amount) (x : NodeSums) : Type 0 where
  pub leaving : (u : ℕ) → (slice_index_or x.leaving.items u 0 ≡ 0) ⊎ (slice_index_or x.leaving.items u 0 ≡ listed_out g amounts u)
  pub entering : (u : ℕ) → (slice_index_or x.entering.items u 0 ≡ 0) ⊎ (slice_index_or x.entering.items u 0 ≡ listed_in g amounts u)
