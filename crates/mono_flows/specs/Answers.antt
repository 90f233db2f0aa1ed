-- What a search for a flow finds.
use Rattle.std.specs.Prelude.{◌≡◌, ℕ, ℤ, pos, ◌<◌, ◌≤◌, Bool, true, false, List, All, IsTrue, length}
use Rattle.mono_base.specs.declared.limits.TheConstants.{MAX_WITNESS_VALUE}
use Rattle.mono_graph.specs.Digraph.{Digraph, is_distinct, leads_out, present_by, weight_of}
use Rattle.mono_graph.specs.declared.amount.Amount.{Amount}
use Rattle.mono_graph.specs.Flows.{amount_at, is_flow_of, is_flow_cut, value_of}
use Rattle.mono_flows.specs.declared.network.Network.{Network}
use Rattle.mono_flows.specs.declared.found.FlowOrCut.{FlowOrCut}
use Rattle.mono_flows.specs.declared.found.FlowOrCut.TheVariants as found

-- what was found passes its test
abbrev pub Passes : Digraph → List Bool → ℕ → ℕ → ℤ → FlowOrCut → Type 0
Passes g P s t least (found.Flow amounts) = IsTrue (is_flow_of g P s t least amounts.items)
Passes g P s t least (found.Cut set) = IsTrue (is_flow_cut g P s t least set.items)

-- a flow was found, and no cut
abbrev pub is_flow_found : FlowOrCut → Bool
is_flow_found (found.Flow amounts) = true
is_flow_found (found.Cut set) = false

-- its places and nodes are the graph's
abbrev pub IsKnown : Digraph → FlowOrCut → Type 0
IsKnown g (found.Flow amounts) = All (λ a. a.edge < length g.edges) amounts.items
IsKnown g (found.Cut set) = All (λ u. u < g.nodes) set.items

-- its amounts are small
abbrev pub IsSmall : FlowOrCut → Type 0
IsSmall (found.Flow amounts) = All (λ a. a.amount ≤ MAX_WITNESS_VALUE) amounts.items
IsSmall (found.Cut set) = Unit

-- each edge that a flow lists carries something
abbrev pub IsCarrying : FlowOrCut → Type 0
IsCarrying (found.Flow amounts) = All (λ a. 0 < a.amount) amounts.items
IsCarrying (found.Cut set) = Unit

-- a cut lists each node once; that a flow lists each edge once is a part of its test
abbrev pub IsDistinct : FlowOrCut → Type 0
IsDistinct (found.Flow amounts) = Unit
IsDistinct (found.Cut set) = IsTrue (is_distinct set.items)

-- a flow has exactly this value
abbrev pub IsExact : Digraph → ℕ → ℤ → FlowOrCut → Type 0
IsExact g s least (found.Flow amounts) = value_of g s (amount_at amounts.items) ≡ least
IsExact g s least (found.Cut set) = Unit

-- the flow has this value, or the present edges that leave the cut weigh it
abbrev pub HasValue : Digraph → List Bool → ℕ → ℕ → FlowOrCut → Type 0
HasValue g P s value (found.Flow amounts) = value_of g s (amount_at amounts.items) ≡ pos value
HasValue g P s value (found.Cut set) = value ≡ weight_of g (present_by (leads_out set.items) g P)

-- the amounts are a flow of exactly this value
pub record IsFlowOfValue (g : Digraph) (P : List Bool) (s t v : ℕ) (amounts : List Amount) : Type 0 where
  pub passes : IsTrue (is_flow_of g P s t (pos v) amounts)
  pub value : value_of g s (amount_at amounts) ≡ pos v

-- the answer to the question for a flow of this goal, where the search came to the value v
pub record IsAnswer (n : Network) (goal v : ℕ) (answer : FlowOrCut) : Type 0 where
  pub passes : Passes n.graph.now n.part.now n.source n.sink (pos goal) answer
  pub known : IsKnown n.graph.now answer
  pub small : IsSmall answer
  pub carrying : IsCarrying answer
  pub distinct : IsDistinct answer
  pub exact : IsExact n.graph.now n.source (pos goal) answer
  pub value : HasValue n.graph.now n.part.now n.source v answer
