-- The visits of a search, and what they show when it ends.
use Rattle.std.specs.Prelude.{◌≡◌, ℕ, ◌+◌, ◌-◌, ◌<◌, ◌≤◌, Bool, false, not, List, All, count_by, length, map, slice_index_or, IsTrue}
use Rattle.mono_graph.specs.Digraph.{Digraph, edge_at, has}
use Rattle.mono_flows.specs.declared.visit.Visit.{Visit}
use Rattle.mono_flows.specs.declared.network.Network.{Network}
use Rattle.mono_flows.specs.declared.search.AugmentingSearch.{AugmentingSearch}
use Rattle.mono_flows.specs.Residual.{amount_of, residual_at, start_of, end_of}

-- a search starts at a node, where this much can be carried
abbrev pub first_visit : ℕ → ℕ → Visit
first_visit u most = record { node = u; edge = record { place = 0; back = false }; before = 0; residual = most }

abbrev pub visit_at : List Visit → ℕ → Visit
visit_at vs i = slice_index_or vs i (first_visit 0 0)

abbrev pub is_marked : List Bool → ℕ → Bool
is_marked marks u = slice_index_or marks u false

-- an edge with capacity left leads, in its direction or against it, from an earlier visit's node to this one's
pub record IsStep (g : Digraph) (P : List Bool) (f : ℕ → ℕ) (vs : List Visit) (v : Visit) (i : ℕ) : Type 0 where
  pub before : v.before < i
  pub known : v.edge.place < length g.edges
  pub start : start_of (edge_at g v.edge.place) v.edge.back ≡ (visit_at vs v.before).node
  pub end : end_of (edge_at g v.edge.place) v.edge.back ≡ v.node
  pub residual : v.residual ≤ residual_at g P f v.edge.place v.edge.back
  pub less : v.residual ≤ (visit_at vs v.before).residual

-- each visit but the first is a step from an earlier one
pub record IsSearchTree (g : Digraph) (P : List Bool) (f : ℕ → ℕ) (vs : List Visit) : Type 0 where
  pub some : 0 < length vs
  pub nodes : (i : ℕ) → i < length vs → (visit_at vs i).node < g.nodes
  pub residuals : (i : ℕ) → i < length vs → 0 < (visit_at vs i).residual
  pub most : (i : ℕ) → i < length vs → (visit_at vs i).residual ≤ (visit_at vs 0).residual
  pub steps : (i : ℕ) → 0 < i → i < length vs → IsStep g P f vs (visit_at vs i) i

-- the marked nodes are those visited, each once
pub record AreMarks (g : Digraph) (marks : List Bool) (vs : List Visit) : Type 0 where
  pub len : length marks ≡ g.nodes
  pub marked : (i : ℕ) → i < length vs → IsTrue (is_marked marks (visit_at vs i).node)
  pub visited : (u : ℕ) → IsTrue (is_marked marks u) → (i : ℕ) × (i < length vs) × ((visit_at vs i).node ≡ u)
  pub once : (i j : ℕ) → i < length vs → j < length vs → (visit_at vs i).node ≡ (visit_at vs j).node → i ≡ j

-- what holds between searches as well: no node is marked that wasn't visited
pub record IsFlowSearch (nodes : ℕ) (search : AugmentingSearch) : Type 0 where
  pub len : length search.marks.items ≡ nodes
  pub inside : All (λ v. v.node < nodes) search.visits.items
  pub visited : (u : ℕ) → IsTrue (is_marked search.marks.items u) → IsTrue (has (map (λ v. v.node) search.visits.items) u)

-- more nodes are visited
pub record Extends (old new : List Bool) (vs ws : List Visit) : Type 0 where
  pub grows : length vs ≤ length ws
  pub same : (i : ℕ) → i < length vs → visit_at ws i ≡ visit_at vs i
  pub kept : (u : ℕ) → IsTrue (is_marked old u) → IsTrue (is_marked new u)

-- the search went on: its visits are a search tree still, and each new one is at a node that wasn't marked
pub record Continues (g : Digraph) (P : List Bool) (f : ℕ → ℕ) (old new : List Bool) (vs ws : List Visit) : Type 0 where
  pub tree : IsSearchTree g P f ws
  pub marks : AreMarks g new ws
  pub extends : Extends old new vs ws
  pub work : count_by (λ b. not b) new + length ws ≤ count_by (λ b. not b) old + length vs

abbrev pub GoesOn : Network → List ℕ → AugmentingSearch → AugmentingSearch → Type 0
GoesOn n amounts old new =
    Continues n.graph.now n.part.now (amount_of amounts) old.marks.items new.marks.items old.visits.items new.visits.items

-- whether it came to the sink, which then is visited last
pub record CameTo (sink : ℕ) (old new : AugmentingSearch) (came : Bool) : Type 0 where
  pub there : IsTrue came → (visit_at new.visits.items (length new.visits.items - 1)).node ≡ sink
  pub away : came ≡ false → is_marked old.marks.items sink ≡ false → is_marked new.marks.items sink ≡ false

-- the edges at a node that have capacity left lead to marked nodes
abbrev pub IsExpanded : Digraph → List Bool → (ℕ → ℕ) → ℕ → List Bool → Type 0
IsExpanded g P f u marks =
    (k : ℕ) (back : Bool) → k < length g.edges → start_of (edge_at g k) back ≡ u → 0 < residual_at g P f k back
    → IsTrue (is_marked marks (end_of (edge_at g k) back))

-- The steps back from the last visit lead from the one node to the other, by different nodes, and up to this much more can
-- be carried along them.
pub record IsAugmentingPath (g : Digraph) (P : List Bool) (f : ℕ → ℕ) (s t most : ℕ) (vs : List Visit) : Type 0 where
  pub tree : IsSearchTree g P f vs
  pub first : (visit_at vs 0).node ≡ s
  pub last : (visit_at vs (length vs - 1)).node ≡ t
  pub residual : (visit_at vs 0).residual ≡ most
  pub once : (i j : ℕ) → i < length vs → j < length vs → (visit_at vs i).node ≡ (visit_at vs j).node → i ≡ j

-- the marked nodes have the one node, lack the other, and no edge with capacity left leads out of them
pub record IsBlocked (g : Digraph) (P : List Bool) (f : ℕ → ℕ) (s t : ℕ) (marks : List Bool) : Type 0 where
  pub len : length marks ≡ g.nodes
  pub from : IsTrue (is_marked marks s)
  pub to : is_marked marks t ≡ false
  pub closed : (k : ℕ) (back : Bool) → k < length g.edges → 0 < residual_at g P f k back
      → IsTrue (is_marked marks (start_of (edge_at g k) back)) → IsTrue (is_marked marks (end_of (edge_at g k) back))
