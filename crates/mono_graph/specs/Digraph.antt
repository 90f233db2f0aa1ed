-- Directed graphs, their parts and sets of nodes. Inside a graph an edge is named by its place in the list of edges, from 0.
use Rattle.std.specs.Prelude.{ℕ, ◌<◌, ◌≤◌, ◌==◌, Bool, true, false, not, ◌&&◌, ◌||◌, IsTrue, List, [], ◌∷◌, ◌++◌, length, map, filter, Option, position, slice_index_or, sum_by, nat_lt, ◌≡◌, All}
use Rattle.std.specs.List.{range_with_len}
use Rattle.mono_base.specs.declared.limits.TheConstants.{MAX_EDGES, MAX_NODES, MAX_VARS, MAX_WEIGHT}
use Rattle.mono_graph.specs.declared.edge.Edge.{Edge}
pub use Rattle.mono_base.specs.Numbers.{has}

-- a graph: its nodes are the numbers below `nodes`, and its edges are listed in order
pub record Digraph : Type 0 where
  pub nodes : ℕ
  pub edges : List Edge

-- what stands at a place that no edge has
abbrev pub no_edge : Edge
no_edge = record { number = 0; from = 0; to = 0; var = 0; weight = 0 }

abbrev pub edge_at : Digraph → ℕ → Edge
edge_at g k = slice_index_or g.edges k no_edge

abbrev pub places : Digraph → List ℕ
places g = range_with_len 0 (length g.edges)

-- an edge of the graph is at this place
abbrev pub is_place : Digraph → ℕ → Bool
is_place g k = nat_lt k (length g.edges)

abbrev pub nodes_of : Digraph → List ℕ
nodes_of g = range_with_len 0 g.nodes

-- the place of the edge with this number, if there is one
abbrev pub place_of : Digraph → ℕ → Option ℕ
place_of g n = position (λ e. e.number == n) g.edges

-- the places of the edges that have the node as this end, in order
abbrev pub places_by : (Edge → ℕ) → Digraph → ℕ → List ℕ
places_by end g u = filter (λ k. end (edge_at g k) == u) (places g)

-- the edges that leave a node, and those that enter it
abbrev pub leaving : Digraph → ℕ → List ℕ
leaving g u = places_by (λ e. e.from) g u

abbrev pub entering : Digraph → ℕ → List ℕ
entering g u = places_by (λ e. e.to) g u

-- the graph with one more edge
abbrev pub with_edge : Digraph → Edge → Digraph
with_edge g e = record { nodes = g.nodes; edges = g.edges ++ e ∷ [] }

-- ---- what holds of every graph

-- each edge leads from a node to a node
abbrev pub HasEnds : Digraph → Type 0
HasEnds g = All (λ e. (e.from < g.nodes) × (e.to < g.nodes)) g.edges

-- the numbers of the edges rise, so no two have the same
abbrev pub IsRising : Digraph → Type 0
IsRising g = (i j : ℕ) → i < j → j < length g.edges → (edge_at g i).number < (edge_at g j).number

pub record IsGraph (g : Digraph) : Type 0 where
  pub some_node : 1 ≤ g.nodes
  pub few_nodes : g.nodes ≤ MAX_NODES
  pub few_edges : length g.edges ≤ MAX_EDGES
  pub ends : HasEnds g
  pub rising : IsRising g
  pub numbers : All (λ e. 1 ≤ e.number) g.edges
  pub vars : All (λ e. (1 ≤ e.var) × (e.var ≤ MAX_VARS)) g.edges
  pub weights : All (λ e. e.weight ≤ MAX_WEIGHT) g.edges

-- an edge that a graph can be given next
pub record IsNewEdge (g : Digraph) (e : Edge) : Type 0 where
  pub from : e.from < g.nodes
  pub to : e.to < g.nodes
  pub room : length g.edges < MAX_EDGES
  pub rising : All (λ f. f.number < e.number) g.edges
  pub number : 1 ≤ e.number
  pub var : (1 ≤ e.var) × (e.var ≤ MAX_VARS)
  pub weight : e.weight ≤ MAX_WEIGHT

-- ---- parts

-- a part is a set of edges of a graph: at each place, whether the edge is present
abbrev pub present : List Bool → ℕ → Bool
present P k = slice_index_or P k false

-- the part is one of the graph: it tells of each place of the graph, and of no other
abbrev pub IsPartOf : List Bool → Digraph → Type 0
IsPartOf P g = length P ≡ length g.edges

-- the part of the edges that pass a test
abbrev pub part_by : (Edge → Bool) → Digraph → List Bool
part_by test g = map test g.edges

-- the edges whose variable is true
abbrev pub enabled : (ℕ → Bool) → Digraph → List Bool
enabled a g = part_by (λ e. a e.var) g

-- every edge of the part P is in the part Q
pub record IsSubpart (P Q : List Bool) : Type 0 where
  pub keeps : (k : ℕ) → IsTrue (present P k) → IsTrue (present Q k)

-- the present edges that pass a test
abbrev pub present_by : (Edge → Bool) → Digraph → List Bool → List ℕ
present_by test g P = filter (λ k. present P k && test (edge_at g k)) (places g)

-- ---- sets and sums

-- no number is in the list twice
abbrev pub is_distinct : List ℕ → Bool
is_distinct [] = true
is_distinct (x ∷ xs) = not (has xs x) && is_distinct xs

-- the edge leads out of the set of nodes
abbrev pub leads_out : List ℕ → Edge → Bool
leads_out s e = has s e.from && not (has s e.to)

-- the edge joins the set of nodes with the rest, in either direction
abbrev pub crosses : List ℕ → Edge → Bool
crosses s e = leads_out s e || (has s e.to && not (has s e.from))

-- the sum of the weights of the edges at these places
abbrev pub weight_of : Digraph → List ℕ → ℕ
weight_of g ks = sum_by (λ k. (edge_at g k).weight) ks
