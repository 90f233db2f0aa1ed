-- A set of nodes that bounds flows, grown by the edges that came.
use Rattle.std.specs.Prelude.{◌≡◌, ℕ, ◌+◌, ◌<◌, ◌≤◌, ◌⊎◌, Bool, false, not, ◌&&◌, List, [], ◌∷◌, ◌++◌, ◌≢◌, All, IsTrue, count_by, filter, flat_map, length, slice_index_or, slice_set}
use Rattle.mono_graph.specs.Digraph.{Digraph, edge_at, has, leaving, present}
use Rattle.mono_steps.specs.declared.lemma.Witness.TheVariants as by
use Rattle.mono_theory.specs.declared.evidence.Evidence.{Evidence}

-- the marked nodes are those listed, and nodes of the graph
pub record IsMarked (g : Digraph) (marks : List Bool) (set : List ℕ) : Type 0 where
  pub len : length marks ≡ g.nodes
  pub known : All (λ u. u < g.nodes) set
  pub marked : (u : ℕ) → slice_index_or marks u false ≡ has set u

-- nodes joined behind those that were listed
pub record IsJoined (g : Digraph) (marks : List Bool) (set : List ℕ) (marks' : List Bool) (set' : List ℕ) : Type 0 where
  pub now : IsMarked g marks' set'
  pub grows : length set ≤ length set'
  pub before : (i : ℕ) → i < length set → slice_index_or set' i 0 ≡ slice_index_or set i 0
  pub kept : (u : ℕ) → IsTrue (has set u) → IsTrue (has set' u)
  pub work : count_by (λ b. not b) marks' + length set' ≡ count_by (λ b. not b) marks + length set

-- present edges lead from the nodes between two places of the list to listed ones
pub record IsClosedFrom (g : Digraph) (P : List Bool) (from upto : ℕ) (set : List ℕ) : Type 0 where
  pub at : (i k : ℕ) → from ≤ i → i < upto → k < length g.edges → (edge_at g k).from ≡ slice_index_or set i 0 → IsTrue (present P k)
      → IsTrue (has set (edge_at g k).to)

-- the set lacks the sink, the present ones of the edges lead to nodes of it, and so do present edges of its nodes from a place on
pub record IsSpread (g : Digraph) (P : List Bool) (t : ℕ) (edges : List ℕ) (from : ℕ) (set : List ℕ) : Type 0 where
  pub ends : All (λ k. IsTrue (present P k) → IsTrue (has set (edge_at g k).to)) edges
  pub closed : IsClosedFrom g P from (length set) set
  pub outside : has set t ≡ false

-- the edge is absent and leads to a node that isn't marked
abbrev pub is_open : Digraph → List Bool → List Bool → ℕ → Bool
is_open g P marks k = not (present P k) && not (slice_index_or marks (edge_at g k).to false)

-- the open edges of a list and the fresh ones, which are open, are in one of two lists, and those of the first are open
pub record IsReplaced (g : Digraph) (P marks : List Bool) (rest fresh rest' fresh' : List ℕ) : Type 0 where
  pub now_open : All (λ k. (k < length g.edges) × IsTrue (is_open g P marks k)) rest'
  pub still_fresh : All (λ k. (k < length g.edges) × IsTrue (is_open g P marks k)) fresh'
  pub kept : (k : ℕ) → IsTrue (has rest k) → IsTrue (is_open g P marks k) → IsTrue (has rest' k)
  pub each_fresh : (k : ℕ) → IsTrue (has fresh k) → IsTrue (has rest' k) ⊎ IsTrue (has fresh' k)

-- the open edges of a list and of those that leave the nodes, each in one of two parts
pub record AreRests (g : Digraph) (P marks : List Bool) (edges nodes found : List ℕ) : Type 0 where
  pub rest : List ℕ
  pub fresh : List ℕ
  pub parts : found ≡ rest ++ fresh
  pub replaced : IsReplaced g P marks edges (flat_map (λ u. filter (is_open g P marks) (leaving g u)) nodes) rest fresh

-- the item at a place left a list for the last of the fresh ones, or else for its own last
pub record IsReplacedAt (rest fresh : List ℕ) (place : ℕ) (rest' fresh' : List ℕ) (next : ℕ) : Type 0 where
  pub step : ((x : ℕ) × (fresh ≡ fresh' ++ x ∷ []) × (rest' ≡ slice_set rest place x) × (next ≡ place + 1))
      ⊎ ((fresh ≡ []) × (fresh' ≡ []) × (length rest' + 1 ≡ length rest) × (next ≡ place))
  pub old : (k : ℕ) → IsTrue (has rest k) → k ≢ slice_index_or rest place 0 → IsTrue (has rest' k)
  pub before : (i : ℕ) → i < place → slice_index_or rest' i 0 ≡ slice_index_or rest i 0
  pub there : (k : ℕ) → IsTrue (has rest' k) → IsTrue (has rest k) ⊎ IsTrue (has fresh k)

-- The set lacks the sink and has the smaller one. The edges are absent ones; of the present edges those that leave a node that joined
-- lead to one of the set, and so do those on which the smaller one rested; and an absent edge that leaves the set is listed, if it
-- leaves a node that joined or the smaller set rested on it.
pub record IsGrownCut (g : Digraph) (P : List Bool) (t : ℕ) (set edges set' edges' : List ℕ) : Type 0 where
  pub known : All (λ u. u < g.nodes) set'
  pub outside : has set' t ≡ false
  pub kept : (u : ℕ) → IsTrue (has set u) → IsTrue (has set' u)
  pub absent : All (λ k. (k < length g.edges) × (present P k ≡ false)) edges'
  pub came : (k : ℕ) → IsTrue (has edges k) → IsTrue (present P k) → IsTrue (has set' (edge_at g k).to)
  pub closed : (k : ℕ) → k < length g.edges → IsTrue (has set' (edge_at g k).from) → has set (edge_at g k).from ≡ false → IsTrue (present P k)
      → IsTrue (has set' (edge_at g k).to)
  pub rests : (k : ℕ) → IsTrue (has edges k) → present P k ≡ false → has set' (edge_at g k).to ≡ false → IsTrue (has edges' k)
  pub new_rests : (k : ℕ) → k < length g.edges → IsTrue (has set' (edge_at g k).from) → has set (edge_at g k).from ≡ false → present P k ≡ false
      → has set' (edge_at g k).to ≡ false → IsTrue (has edges' k)

-- the evidence is such a set
pub record IsGrownEvidence (g : Digraph) (P : List Bool) (t : ℕ) (set edges : List ℕ) (e : Evidence) : Type 0 where
  pub set' : List ℕ
  pub witness : e.witness ≡ by.FlowCut set'
  pub cut : IsGrownCut g P t set edges set' e.edges

-- the evidence grew out of a cut
pub record IsGrownOf (g : Digraph) (P : List Bool) (t : ℕ) (known e : Evidence) : Type 0 where
  pub set : List ℕ
  pub was : known.witness ≡ by.FlowCut set
  pub grown : IsGrownEvidence g P t set known.edges e
