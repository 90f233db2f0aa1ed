-- Visits: how nodes were reached, each from an earlier visit.
use Rattle.std.specs.Prelude.{◌≡◌, ℕ, ◌+◌, ◌<◌, Bool, List, length, slice_index_or, IsTrue}
use Rattle.mono_graph.specs.Digraph.{Digraph, present, edge_at}
use Rattle.mono_graph.specs.Walks.{cost_of}
use Rattle.mono_paths.specs.declared.visit.Visit.{Visit}
use Rattle.mono_graph.specs.declared.limit.Limit.{Limit}

abbrev pub no_visit : Visit
no_visit = record { node = 0; place = 0; before = 0; cost = 0 }

abbrev pub visit_at : List Visit → ℕ → Visit
visit_at vs i = slice_index_or vs i no_visit

-- the visit of the start
abbrev pub first_visit : ℕ → Visit
first_visit u = record { node = u; place = 0; before = 0; cost = 0 }

-- a present edge leads from an earlier visit's node to this one's
pub record IsStep (g : Digraph) (P : List Bool) (limit : Limit) (vs : List Visit) (v : Visit) (i : ℕ) : Type 0 where
  pub before : v.before < i
  pub known : v.place < length g.edges
  pub present : IsTrue (present P v.place)
  pub from : (edge_at g v.place).from ≡ (visit_at vs v.before).node
  pub to : (edge_at g v.place).to ≡ v.node
  pub cost : v.cost ≡ (visit_at vs v.before).cost + cost_of limit (edge_at g v.place)

-- the first visit costs nothing, and each other takes a step
pub record IsTrail (g : Digraph) (P : List Bool) (limit : Limit) (vs : List Visit) : Type 0 where
  pub some : 0 < length vs
  pub start : (visit_at vs 0).cost ≡ 0
  pub nodes : (i : ℕ) → i < length vs → (visit_at vs i).node < g.nodes
  pub steps : (i : ℕ) → 0 < i → i < length vs → IsStep g P limit vs (visit_at vs i) i

-- a visit of the node costs so much
abbrev pub IsVisited : List Visit → ℕ → ℕ → Type 0
IsVisited vs u n = (i : ℕ) × (i < length vs) × ((visit_at vs i).node ≡ u) × ((visit_at vs i).cost ≡ n)
