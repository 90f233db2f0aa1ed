-- What a search for a cycle gives.
use Rattle.std.specs.Prelude.{◌≡◌, ◌<◌, ℕ, Bool, true, false, List, [], Vec, Option, None, Some, All, IsTrue, length}
use Rattle.std.specs.declared.alloc.Global.{Global}
use Rattle.mono_graph.specs.Digraph.{Digraph, has}
use Rattle.mono_graph.specs.Cycles.{is_cycle, is_order}
use Rattle.mono_cycles.specs.Searches.{IsCycleSearch}
use Rattle.mono_cycles.specs.declared.search.CycleSearch.{CycleSearch}
use Rattle.mono_cycles.specs.declared.finder.CycleOrOrder.{CycleOrOrder}
use Rattle.mono_cycles.specs.declared.finder.CycleOrOrder.TheVariants as found

-- a cycle in the part, or an order that shows that there is none
abbrev pub IsCycleOrOrder : Digraph → List Bool → CycleOrOrder → Type 0
IsCycleOrOrder g P (found.Cycle ks) = IsTrue (is_cycle g P ks.items)
IsCycleOrOrder g P (found.Order ns) = IsTrue (is_order g P ns.items)

-- its places and nodes are the graph's
abbrev pub HasKnownNames : Digraph → CycleOrOrder → Type 0
HasKnownNames g (found.Cycle ks) = All (λ k. k < length g.edges) ks.items
HasKnownNames g (found.Order ns) = All (λ u. u < g.nodes) ns.items

abbrev pub is_cycle_found : CycleOrOrder → Bool
is_cycle_found (found.Cycle ks) = true
is_cycle_found (found.Order ns) = false

-- a cycle was found, or the search is done with the root and all that was done before
pub record IsDoneWith (g : Digraph) (P : List Bool) (root : ℕ) (old new : CycleSearch) : Type 0 where
  pub search : IsCycleSearch g P new
  pub none_open : new.path.items ≡ []
  pub root_done : IsTrue (has new.order.items root)
  pub before : (u : ℕ) → IsTrue (has old.order.items u) → IsTrue (has new.order.items u)

abbrev pub IsSearched : Digraph → List Bool → ℕ → CycleSearch → CycleSearch → Option (Vec ℕ Global) → Type 0
IsSearched g P root old new (Some ks) = IsTrue (is_cycle g P ks.items) × All (λ k. k < length g.edges) ks.items
IsSearched g P root old new None = IsDoneWith g P root old new
