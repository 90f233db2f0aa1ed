-- What a search for a walk gives.
use Rattle.std.specs.Prelude.{◌≡◌, ◌≤◌, ◌<◌, ℕ, ℤ, pos, negsuc, ◌≤ℤ◌, Option, None, Some, Bool, true, false, List, All, IsTrue, length}
use Rattle.mono_base.specs.declared.limits.TheConstants.{MAX_BOUND, MAX_WITNESS_VALUE}
use Rattle.mono_graph.specs.declared.limit.Limit.{Limit}
use Rattle.mono_graph.specs.declared.limit.Limit.TheVariants as limit
use Rattle.mono_graph.specs.Digraph.{Digraph, is_distinct}
use Rattle.mono_graph.specs.Walks.{is_cut, is_path, is_labelling, bound_of}
use Rattle.mono_paths.specs.Asked.{HasPath}
use Rattle.mono_paths.specs.declared.find.PathOrCut.{PathOrCut}
use Rattle.mono_paths.specs.declared.find.PathOrCut.TheVariants as any
use Rattle.mono_paths.specs.declared.find.PathOrLabels.{PathOrLabels}
use Rattle.mono_paths.specs.declared.find.PathOrLabels.TheVariants as light

-- a walk in the part from u to v, or a set of nodes that no walk leaves
abbrev pub IsPathOrCut : Digraph → List Bool → ℕ → ℕ → PathOrCut → Type 0
IsPathOrCut g P u v (any.Path ks) = IsTrue (is_path g P u v limit.Free ks.items)
IsPathOrCut g P u v (any.Cut s) = IsTrue (is_cut g P u v s.items)

-- its places and nodes are the graph's
abbrev pub HasKnownNames : Digraph → PathOrCut → Type 0
HasKnownNames g (any.Path ks) = All (λ k. k < length g.edges) ks.items
HasKnownNames g (any.Cut s) = All (λ u. u < g.nodes) s.items

-- a walk within the limit, or labels that show that there is none
abbrev pub IsPathOrLabels : Digraph → List Bool → ℕ → ℕ → Limit → PathOrLabels → Type 0
IsPathOrLabels g P u v l (light.Path ks) = IsTrue (is_path g P u v l ks.items)
IsPathOrLabels g P u v l (light.Labels ls) = IsTrue (is_labelling g P u v l ls.items)

-- its places and nodes are the graph's, and no label is more than one of a witness may be
abbrev pub HasKnownLabels : Digraph → PathOrLabels → Type 0
HasKnownLabels g (light.Path ks) = All (λ k. k < length g.edges) ks.items
HasKnownLabels g (light.Labels ls) = All (λ l. (l.node < g.nodes) × (l.value ≤ MAX_WITNESS_VALUE)) ls.items

-- no node of a set is listed twice, and a walk in the part leads from u to each
abbrev pub IsReachedSet : Digraph → List Bool → ℕ → PathOrCut → Type 0
IsReachedSet g P u (any.Path ks) = Unit {0}
IsReachedSet g P u (any.Cut s) = IsTrue (is_distinct s.items) × All (λ v. HasPath g P u v limit.Free) s.items

-- the limit with another bound
abbrev pub with_bound : Limit → ℤ → Limit
with_bound limit.Free most = limit.Free
with_bound (limit.Steps old) most = limit.Steps most
with_bound (limit.Weight old) most = limit.Weight most

-- each label is within the bound, and is what some walk costs at most
abbrev pub HasReachedLabels : Digraph → List Bool → ℕ → Limit → PathOrLabels → Type 0
HasReachedLabels g P u l (light.Path ks) = Unit {0}
HasReachedLabels g P u l (light.Labels ls) = All (λ x. (pos x.value ≤ℤ bound_of l) × HasPath g P u x.node (with_bound l (pos x.value))) ls.items

-- a walk was found
abbrev pub is_path_found : PathOrCut → Bool
is_path_found (any.Path ks) = true
is_path_found (any.Cut s) = false

abbrev pub is_light_found : PathOrLabels → Bool
is_light_found (light.Path ks) = true
is_light_found (light.Labels ls) = false

-- the limit has a bound, from -1 to the greatest
abbrev pub HasBound : Limit → Type 0
HasBound limit.Free = ⊥
HasBound (limit.Steps most) = (negsuc 0 ≤ℤ most) × (most ≤ℤ pos MAX_BOUND)
HasBound (limit.Weight most) = (negsuc 0 ≤ℤ most) × (most ≤ℤ pos MAX_BOUND)

-- the bound, or none where it is negative
abbrev pub IsNatural : ℤ → Option ℕ → Type 0
IsNatural most None = most ≤ℤ negsuc 0
IsNatural most (Some n) = most ≡ pos n

abbrev pub IsBound : Limit → Option ℕ → Type 0
IsBound l o = IsNatural (bound_of l) o
