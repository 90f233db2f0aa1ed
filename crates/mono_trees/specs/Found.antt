-- What a search for a light tree finds.
use Rattle.std.specs.Prelude.{◌≡◌, ◌<◌, Bool, true, false, ℤ, List, All, IsTrue, length, filter}
use Rattle.std.specs.List.{list_all}
use Rattle.mono_graph.specs.Digraph.{Digraph, has, present, nodes_of}
use Rattle.mono_graph.specs.Trees.{is_tree, is_split, is_least}
use Rattle.mono_trees.specs.declared.finder.TreeFound.{TreeFound}
use Rattle.mono_trees.specs.declared.finder.TreeFound.TheVariants.{Tree, Split, Least}

-- what was found passes its test
abbrev pub Passes : Digraph → List Bool → ℤ → TreeFound → Type 0
Passes g P most (Tree ks) = IsTrue (is_tree g P most ks.items)
Passes g P most (Split set) = IsTrue (is_split g P set.items)
Passes g P most (Least ks) = IsTrue (is_least g P most ks.items)

-- a tree was found, and nothing that denies one
abbrev pub is_tree_found : TreeFound → Bool
is_tree_found (Tree ks) = true
is_tree_found (Split set) = false
is_tree_found (Least ks) = false

-- its places and nodes are the graph's
abbrev pub IsKnown : Digraph → TreeFound → Type 0
IsKnown g (Tree ks) = All (λ k. k < length g.edges) ks.items
IsKnown g (Split set) = All (λ u. u < g.nodes) set.items
IsKnown g (Least ks) = All (λ k. k < length g.edges) ks.items

-- the edges of a tree are present
abbrev pub HasPresentEdges : List Bool → TreeFound → Type 0
HasPresentEdges P (Tree ks) = IsTrue (list_all (present P) ks.items)
HasPresentEdges P (Split set) = Unit {0}
HasPresentEdges P (Least ks) = IsTrue (list_all (present P) ks.items)

-- the nodes of a split stand in the order of the graph's, each once
abbrev pub IsInOrder : Digraph → TreeFound → Type 0
IsInOrder g (Tree ks) = Unit {0}
IsInOrder g (Split set) = set.items ≡ filter (has set.items) (nodes_of g)
IsInOrder g (Least ks) = Unit {0}
