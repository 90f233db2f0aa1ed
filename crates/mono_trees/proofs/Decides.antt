-- What was found decides whether there is a tree within the bound.
use Rattle.std.proofs.Common.{ℕ, Bool, List, refl, ℤ}
use Rattle.std.specs.Prelude.{IsTrue, ◌↔◌}
use Rattle.mono_graph.specs.Digraph.{Digraph}
use Rattle.mono_graph.specs.Trees.{is_tree}
use Rattle.mono_graph.proofs.UncrossedSets.{split_excludes}
use Rattle.mono_graph.proofs.LeastTrees.{least_excludes}
use Rattle.mono_trees.specs.declared.finder.TreeFound.{TreeFound}
use Rattle.mono_trees.specs.declared.finder.TreeFound.TheVariants.{Tree, Split, Least}
use Rattle.mono_trees.specs.Found.{Passes, is_tree_found}

pub decides : (g : Digraph) (P : List Bool) (most : ℤ) (found : TreeFound) → Passes g P most found
    → IsTrue (is_tree_found found) ↔ ((tree : List ℕ) × IsTrue (is_tree g P most tree))
decides g P most (Tree ks) passes = (λ yes. (ks.items, passes), λ there. refl)
decides g P most (Split set) passes = (λ yes. absurd cc, λ there. absurd (split_excludes g P most set.items there.0 passes there.1))
decides g P most (Least ks) passes = (λ yes. absurd cc, λ there. absurd (least_excludes g P most ks.items there.0 passes there.1))
