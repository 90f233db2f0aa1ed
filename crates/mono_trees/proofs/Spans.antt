-- What labels and marks say of all nodes.
use Rattle.std.proofs.Common.{◌≡◌, ℕ, suc, ◌<◌, Bool, true, false, ◌&&◌, ◌==◌, List, length, sym, ap, ◌∙◌, inl, inr, arith, ◌⊎◌, All}
use Rattle.std.specs.List.{list_all, range_with_len}
use Rattle.std.proofs.lemmas.Bool.{and_from, and_right, eq-eqb, cases_Bool}
use Rattle.mono_graph.specs.declared.edge.Edge.{Edge}
use Rattle.mono_graph.specs.Digraph.{Digraph, is_place, is_distinct, nodes_of}
use Rattle.mono_graph.specs.Trees.{joins, edges_at, is_spanning_tree}
use Rattle.mono_trees.specs.Tells.{Tells, same_label}
use Rattle.mono_graph.proofs.Components.{distinct_from_joined}
use Rattle.mono_graph.proofs.Places.{list_all_agree, are_places}

pub joined_by_labels : (g : Digraph) (es : List Edge) (labels : List ℕ) → length labels ≡ g.nodes → Tells es labels
    → list_all (same_label labels 0) (range_with_len 0 (length labels)) ≡ list_all (joins es 0) (nodes_of g)
joined_by_labels g es labels len tells =
    list_all_agree (same_label labels 0) (joins es 0) 0 (length labels) (λ k low high. tells.exact 0 k (omega arith) (omega arith))
    ∙ ap (λ (n : ℕ). list_all (joins es 0) (range_with_len 0 n)) len

pub spanning_is : (g : Digraph) (ks labels : List ℕ) (r : Bool) → suc (length ks) ≡ g.nodes → All (λ k. k < length g.edges) ks → length labels ≡ g.nodes
    → Tells (edges_at g ks) labels → r ≡ list_all (same_label labels 0) (range_with_len 0 (length labels)) → r ≡ is_spanning_tree g ks
spanning_is g ks labels r size fits len tells is = by_joined (cases_Bool (list_all (joins (edges_at g ks) 0) (nodes_of g)))
  where
    whole : r ≡ list_all (joins (edges_at g ks) 0) (nodes_of g)
    whole = is ∙ joined_by_labels g (edges_at g ks) labels len tells

    by_joined : (list_all (joins (edges_at g ks) 0) (nodes_of g) ≡ true) ⊎ (list_all (joins (edges_at g ks) 0) (nodes_of g) ≡ false) → r ≡ is_spanning_tree g ks
    by_joined (inl j) = (whole ∙ j) ∙ sym (and_from ((suc (length ks) == g.nodes && is_distinct ks) && list_all (is_place g) ks) (list_all (joins (edges_at g ks) 0) (nodes_of g))
        (and_from (suc (length ks) == g.nodes && is_distinct ks) (list_all (is_place g) ks)
        (and_from (suc (length ks) == g.nodes) (is_distinct ks) (eq-eqb (suc (length ks)) g.nodes size) (distinct_from_joined g ks g.nodes size j))
        (are_places g ks fits)) j)
    by_joined (inr off) = (whole ∙ off) ∙ sym (and_right ((suc (length ks) == g.nodes && is_distinct ks) && list_all (is_place g) ks) (list_all (joins (edges_at g ks) 0) (nodes_of g)) off)
