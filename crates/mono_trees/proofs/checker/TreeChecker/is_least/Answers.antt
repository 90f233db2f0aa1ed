use Rattle.std.proofs.Common.{◌≡◌, ◌<◌, ◌∙◌, ◌&&◌, Bool, true, false, ap, sym, subst, refl, List, ℕ, ℤ, int_le, int_lt, pos, w64, All, length, arith}
use Rattle.std.proofs.lemmas.Int.{to_z-of_z}
use Rattle.std.proofs.lemmas.List.Sorted.{All-permutation}
use Rattle.std.proofs.lemmas.Int.{ints}
use Rattle.std.specs.List.Sorted.{IsNonDecreasingBy}
use Rattle.mono_graph.specs.Digraph.{Digraph, edge_at, weight_of}
use Rattle.mono_trees.proofs.Finding.{fits_perm}
use Rattle.mono_trees.proofs.Sweeping.{least_is}
use Rattle.mono_trees.proofs.checker.TreeChecker.is_least.Goals as goal

pub are_bridged-requires-clause-tree : goal.are_bridged-requires-clause-tree
are_bridged-requires-clause-tree c =
    subst (λ (xs : List ℕ). All (λ k. k < length c.args.graph.now.edges) xs) (sym c.deref.ensures.value)
    (All-permutation (λ k. k < length c.args.graph.now.edges) c.args.edges.now c.in_ok-tree.tree.items c.in_ok-tree.ensures.permutation c.requires.places)

pub are_bridged-requires-clause-edges : goal.are_bridged-requires-clause-edges
are_bridged-requires-clause-edges c = fits_perm c.args.graph.now c.args.part.now c.in_ok-order.order.items c.deref-2.result.now c.deref-2.ensures.value
    c.in_ok-order.ensures.permutation

rises : (g : Digraph) (xs ys : List ℕ) → xs ≡ ys → IsNonDecreasingBy (λ k. (edge_at g k).weight) ys → IsNonDecreasingBy (λ k. (edge_at g k).weight) xs
rises g xs ys e h = subst (λ (zs : List ℕ). IsNonDecreasingBy (λ k. (edge_at g k).weight) zs) (sym e) h

pub are_bridged-requires-clause-tree_rises : goal.are_bridged-requires-clause-tree_rises
are_bridged-requires-clause-tree_rises c = rises c.args.graph.now _ _ c.deref.ensures.value c.in_ok-tree.ensures.rising

pub are_bridged-requires-clause-edges_rise : goal.are_bridged-requires-clause-edges_rise
are_bridged-requires-clause-edges_rise c = rises c.args.graph.now _ _ c.deref-2.ensures.value c.in_ok-order.ensures.rising

first_fails : (a b c : Bool) → a ≡ false → false ≡ (a && b && c)
first_fails a b c e = rw e refl

pub returns-then-not-branch-clause-passes : goal.returns-then-not-branch-clause-passes
returns-then-not-branch-clause-passes c = first_fails _ _ _ (sym c.in_ok-is_spanning.ensures.spans ∙ c.if-not-branch.true)

second_fails : (a b c : Bool) → b ≡ false → false ≡ (a && b && c)
second_fails true b c e = rw e refl
second_fails false b c e = refl

lighter : (a b : ℤ) → int_le a b ≡ true → int_lt b a ≡ false
lighter a b h = grind (arith, ints)

light : (graph : Digraph) (most : ℤ) (ks : List ℕ) (r : Bool) → r ≡ int_le (pos (weight_of graph ks)) most → r ≡ true → int_lt most (pos (weight_of graph ks)) ≡ false
light graph most ks r is on = lighter (pos (weight_of graph ks)) most (sym is ∙ on)

pub returns-then-is_light-clause-passes : goal.returns-then-is_light-clause-passes
returns-then-is_light-clause-passes c = second_fails _ _ _ (light c.args.graph.now c.args.most c.args.edges.now c.is_light.result
    (c.is_light.ensures ∙ ap (λ (z : ℤ). int_le (pos (weight_of c.args.graph.now c.args.edges.now)) z) (to_z-of_z w64 c.args.most c.ranges.most)) c.if-is_light.true)

pub returns-clause-passes : goal.returns-clause-passes
returns-clause-passes c =
    least_is c.args.graph.now c.args.part.now c.args.most c.args.edges.now c.in_ok-tree.tree.items c.in_ok-order.order.items c.deref.result.now c.deref-2.result.now
    c.in_ok-is_spanning.field-0 c.is_light.result c.in_ok-bridged.bridged c.requires.part
    c.in_ok-order.ensures.permutation
    c.in_ok-tree.ensures.permutation c.deref.ensures.value c.deref-2.ensures.value c.in_ok-is_spanning.ensures.spans c.if-not-branch.false
    (c.is_light.ensures ∙ ap (λ (z : ℤ). int_le (pos (weight_of c.args.graph.now c.args.edges.now)) z) (to_z-of_z w64 c.args.most c.ranges.most)) c.if-is_light.false c.in_ok-bridged.ensures.bridged
