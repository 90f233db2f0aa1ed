use Rattle.std.proofs.Common.{◌<◌, sym, subst, List, ℕ, All, length}
use Rattle.std.proofs.lemmas.List.Sorted.{All-permutation}
use Rattle.std.proofs.lemmas.Result.{IfOk-weaker}
use Rattle.mono_trees.specs.Unbridged.{AreUnbridged}
use Rattle.mono_trees.proofs.Collecting.{unbridged_as}
use Rattle.mono_trees.proofs.unbridged.unbridged_absent.Goals as goal

pub collect_by_kept-requires-clause-tree : goal.collect_by_kept-requires-clause-tree
collect_by_kept-requires-clause-tree c =
    subst (λ (xs : List ℕ). All (λ k. k < length c.args.graph.now.edges) xs) (sym c.as_slice.ensures.value)
    (All-permutation (λ k. k < length c.args.graph.now.edges) c.args.edges.now c.in_ok-tree.tree.items c.in_ok-tree.ensures.permutation c.requires.edges)

pub collect_by_new-requires-clause-tree : goal.collect_by_new-requires-clause-tree
collect_by_new-requires-clause-tree c =
    subst (λ (xs : List ℕ). All (λ k. k < length c.args.graph.now.edges) xs) (sym c.as_slice-2.ensures.value)
    (All-permutation (λ k. k < length c.args.graph.now.edges) c.args.edges.now c.in_ok-tree.tree.items c.in_ok-tree.ensures.permutation c.requires.edges)

pub returns-in-Some-clause-unbridged : goal.returns-in-Some-clause-unbridged
returns-in-Some-clause-unbridged c =
    unbridged_as c.args.graph.now c.args.part.now c.args.edges.now c.in_ok-tree.tree.items c.as_slice.result.now c.in-Some.found.items c.in_ok-tree.ensures.permutation c.as_slice.ensures.value
    (rw c.in-Some.is at c.in_ok-kept.ensures.unbridged)

pub returns-clause-unbridged : goal.returns-clause-unbridged
returns-clause-unbridged c =
    IfOk-weaker c.collect_by_new.result (λ found. AreUnbridged c.args.graph.now c.args.part.now c.as_slice-2.result.now found.items) _
    (λ found h. unbridged_as c.args.graph.now c.args.part.now c.args.edges.now c.in_ok-tree.tree.items c.as_slice-2.result.now found.items c.in_ok-tree.ensures.permutation c.as_slice-2.ensures.value h) c.collect_by_new.ensures.unbridged
