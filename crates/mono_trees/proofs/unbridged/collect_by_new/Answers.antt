use Rattle.std.proofs.Common.{◌≡◌, ℕ, List, Option, None, IsSome, subst, sym}
use Rattle.std.specs.Prelude.{IsPermutation}
use Rattle.std.specs.List.Sorted.{IsNonDecreasingBy}
use Rattle.mono_graph.specs.Digraph.{edge_at, places}
use Rattle.mono_trees.proofs.unbridged.collect_by_new.Goals as goal

some_or_none : {X : Type 0} (found : Option X) → IsSome found → found ≡ None → ⊥
some_or_none found some none = absurd cc

pub collect-requires-clause-order : goal.collect-requires-clause-order
collect-requires-clause-order c = subst (λ (ks : List ℕ). IsPermutation (places c.args.graph.now) ks) (sym c.as_slice-places.ensures.items) c.in_ok-sort_for.ensures.permutation

pub unreachable-requires : goal.unreachable-requires
unreachable-requires c = some_or_none _ (c.in_ok-edges.ensures.rising
    (subst (λ (ks : List ℕ). IsNonDecreasingBy (λ k. (edge_at c.args.graph.now k).weight) ks) (sym c.as_slice-places.ensures.items) c.in_ok-sort_for.ensures.rising)) c.in-None.is
