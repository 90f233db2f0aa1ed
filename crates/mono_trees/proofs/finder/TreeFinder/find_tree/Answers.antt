use Rattle.std.proofs.Common.{◌∙◌, ap, sym, refl, List, ℕ, filter, int_le, pos, ℤ, w64}
use Rattle.std.proofs.lemmas.Int.{to_z-of_z}
use Rattle.std.specs.List.{range_with_len}
use Rattle.mono_graph.specs.Digraph.{weight_of}
use Rattle.mono_trees.specs.Tells.{same_label}
use Rattle.mono_trees.proofs.Finding.{fits_chosen, found_tree, found_split, found_least, some_node, set_known, set_in_order, all_present}
use Rattle.mono_trees.proofs.finder.TreeFinder.find_tree.Goals as goal

pub is_light-requires : goal.is_light-requires
is_light-requires c = fits_chosen c.args.graph.now c.args.part.now c.in_ok-chosen.chosen.items c.lightest_forest.new.components c.deref.result.now c.in_ok-chosen.ensures.forest c.deref.ensures.value

pub returns-then-not-are_all_joined-clause-passes : goal.returns-then-not-are_all_joined-clause-passes
returns-then-not-are_all_joined-clause-passes c =
    found_split c.args.graph.now c.args.part.now c.in_ok-chosen.chosen.items c.lightest_forest.new.components c.in_ok-set.set.items c.nodes-count.ensures.graph c.requires.part c.in_ok-chosen.ensures.forest
    (some_node c.args.graph.now c.nodes-count.ensures.graph) (sym c.are_all_joined.ensures ∙ c.if-not-are_all_joined.true)
    (c.in_ok-set.ensures ∙ ap (λ (n : ℕ). filter (same_label c.lightest_forest.new.components 0) (range_with_len 0 n)) c.nodes-count.ensures.count)

pub returns-then-not-are_all_joined-clause-known : goal.returns-then-not-are_all_joined-clause-known
returns-then-not-are_all_joined-clause-known c =
    set_known c.args.graph.now c.lightest_forest.new.components c.in_ok-set.set.items
    (c.in_ok-set.ensures ∙ ap (λ (n : ℕ). filter (same_label c.lightest_forest.new.components 0) (range_with_len 0 n)) c.nodes-count.ensures.count)

pub returns-then-is_light-clause-passes : goal.returns-then-is_light-clause-passes
returns-then-is_light-clause-passes c =
    let fits = fits_chosen c.args.graph.now c.args.part.now c.in_ok-chosen.chosen.items c.lightest_forest.new.components c.in_ok-chosen.chosen.items c.in_ok-chosen.ensures.forest refl in
    found_tree c.args.graph.now c.args.part.now c.args.most c.in_ok-chosen.chosen.items c.lightest_forest.new.components c.in_ok-chosen.ensures.forest fits
    (some_node c.args.graph.now c.nodes-count.ensures.graph) (sym c.are_all_joined.ensures ∙ c.if-not-are_all_joined.false)
    (ap (λ (ks : List ℕ). int_le (pos (weight_of c.args.graph.now ks)) c.args.most) (sym c.deref.ensures.value)
    ∙ (ap (λ (z : ℤ). int_le (pos (weight_of c.args.graph.now c.deref.result.now)) z) (sym (to_z-of_z w64 c.args.most c.ranges.most)) ∙ (sym c.is_light.ensures ∙ c.if-is_light.true)))

pub returns-then-is_light-clause-known : goal.returns-then-is_light-clause-known
returns-then-is_light-clause-known c = fits_chosen c.args.graph.now c.args.part.now c.in_ok-chosen.chosen.items c.lightest_forest.new.components c.in_ok-chosen.chosen.items c.in_ok-chosen.ensures.forest refl

pub returns-clause-passes : goal.returns-clause-passes
returns-clause-passes c =
    let fits = fits_chosen c.args.graph.now c.args.part.now c.in_ok-chosen.chosen.items c.lightest_forest.new.components c.in_ok-chosen.chosen.items c.in_ok-chosen.ensures.forest refl in
    found_least c.args.graph.now c.args.part.now c.args.most c.in_ok-chosen.chosen.items c.lightest_forest.new.components c.requires.part c.in_ok-chosen.ensures.forest fits
    (some_node c.args.graph.now c.nodes-count.ensures.graph) (sym c.are_all_joined.ensures ∙ c.if-not-are_all_joined.false)
    (ap (λ (ks : List ℕ). int_le (pos (weight_of c.args.graph.now ks)) c.args.most) (sym c.deref.ensures.value)
    ∙ (ap (λ (z : ℤ). int_le (pos (weight_of c.args.graph.now c.deref.result.now)) z) (sym (to_z-of_z w64 c.args.most c.ranges.most)) ∙ (sym c.is_light.ensures ∙ c.if-is_light.false)))

pub returns-clause-known : goal.returns-clause-known
returns-clause-known c = fits_chosen c.args.graph.now c.args.part.now c.in_ok-chosen.chosen.items c.lightest_forest.new.components c.in_ok-chosen.chosen.items c.in_ok-chosen.ensures.forest refl

pub returns-then-not-are_all_joined-clause-order : goal.returns-then-not-are_all_joined-clause-order
returns-then-not-are_all_joined-clause-order c =
    set_in_order c.args.graph.now c.lightest_forest.new.components c.in_ok-set.set.items
    (c.in_ok-set.ensures ∙ ap (λ (n : ℕ). filter (same_label c.lightest_forest.new.components 0) (range_with_len 0 n)) c.nodes-count.ensures.count)

pub returns-then-is_light-clause-present : goal.returns-then-is_light-clause-present
returns-then-is_light-clause-present c = all_present c.args.graph.now c.args.part.now c.in_ok-chosen.chosen.items c.lightest_forest.new.components c.in_ok-chosen.chosen.items c.in_ok-chosen.ensures.forest refl

pub returns-clause-present : goal.returns-clause-present
returns-clause-present c = all_present c.args.graph.now c.args.part.now c.in_ok-chosen.chosen.items c.lightest_forest.new.components c.in_ok-chosen.chosen.items c.in_ok-chosen.ensures.forest refl
