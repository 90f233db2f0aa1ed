use Rattle.std.proofs.Common.{◌∙◌, ◌++◌, ◌∷◌, [], List, ℕ, ap, sym}
use Rattle.mono_trees.specs.Tells.{same_label}
use Rattle.mono_graph.proofs.Ranges.{filter_range_yes, filter_range_no}
use Rattle.mono_trees.proofs.forest.first_component.Goals as goal
use Rattle.mono_trees.proofs.forest.first_component.Goals.{then-are_joined+in_ok-push, else-are_joined}

pub loop-node-preserved : goal.loop-node-preserved
loop-node-preserved c =
    elim c.if-are_joined.branch [
      | then-are_joined+in_ok-push w ↦ ap (λ v. v.items) w.nodes-is ∙ (w.in_ok-push.ensures.items ∙ (ap (λ (ks : List ℕ). ks ++ c.loop-node.node ∷ []) c.loop-node.invariant
          ∙ sym (filter_range_yes (same_label c.args.components.now 0) c.loop-node.node (sym c.are_joined.ensures ∙ w.if-are_joined.true))))
      | else-are_joined w ↦ ap (λ v. v.items) w.nodes-is ∙ (c.loop-node.invariant ∙ sym (filter_range_no (same_label c.args.components.now 0) c.loop-node.node (sym c.are_joined.ensures ∙ w.if-are_joined.false)))
    ]
