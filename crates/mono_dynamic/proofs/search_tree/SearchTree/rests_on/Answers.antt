use Rattle.std.proofs.Common.{◌≡◌, false, ap, subst}
use Rattle.mono_graph.specs.declared.edge.Edge.{Edge}
use Rattle.mono_dynamic.specs.Arrivals.{is_reached}
use Rattle.mono_dynamic.specs.Ways.{Ways}
use Rattle.mono_dynamic.proofs.SearchTrees.{rests_nowhere}
use Rattle.mono_dynamic.proofs.search_tree.SearchTree.rests_on.Goals as goal

pub returns-in_default : goal.returns-in_default
returns-in_default c = λ P t. (
  λ h. absurd cc,
  λ r. absurd (rests_nowhere c.args.graph.now P c.args.self.now.tree.source c.args.self.now.tree.arrivals c.args.place c.edge-edge.result.to t (ap (λ (e : Edge). e.to) c.edge-edge.ensures.edge)
      (subst (λ (w : Ways). is_reached w.tree.arrivals c.edge-edge.result.to ≡ false) c.self.view_is c.in_default.ensures.arrival) r),
)
