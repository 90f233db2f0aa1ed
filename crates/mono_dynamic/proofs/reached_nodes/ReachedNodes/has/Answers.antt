use Rattle.std.proofs.Common.{◌≡◌, List, subst, ◌∙◌}
use Rattle.std.specs.Prelude.{IsTrue}
use Rattle.mono_dynamic.specs.declared.arrival.Arrival.{Arrival}
use Rattle.mono_dynamic.specs.Arrivals.{is_reached}
use Rattle.mono_dynamic.specs.Reached.{Reached, IsArrivalOf}
use Rattle.mono_dynamic.proofs.SearchTrees.{has_tells, source_has}
use Rattle.mono_dynamic.proofs.reached_nodes.ReachedNodes.has.Goals as goal

pub returns-clause-reached : goal.returns-clause-reached
returns-clause-reached c = subst (λ (r : Reached). c.is_some.result ≡ is_reached r.arrivals c.args.node) c.self.view_is
    (c.is_some.ensures ∙ has_tells c.self.inside.arrivals.items c.args.node c.find.result (subst (λ (xs : List Arrival). IsArrivalOf xs c.args.node c.find.result) c.deref-2.ensures.value c.find.ensures))

pub returns-clause-source : goal.returns-clause-source
returns-clause-source c = subst (λ (r : Reached). IsTrue (is_reached r.arrivals r.source)) c.self.view_is (source_has c.self.inside.source c.self.inside.arrivals.items c.self.invariant.ordered)
