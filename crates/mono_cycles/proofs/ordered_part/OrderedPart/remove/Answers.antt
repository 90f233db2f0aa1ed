use Rattle.std.proofs.Common.{sym, subst}
use Rattle.std.specs.Prelude.{IsTrue}
use Rattle.mono_graph.specs.Cycles.{is_order}
use Rattle.mono_cycles.specs.Kept.{PartWithOrder}
use Rattle.mono_cycles.proofs.Ordered.{order_left}
use Rattle.mono_cycles.proofs.ordered_part.OrderedPart.remove.Goals as goal

pub returns-clause-order : goal.returns-clause-order
returns-clause-order c = λ g h. order_left g c.self.inside.part c.take.new.self c.args.place c.self.inside.kept.order c.take.ensures.places (subst (λ (o : PartWithOrder). IsTrue (is_order g o.part o.order)) (sym c.self.view_is) h)
