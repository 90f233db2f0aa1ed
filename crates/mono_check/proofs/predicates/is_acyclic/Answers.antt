use Rattle.std.proofs.Common.{subst}
use Rattle.mono_cycles.specs.declared.finder.CycleOrOrder.{CycleOrOrder}
use Rattle.mono_cycles.specs.declared.finder.CycleOrOrder.TheVariants as any
use Rattle.mono_cycles.specs.Found.{IsCycleOrOrder}
use Rattle.mono_check.proofs.Found.{acyclic_decides}
use Rattle.mono_check.proofs.predicates.is_acyclic.Goals as goal

pub returns-in-Order-clause-holds : goal.returns-in-Order-clause-holds
returns-in-Order-clause-holds c =
    acyclic_decides c.args.graph.now c.args.part.now (any.Order c.in-Order.field-0)
    (subst (λ (f : CycleOrOrder). IsCycleOrOrder c.args.graph.now c.args.part.now f) c.in-Order.is c.in_ok-find_cycle.ensures.passes)

pub returns-clause-holds : goal.returns-clause-holds
returns-clause-holds c =
    acyclic_decides c.args.graph.now c.args.part.now (any.Cycle c.in-Cycle.field-0)
    (subst (λ (f : CycleOrOrder). IsCycleOrOrder c.args.graph.now c.args.part.now f) c.in-Cycle.is c.in_ok-find_cycle.ensures.passes)
