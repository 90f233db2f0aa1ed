use Rattle.std.proofs.Common.{◌≡◌, subst, w64, to_z, of_z, ℤ}
use Rattle.std.proofs.lemmas.Int.{to_z-of_z}
use Rattle.mono_flows.specs.declared.found.FlowOrCut.{FlowOrCut}
use Rattle.mono_flows.specs.declared.found.FlowOrCut.TheVariants as any
use Rattle.mono_flows.specs.Answers.{Passes}
use Rattle.mono_check.proofs.Found.{flow_decides}
use Rattle.mono_check.proofs.predicates.carries.Goals as goal

pub returns-clause-holds : goal.returns-clause-holds
returns-clause-holds c =
    let kept : to_z w64 (of_z w64 c.args.least) ≡ c.args.least = to_z-of_z w64 c.args.least c.ranges.least in
    let passes = subst (λ (f : FlowOrCut). Passes c.args.graph.now c.args.part.now c.args.source c.args.sink (to_z w64 (of_z w64 c.args.least)) f) c.in-Cut.is c.in_ok-find_flow.ensures.passes in
    flow_decides c.args.graph.now c.args.part.now c.args.source c.args.sink c.args.least (any.Cut c.in-Cut.field-0) c.known.ensures.graph.ends c.requires.source
    (subst (λ (z : ℤ). Passes c.args.graph.now c.args.part.now c.args.source c.args.sink z (any.Cut c.in-Cut.field-0)) kept passes)
