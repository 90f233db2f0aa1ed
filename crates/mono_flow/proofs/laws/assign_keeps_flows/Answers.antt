use Rattle.std.proofs.Common.{◌∙◌, ap, inl, inr, sym}
use Rattle.mono_flow.specs.declared.flows.Flows.{Flows}
use Rattle.mono_flow.proofs.FlowsRead.{over_assigned}
use Rattle.mono_flow.proofs.laws.assign_keeps_flows.Goals as goal

pub returns-clause-over : goal.returns-clause-over
returns-clause-over c =
    let kept = c.assign.ensures in
    let p = c.possibly.ensures in
    elim (over_assigned c.args.theory.now c.assign.new.self c.args.lit c.args.atom c.args.place kept.graph kept.atoms c.requires.owned p.covered p.sign p.right kept.possibly) [
      | inl same ↦ inl (ap (λ (f : Flows). f.over) c.flows-after.ensures.value ∙ (same ∙ sym (ap (λ (f : Flows). f.over) c.flows-before.ensures.value)))
      | inr lost ↦ inr lost
    ]
