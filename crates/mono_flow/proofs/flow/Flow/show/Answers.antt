use Rattle.std.proofs.Common.{◌≡◌, ◌∙◌, sym, subst, w64, to_z, of_z, ℤ}
use Rattle.std.proofs.lemmas.Int.{to_z-of_z}
use Rattle.std.proofs.lemmas.Result.{IfOk-weaker}
use Rattle.mono_flows.specs.declared.found.FlowOrCut.TheVariants as found
use Rattle.mono_flows.specs.Answers.{Passes}
use Rattle.mono_theory.specs.Evidences.{IsEvidence}
use Rattle.mono_flow.specs.Flowing.{flow_evidence, IsCutEvidence}
use Rattle.mono_flow.proofs.FlowEvidence.{flow_shows}
use Rattle.mono_flow.proofs.CutEvidence.{cut_shows}
use Rattle.mono_flow.proofs.flow.Flow.show.Goals as goal

pub returns-in-Flow-clause-evidence : goal.returns-in-Flow-clause-evidence
returns-in-Flow-clause-evidence c =
    let g = c.args.graph.now in
    let P = c.args.part.now in
    let kept : to_z w64 (of_z w64 c.args.least) ≡ c.args.least = to_z-of_z w64 c.args.least c.ranges.least in
    let amounts = c.in-Flow.amounts in
    IfOk-weaker c.flow_evidence.result (λ e. e ≡ flow_evidence g amounts.items) _
    (λ e is. subst (IsEvidence g P _) (sym is)
    (flow_shows g P c.args.source c.args.sink c.args.least amounts.items c.known.ensures.graph (rw c.in-Flow.is at c.in_ok-found.ensures.known) (rw c.in-Flow.is at c.in_ok-found.ensures.small)
    (subst (λ (z : ℤ). Passes g P c.args.source c.args.sink z (found.Flow amounts)) kept (rw c.in-Flow.is at c.in_ok-found.ensures.passes)))) (rw c.as_slice.ensures.value at c.flow_evidence.ensures)

pub returns-in-Cut-clause-evidence : goal.returns-in-Cut-clause-evidence
returns-in-Cut-clause-evidence c =
    let g = c.args.graph.now in
    let P = c.args.part.now in
    let kept : to_z w64 (of_z w64 c.args.least) ≡ c.args.least = to_z-of_z w64 c.args.least c.ranges.least in
    let set = c.in-Cut.nodes in
    IfOk-weaker c.cut_evidence.result (IsCutEvidence g P c.slack_of-slack.result set.items) _
    (λ e is. cut_shows g P c.args.source c.args.sink c.args.least set.items c.in_ok-found.found.value c.slack_of-slack.result e (rw c.in-Cut.is at c.in_ok-found.ensures.known)
    (subst (λ (z : ℤ). Passes g P c.args.source c.args.sink z (found.Cut set)) kept (rw c.in-Cut.is at c.in_ok-found.ensures.passes))
    (rw c.in-Cut.is at c.in_ok-found.ensures.value) (sym kept ∙ c.slack_of-slack.ensures) is) c.cut_evidence.ensures.evidence

pub cut_evidence-requires-clause-distinct : goal.cut_evidence-requires-clause-distinct
cut_evidence-requires-clause-distinct c = rw c.in-Cut.is at c.in_ok-found.ensures.distinct
