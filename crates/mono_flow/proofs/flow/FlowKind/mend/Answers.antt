use Rattle.std.proofs.lemmas.Option.{IfSome_then}
use Rattle.std.proofs.lemmas.Result.{IfOk-weaker}
use Rattle.mono_steps.specs.Witnesses.{rests_on_present}
use Rattle.mono_flow.proofs.GrownCuts.{grown_of}
use Rattle.mono_flow.proofs.flow.FlowKind.mend.Goals as goal

pub returns-in-Some-clause-evidence : goal.returns-in-Some-clause-evidence
returns-in-Some-clause-evidence c =
    let sound = rw c.in-Some.is at c.requires.kept in
    rw c.in-Flow.is
    (IfOk-weaker c.grown.result _ _
    (λ found more. IfSome_then found more (λ e grown. grown_of c.args.graph.now c.args.part.now c.in-Flow.source c.in-Flow.sink c.in-Flow.least c.in-Some.known.now e (rests_on_present c.in-Some.known.now.witness)
    (rw c.in-Flow.is at sound) grown)) c.grown.ensures.grown)
