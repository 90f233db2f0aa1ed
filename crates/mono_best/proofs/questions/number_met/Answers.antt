use Rattle.std.proofs.Common.{subst, ℕ, Option}
use Rattle.std.specs.Prelude.{IfSome}
use Rattle.mono_base.specs.Literal.{value_in}
use Rattle.mono_best.specs.Met.{HasNumber}
use Rattle.mono_best.proofs.Asked.{met_number}
use Rattle.mono_best.proofs.questions.number_met.Goals as goal

pub returns : goal.returns
returns c =
    let g = c.graph-graph.result.now in
    let P = c.in_ok-part.part in
    let x = c.atom-asked.result in
    let found : HasNumber g P x.predicate c.in-Some.found = subst (λ (o : Option ℕ). IfSome o (HasNumber g P x.predicate)) c.in-Some.is c.in_ok-found.ensures in
    met_number c.args.problem.now c.args.atom c.args.number c.in-Some.found (value_in c.args.model.now) g P x c.atom-asked.ensures c.graph-graph.ensures c.in_ok-part.ensures c.if-found-number.false found
