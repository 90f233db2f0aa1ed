use Rattle.mono_best.proofs.Asked.{met_from}
use Rattle.mono_best.proofs.questions.met.Goals as goal

pub returns : goal.returns
returns c = λ budget.
    let h = c.in_ok-number.ensures in
    (h.from, h.to, met_from c.args.problem.now c.args.atom c.args.number c.in_ok-number.number c.args.model c.as_slice.result.now c.as_slice.ensures c.requires.model h)
