use Rattle.std.proofs.Common.{subst, arith}
use Rattle.mono_best.specs.Best.{IsReply}
use Rattle.mono_best.specs.declared.gap.Found.{Found}
use Rattle.mono_best.specs.declared.questions.Reply.{Reply}
use Rattle.mono_best.specs.declared.questions.Reply.TheVariants as reply
use Rattle.mono_best.proofs.Leaps.{gap_lowered, gap_risen, values_found}
use Rattle.mono_best.proofs.leaping.narrower.Goals as goal

pub signs_near-requires-clause-last : goal.signs_near-requires-clause-last
signs_near-requires-clause-last g c = values_found c.args.problem.now c.args.atom c.args.number c.args.gap.found c.requires.gap.found

pub question-requires-clause-number : goal.question-requires-clause-number
question-requires-clause-number g c = omega (arith, c.asked-next.ensures.high, c.requires.gap.to)

pub risen-requires : goal.risen-requires
risen-requires g c =
    let met : IsReply c.args.problem.now c.args.atom c.args.budget c.asked-next.result (reply.Met c.in-Met.model c.in-Met.last) =
    subst (λ (r : Reply). IsReply c.args.problem.now c.args.atom c.args.budget c.asked-next.result r) c.in-Met.is c.in_ok-model.ensures in
    met.1

pub returns-in-Met-clause-gap : goal.returns-in-Met-clause-gap
returns-in-Met-clause-gap g c =
    let p = c.args.problem.now in
    let n = c.args.atom in
    let next = c.asked-next.result in
    let found : Found = record { model = c.in-Met.model; number = c.in-Met.last } in
    let met : IsReply p n c.args.budget next (reply.Met c.in-Met.model c.in-Met.last) = subst (λ (r : Reply). IsReply p n c.args.budget next r) c.in-Met.is c.in_ok-model.ensures in
    let new = c.risen.ensures in
    gap_risen p n c.args.number next c.args.gap c.risen.result found c.requires.gap c.asked-next.ensures.low met new.found new.low new.high

pub returns-in-Met-clause-narrower : goal.returns-in-Met-clause-narrower
returns-in-Met-clause-narrower g c =
    let p = c.args.problem.now in
    let n = c.args.atom in
    let next = c.asked-next.result in
    let met : IsReply p n c.args.budget next (reply.Met c.in-Met.model c.in-Met.last) = subst (λ (r : Reply). IsReply p n c.args.budget next r) c.in-Met.is c.in_ok-model.ensures in
    omega (arith, met.0, c.asked-next.ensures.low, c.risen.ensures.low, c.risen.ensures.high, c.requires.open)

pub returns-in-Refuted-clause-gap : goal.returns-in-Refuted-clause-gap
returns-in-Refuted-clause-gap g c =
    let new = c.lowered.ensures in
    gap_lowered c.args.problem.now c.args.atom c.args.number c.asked-next.result c.args.gap c.lowered.result c.requires.gap c.asked-next.ensures.high new.found new.low new.high

pub returns-in-Refuted-clause-narrower : goal.returns-in-Refuted-clause-narrower
returns-in-Refuted-clause-narrower g c =
    omega (arith, c.asked-next.ensures.low, c.asked-next.ensures.high, c.lowered.ensures.low, c.lowered.ensures.high)

pub returns-clause-gap : goal.returns-clause-gap
returns-clause-gap g c =
    let new = c.lowered-in-Spent.ensures in
    gap_lowered c.args.problem.now c.args.atom c.args.number c.asked-next.result c.args.gap c.lowered-in-Spent.result c.requires.gap c.asked-next.ensures.high new.found new.low new.high

pub returns-clause-narrower : goal.returns-clause-narrower
returns-clause-narrower g c =
    omega (arith, c.asked-next.ensures.low, c.asked-next.ensures.high, c.lowered-in-Spent.ensures.low, c.lowered-in-Spent.ensures.high)
