use Rattle.mono_reach.proofs.MarksRead.{both_decided, over_decides}
use Rattle.mono_reach.proofs.laws.force_decides_marks.Goals as goal

pub returns-clause-over : goal.returns-clause-over
returns-clause-over c = λ quiet.
    let s = c.args.theory.now in
    let r = c.force.new.self in
    let now = c.in_ok-answer.ensures in
    over_decides s r c.args.atom c.args.node c.marks-marks.result.over now.graph now.atoms now.seen
    (c.marks-marks.ensures.decided_over (both_decided s r now.graph now.atoms now.seen (now.surely quiet) (now.possibly quiet)))

pub returns-clause-read : goal.returns-clause-read
returns-clause-read c = c.marks-marks.ensures.value
