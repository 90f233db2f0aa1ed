use Rattle.mono_reach.proofs.MarksRead.{read_same}
use Rattle.mono_reach.proofs.ToldNodes.{marks_stay}
use Rattle.mono_reach.proofs.laws.assign_changes_no_mark.Goals as goal

pub returns-clause-stay : goal.returns-clause-stay
returns-clause-stay c =
    let s = c.args.theory.now in
    let r = c.assign.new.self in
    let kept = c.assign.ensures in
    read_same s r c.args.atom c.args.node c.marks-before.result c.marks-after.result kept.atoms c.requires.owned c.marks-before.ensures.value c.marks-after.ensures.value
    (λ p. marks_stay c.args.lit s r p c.args.node kept.atoms kept.surely kept.possibly)

pub returns-clause-read : goal.returns-clause-read
returns-clause-read c = c.marks-before.ensures.value

pub returns-clause-read_again : goal.returns-clause-read_again
returns-clause-read_again c = c.marks-after.ensures.value
