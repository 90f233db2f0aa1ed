use Rattle.mono_reach.proofs.MarksStay.{marks_in}
use Rattle.mono_reach.proofs.ToldNodes.{row_decides, row_walk}
use Rattle.mono_reach.proofs.marks.is_in_row.Goals as goal

pub is_marked-requires-clause-right : goal.is_marked-requires-clause-right
is_marked-requires-clause-right c = rw (c.looked-looked.ensures, c.rows-rows.ensures) (marks_in c.args.frame.now c.args.side.now.looked c.requires.right.looked c.requires.right.rows)

pub returns-clause-reached : goal.returns-clause-reached
returns-clause-reached c on = row_walk c.args.place c.args.node c.is_marked.result c.requires.place c.requires.right (rw c.rows-rows.ensures at c.is_marked.ensures) on

pub returns-clause-decides : goal.returns-clause-decides
returns-clause-decides c all last = row_decides c.args.place c.args.node c.is_marked.result c.requires.place c.requires.right (rw c.rows-rows.ensures at c.is_marked.ensures) all.looked last
