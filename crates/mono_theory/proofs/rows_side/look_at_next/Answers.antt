use Rattle.mono_theory.proofs.RowsStay.{rows_looked, rows_unlooked}
use Rattle.mono_theory.proofs.rows_side.look_at_next.Goals as goal

pub follow-requires-clause-part : goal.follow-requires-clause-part
follow-requires-clause-part g c = (let h = rw (← c.side.view_is) at c.requires.right in rw c.IS_POSSIBLE.ensures h.part)

pub look_at-requires-clause-part : goal.look_at-requires-clause-part
look_at-requires-clause-part g c = rw c.IS_POSSIBLE.ensures at c.follow.ensures

pub returns-in-Ok-clause-right : goal.returns-in-Ok-clause-right
returns-in-Ok-clause-right g c =
    let h = rw (← c.side.view_is) at c.requires.right in
    let more = rw (← c.side.view_is) at c.requires.more in
    rows_looked c.follow.new.part c.look_at.new.self c.look_at.new.due.listed more (rw c.IS_POSSIBLE.ensures at c.follow.ensures) c.in-Ok.ensures.looked c.look_at.ensures.due h

pub follow_back-requires-clause-part : goal.follow_back-requires-clause-part
follow_back-requires-clause-part g c = rw c.IS_POSSIBLE-in-Err.ensures (rw c.IS_POSSIBLE.ensures at c.follow.ensures)

pub returns-in-Err-clause-right : goal.returns-in-Err-clause-right
returns-in-Err-clause-right g c =
    let h = rw (← c.side.view_is) at c.requires.right in
    rows_unlooked c.follow_back.new.part c.look_at.new.self c.look_at.new.due.listed (rw c.IS_POSSIBLE-in-Err.ensures at c.follow_back.ensures) c.in-Err.ensures.unlooked c.look_at.ensures.due h
