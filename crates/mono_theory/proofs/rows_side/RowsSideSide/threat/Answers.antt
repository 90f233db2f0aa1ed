use Rattle.std.proofs.Common.{arith}
use Rattle.mono_theory.proofs.RowsStay.{rows_alike}
use Rattle.mono_theory.proofs.rows_side.RowsSideSide.threat.Goals as goal

pub threat-requires-clause-all : goal.threat-requires-clause-all
threat-requires-clause-all g c =
    let h = rw (← c.self.view_is) at c.requires.right in
    omega (arith, h.looked)

pub returns-in_err-found-clause-right : goal.returns-in_err-found-clause-right
returns-in_err-found-clause-right g c =
    let h = rw (← c.self.view_is) at c.requires.right in
    rows_alike c.threat.new.self c.threat.ensures.right c.threat.ensures.shown h

pub returns-clause-right : goal.returns-clause-right
returns-clause-right g c =
    let h = rw (← c.self.view_is) at c.requires.right in
    rows_alike c.threat.new.self c.threat.ensures.right c.threat.ensures.shown h
