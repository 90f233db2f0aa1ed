use Rattle.mono_theory.proofs.RowsStay.{settled_once}
use Rattle.mono_theory.proofs.rows_side.first_owed.Goals as goal

pub atoms-preserved : goal.atoms-preserved
atoms-preserved g c = rw c.in-Some.ensures.off (settled_once c.in-Some.place (λ on. c.owes.ensures.settled c.if-owes.false on) c.atoms.invariant)
