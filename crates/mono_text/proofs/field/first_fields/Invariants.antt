use Rattle.mono_text.proofs.FieldSteps.{FieldsSoFar}
use Rattle.mono_text.proofs.field.first_fields.Given as goal

abbrev pub invariant-loop-place : goal.invariant-loop-place
invariant-loop-place g l = FieldsSoFar g.row.N l.place l.limits l.values l.fn.tokens l.tokens
