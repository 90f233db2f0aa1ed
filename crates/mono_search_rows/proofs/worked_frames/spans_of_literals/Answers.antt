use Rattle.std.proofs.Common.{◌≡◌, refl, arith, pos}
use Rattle.mono_search_rows.proofs.worked_frames.spans_of_literals.Goals as goal

pub returns-clause-one_left_out : goal.returns-clause-one_left_out
returns-clause-one_left_out c = λ h. let e : 0 ≡ 1 = h.len in omega (arith, e)

pub returns-clause-of_another : goal.returns-clause-of_another
returns-clause-of_another c = λ h. let e : 5 ≡ 7 = ((h.each 0 (pos 7) (omega arith) refl).places.each 1 refl).is in omega (arith, e)
