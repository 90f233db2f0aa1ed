use Rattle.std.proofs.Common.{◌≡◌, refl, arith}
use Rattle.mono_search_rows.proofs.worked_frames.places_of_a_key.Goals as goal

pub returns-clause-one_of_another : goal.returns-clause-one_of_another
returns-clause-one_of_another c = λ h. let e : 5 ≡ 7 = (h.each 1 refl).is in omega (arith, e)
