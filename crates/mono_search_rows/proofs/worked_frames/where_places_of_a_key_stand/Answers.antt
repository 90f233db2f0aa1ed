use Rattle.std.proofs.Common.{◌≡◌, ◌≤◌, refl, arith}
use Rattle.mono_search_rows.proofs.worked_frames.where_places_of_a_key_stand.Goals as goal

pub returns-clause-beyond : goal.returns-clause-beyond
returns-clause-beyond c = λ h. let e : 1 ≤ 0 = h.fits in omega (arith, e)

pub returns-clause-of_another : goal.returns-clause-of_another
returns-clause-of_another c = λ h. let e : 7 ≡ 5 = (h.places.each 0 refl).is in omega (arith, e)
