use Rattle.std.proofs.Common.{◌≡◌, true, false, refl, arith}
use Rattle.mono_search_rows.proofs.worked_frames.atoms_due_by_rows.Goals as goal

pub returns-clause-last_row_left_out : goal.returns-clause-last_row_left_out
returns-clause-last_row_left_out c = λ h. let e : false ≡ true = h.each 1 1 0 (omega arith) (omega arith) refl in cc

pub returns-clause-another_goes : goal.returns-clause-another_goes
returns-clause-another_goes c = λ h. let e : true ≡ false = h.stay 1 refl in cc

pub returns-clause-more_places : goal.returns-clause-more_places
returns-clause-more_places c = λ h. let e : 3 ≡ 2 = h.size in omega (arith, e)
