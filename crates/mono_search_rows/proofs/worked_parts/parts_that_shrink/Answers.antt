use Rattle.std.proofs.Common.{◌≡◌, true, false, refl, arith}
use Rattle.mono_search_rows.proofs.worked_parts.parts_that_shrink.Goals as goal

pub returns-clause-another_goes : goal.returns-clause-another_goes
returns-clause-another_goes c = λ h. let e : false ≡ true = h.each 0 refl refl in cc

pub returns-clause-once_it_grows : goal.returns-clause-once_it_grows
returns-clause-once_it_grows c = λ h. let e : false ≡ true = (h.each 1 2 (omega arith) (omega arith)).keeps 0 refl in cc
