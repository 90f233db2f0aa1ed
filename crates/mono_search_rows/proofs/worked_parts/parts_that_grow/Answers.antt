use Rattle.std.proofs.Common.{◌≡◌, true, false}
use Rattle.mono_search_rows.proofs.worked_parts.parts_that_grow.Goals as goal

pub returns-clause-not_come : goal.returns-clause-not_come
returns-clause-not_come c = λ h. let e : false ≡ true = h.each 1 in cc

pub returns-clause-another_comes : goal.returns-clause-another_comes
returns-clause-another_comes c = λ h. let e : true ≡ false = h.each 0 in cc

pub returns-clause-one_goes : goal.returns-clause-one_goes
returns-clause-one_goes c = λ h. let e : false ≡ true = h.each 0 in cc
