use Rattle.std.proofs.Common.{◌≡◌, ◌<◌, true, false, [], refl, arith}
use Rattle.mono_graph.specs.Worked.{lone}
use Rattle.mono_search.specs.Worked.{theory}
use Rattle.mono_search_rows.proofs.worked_searches.lists_of_theories.Goals as goal

pub returns-clause-no_longer_listed : goal.returns-clause-no_longer_listed
returns-clause-no_longer_listed c = λ h. let e : false ≡ true = h.stay 0 refl in cc

pub returns-clause-mark_of_no_theory : goal.returns-clause-mark_of_no_theory
returns-clause-mark_of_no_theory c = λ h. let e : 1 ≡ 0 = h.count in omega (arith, e)

pub returns-clause-no_place : goal.returns-clause-no_place
returns-clause-no_place c = λ h. let lt : 1 < 1 = h.fits 0 (theory lone [] []) (omega arith) 1 refl in omega (arith, lt)
