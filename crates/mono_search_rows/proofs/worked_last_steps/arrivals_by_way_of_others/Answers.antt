use Rattle.std.proofs.Common.{◌≡◌, true, false, arith}
use Rattle.mono_search_rows.proofs.worked_last_steps.arrivals_by_way_of_others.Goals as goal

pub returns-clause-source_alone : goal.returns-clause-source_alone
returns-clause-source_alone c = λ l. let some = l.1 in let lt = l.2 in omega (arith, some, lt)

pub returns-clause-by_an_absent_edge : goal.returns-clause-by_an_absent_edge
returns-clause-by_an_absent_edge c = λ s. let e : false ≡ true = (s.tree.led 1 (omega arith) (omega arith)).present in cc
