use Rattle.std.proofs.Common.{◌≡◌, ap, lit<, arith}
use Rattle.mono_search.specs.Restarts.{Counted}
use Rattle.mono_search_rows.proofs.worked_searches.counts_up_to_their_end.Goals as goal

pub returns-clause-beyond_a_byte : goal.returns-clause-beyond_a_byte
returns-clause-beyond_a_byte c = λ h. let e : 0 ≡ 301 = ap (λ (n : Counted). n.learned) (h (lit< tt) (lit< tt)).counted in omega (arith, e)

pub returns-clause-last_clause : goal.returns-clause-last_clause
returns-clause-last_clause c = λ h. let e : 0 ≡ 18446744073709551614 = ap (λ (n : Counted). n.learned) (h (lit< tt) (lit< tt)).counted in omega (arith, e)

pub returns-clause-last_restart : goal.returns-clause-last_restart
returns-clause-last_restart c = λ h. let e : 5 ≡ 1 = ap (λ (n : Counted). n.learned) (h (lit< tt) (lit< tt)).counted in omega (arith, e)

pub returns-clause-clauses_stand_still : goal.returns-clause-clauses_stand_still
returns-clause-clauses_stand_still c = λ clauses restarts. absurd (omega (arith, clauses))

pub returns-clause-restarts_stand_still : goal.returns-clause-restarts_stand_still
returns-clause-restarts_stand_still c = λ clauses restarts. absurd (omega (arith, restarts))
