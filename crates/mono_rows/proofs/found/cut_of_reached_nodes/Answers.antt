use Rattle.std.proofs.Common.{sym, subst}
use Rattle.mono_rows.proofs.FoundRows.{AreReached, both_reached, none_twice, not_2}
use Rattle.mono_rows.proofs.found.cut_of_reached_nodes.Goals as goal

pub returns-clause-reached : goal.returns-clause-reached
returns-clause-reached c = λ nodes is. subst AreReached (sym is) both_reached

pub returns-clause-twice : goal.returns-clause-twice
returns-clause-twice c = λ nodes is r. none_twice (subst AreReached is r)

pub returns-clause-not_reached : goal.returns-clause-not_reached
returns-clause-not_reached c = λ nodes is r. not_2 (subst AreReached is r)
