use Rattle.std.proofs.Common.{◌≡◌, false, true, refl, arith}
use Rattle.mono_rows.proofs.verdicts.unfed_checkers.Goals as goal

pub returns-clause-new : goal.returns-clause-new
returns-clause-new c = record { live = refl; none = refl }

pub returns-clause-fed : goal.returns-clause-fed
returns-clause-fed c = λ u. let e : 1 ≡ 0 = u.none in omega (arith, e)

pub returns-clause-dead : goal.returns-clause-dead
returns-clause-dead c = λ u. let e : false ≡ true = u.live in cc
