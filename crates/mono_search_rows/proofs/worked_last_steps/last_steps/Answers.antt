use Rattle.std.proofs.Common.{◌≡◌, ◌≤◌, true, false, [], ◌∷◌, refl, arith}
use Rattle.mono_search_rows.proofs.worked_last_steps.last_steps.Goals as goal

pub returns-clause-not_reached : goal.returns-clause-not_reached
returns-clause-not_reached c = λ r. let e : false ≡ true = ((r.each 1 (omega arith)).exact 1).1 (0 ∷ [], refl) in cc

pub returns-clause-not_lowered : goal.returns-clause-not_lowered
returns-clause-not_lowered c = λ r. let e : 4 ≤ 1 = (r.each 2 (omega arith)).least 1 (0 ∷ []) refl in omega (arith, e)

pub returns-clause-by_an_absent_edge : goal.returns-clause-by_an_absent_edge
returns-clause-by_an_absent_edge c = λ r. let e : false ≡ true = (r.led 1 0 (omega arith) (omega arith) (omega arith)).present in cc
