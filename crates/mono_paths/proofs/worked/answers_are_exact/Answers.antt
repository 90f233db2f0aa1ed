use Rattle.std.proofs.Common.{true, false, refl, pos, negsuc, arith}
use Rattle.mono_paths.proofs.Rows.{one_answer, over_one, over_none}
use Rattle.mono_paths.proofs.worked.answers_are_exact.Goals as goal

pub returns-clause-reached : goal.returns-clause-reached
returns-clause-reached c = one_answer (pos 1) true (λ t. over_one, λ h. refl)

pub returns-clause-denied : goal.returns-clause-denied
returns-clause-denied c = λ a. let t = (a.each 0 (omega arith)).1 over_one in cc

pub returns-clause-out_of_bound : goal.returns-clause-out_of_bound
returns-clause-out_of_bound c = one_answer (negsuc 0) false (λ t. absurd cc, λ h. absurd (over_none h))

pub returns-clause-too_good : goal.returns-clause-too_good
returns-clause-too_good c = λ a. over_none ((a.each 0 (omega arith)).0 refl)
