use Rattle.std.proofs.Common.{refl, arith}
use Rattle.mono_search.proofs.worked.models.Goals as goal

pub returns-clause-second : goal.returns-clause-second
returns-clause-second c = record { len = refl; satisfies = (refl, (λ k d lt. absurd (omega arith))) }

pub returns-clause-false_clause : goal.returns-clause-false_clause
returns-clause-false_clause c = λ h. let e = h.satisfies.0 in cc

pub returns-clause-too_short : goal.returns-clause-too_short
returns-clause-too_short c = λ h. let e = h.len in cc

pub returns-clause-too_long : goal.returns-clause-too_long
returns-clause-too_long c = λ h. let e = h.len in cc
