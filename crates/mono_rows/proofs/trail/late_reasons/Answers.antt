use Rattle.std.proofs.Common.{refl}
use Rattle.mono_rows.proofs.TrailRows.{not_late, not_late_when_open}
use Rattle.mono_rows.proofs.trail.late_reasons.Goals as goal

pub returns-clause-late : goal.returns-clause-late
returns-clause-late c = record { place = 1; is = refl; atom = 2; kept = 1; late = refl }

pub returns-clause-by_clause : goal.returns-clause-by_clause
returns-clause-by_clause c = λ h. not_late 6 3 refl h (λ atom kept e. cc)

pub returns-clause-decided : goal.returns-clause-decided
returns-clause-decided c = λ h. not_late 3 0 refl h (λ atom kept e. cc)

pub returns-clause-open_variable : goal.returns-clause-open_variable
returns-clause-open_variable c = not_late_when_open
