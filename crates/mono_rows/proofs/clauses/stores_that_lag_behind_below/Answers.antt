use Rattle.std.proofs.Common.{arith, refl, pos}
use Rattle.mono_rows.proofs.ClauseRows.{never_true_again, true_too_high, implied_above_0}
use Rattle.mono_rows.proofs.clauses.stores_that_lag_behind_below.Goals as goal

pub returns-clause-open_mate : goal.returns-clause-open_mate
returns-clause-open_mate c = λ h. never_true_again 2 1 (h.at 0 (pos 1) (pos 2) refl refl 0 (omega arith) refl (omega arith))

pub returns-clause-higher_mate : goal.returns-clause-higher_mate
returns-clause-higher_mate c = λ h. true_too_high 2 1 (omega arith) (h.at 0 (pos 1) (pos 2) refl refl 0 (omega arith) refl (omega arith))

pub returns-clause-alone : goal.returns-clause-alone
returns-clause-alone c = λ h. implied_above_0 2 (h.alone 0 (pos 2) refl refl)

pub returns-clause-other_variables : goal.returns-clause-other_variables
returns-clause-other_variables c = λ h. omega (arith, h.vars)
