use Rattle.std.proofs.Common.{◌≡◌, arith, refl, inl, inr, pos}
use Rattle.mono_rows.proofs.ClauseRows.{never_true, never_true_again, true_too_high, implied_above_0}
use Rattle.mono_rows.proofs.clauses.stores_that_lag_behind.Goals as goal

pub returns-clause-open_mate : goal.returns-clause-open_mate
returns-clause-open_mate c = λ h. elim ((h.at 0 (pos 1) (pos 2) refl refl).at 0 (omega arith) refl) [ inl b ↦ never_true 1 1 b | inr late ↦ omega (arith, late.0) ]

pub returns-clause-higher_mate : goal.returns-clause-higher_mate
returns-clause-higher_mate c = λ h. elim ((h.at 0 (pos 1) (pos 2) refl refl).at 0 (omega arith) refl) [ inl b ↦ true_too_high 1 1 (omega arith) b | inr late ↦ omega (arith, late.0) ]

pub returns-clause-alone : goal.returns-clause-alone
returns-clause-alone c = λ h. implied_above_0 2 (h.alone 0 (pos 2) refl refl)

pub returns-clause-other_variables : goal.returns-clause-other_variables
returns-clause-other_variables c = λ h. omega (arith, h.vars)

pub returns-clause-lower_level : goal.returns-clause-lower_level
returns-clause-lower_level c = λ h. elim ((h.at 0 (pos 1) (pos 2) refl refl).at 0 (omega arith) refl) [ inl b ↦ never_true_again 0 1 b | inr late ↦ (let e : 1 ≡ 2 = late.1 in omega (arith, e)) ]
