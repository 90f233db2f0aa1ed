use Rattle.std.proofs.Common.{refl, arith}
use Rattle.mono_steps.proofs.WorkedNew.{one_is_new}
use Rattle.mono_search.specs.Worked.{two_clauses}
use Rattle.mono_search.proofs.worked.spent_budgets.Goals as goal

pub returns-clause-spent : goal.returns-clause-spent
returns-clause-spent c = record { chains = refl; new = one_is_new two_clauses refl refl refl; few = omega arith }

pub returns-clause-as_many_before : goal.returns-clause-as_many_before
returns-clause-as_many_before c = record { chains = refl; new = one_is_new two_clauses refl refl refl; few = omega arith }

pub returns-clause-not_yet : goal.returns-clause-not_yet
returns-clause-not_yet c = λ h. let e = h.chains in cc

pub returns-clause-more_before : goal.returns-clause-more_before
returns-clause-more_before c = λ h. let e = h.chains in cc

pub returns-clause-beyond : goal.returns-clause-beyond
returns-clause-beyond c = λ h. let e = h.chains in cc
