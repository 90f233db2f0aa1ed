use Rattle.std.proofs.Common.{◌≡◌, true, false, refl, pos}
use Rattle.mono_steps.specs.WorkedLemmas.{minus}
use Rattle.mono_theory.proofs.WorkedRows.{none_of_another_variable, none_while_quiet, walk_is_found}
use Rattle.mono_theory.proofs.worked.lemmas_found.Goals as goal

pub returns-clause-found : goal.returns-clause-found
returns-clause-found c = walk_is_found

pub returns-clause-two_open : goal.returns-clause-two_open
returns-clause-two_open c = λ h. let e = h.one_open (minus 2) (pos 3) refl refl refl refl in cc

pub returns-clause-one_open_while_quiet : goal.returns-clause-one_open_while_quiet
returns-clause-one_open_while_quiet c = none_while_quiet

pub returns-clause-one_true : goal.returns-clause-one_true
returns-clause-one_true c = λ h. let e = h.none_true (minus 1) refl in cc

pub returns-clause-another_variable : goal.returns-clause-another_variable
returns-clause-another_variable c = none_of_another_variable

pub returns-clause-not_shown : goal.returns-clause-not_shown
returns-clause-not_shown c = λ h. let e : false ≡ true = h.shown in cc
