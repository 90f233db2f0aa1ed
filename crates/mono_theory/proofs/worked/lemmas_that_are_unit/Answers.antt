use Rattle.std.proofs.Common.{◌≡◌, true, false}
use Rattle.mono_theory.proofs.WorkedRows.{no_unit_beside, unit_by_atom, unit_by_edge}
use Rattle.mono_theory.proofs.worked.lemmas_that_are_unit.Goals as goal

pub returns-clause-by_an_edge : goal.returns-clause-by_an_edge
returns-clause-by_an_edge c = unit_by_edge

pub returns-clause-by_the_atom : goal.returns-clause-by_the_atom
returns-clause-by_the_atom c = unit_by_atom

pub returns-clause-another_open : goal.returns-clause-another_open
returns-clause-another_open c = λ h. let e : false ≡ true = h.others in cc

pub returns-clause-true_already : goal.returns-clause-true_already
returns-clause-true_already c = λ h. let e : false ≡ true = h.is_open in cc

pub returns-clause-false_already : goal.returns-clause-false_already
returns-clause-false_already c = λ h. let e : false ≡ true = h.is_open in cc

pub returns-clause-without_it : goal.returns-clause-without_it
returns-clause-without_it c = λ h. let e : false ≡ true = h.has in cc

pub returns-clause-no_atom : goal.returns-clause-no_atom
returns-clause-no_atom c = λ h. h.shown

pub returns-clause-not_shown : goal.returns-clause-not_shown
returns-clause-not_shown c = λ h. let e : false ≡ true = h.shown in cc

pub returns-clause-another_variable : goal.returns-clause-another_variable
returns-clause-another_variable c = no_unit_beside
