use Rattle.std.proofs.Common.{◌≡◌, true, false}
use Rattle.mono_theory.proofs.WorkedRows.{none_beside, walk_explains}
use Rattle.mono_theory.proofs.worked.lemmas_of_a_literal.Goals as goal

pub returns-clause-its : goal.returns-clause-its
returns-clause-its c = walk_explains

pub returns-clause-another_open : goal.returns-clause-another_open
returns-clause-another_open c = λ h. let e = h.others in cc

pub returns-clause-without_it : goal.returns-clause-without_it
returns-clause-without_it c = λ h. let e = h.has in cc

pub returns-clause-another_atom : goal.returns-clause-another_atom
returns-clause-another_atom c = λ h. let e = h.number in cc

pub returns-clause-atom_alike : goal.returns-clause-atom_alike
returns-clause-atom_alike c = λ h. let e = h.number in cc

pub returns-clause-not_shown : goal.returns-clause-not_shown
returns-clause-not_shown c = λ h. let e : false ≡ true = h.shown in cc

pub returns-clause-another_variable : goal.returns-clause-another_variable
returns-clause-another_variable c = none_beside
