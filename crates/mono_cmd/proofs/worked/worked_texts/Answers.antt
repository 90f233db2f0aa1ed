use Rattle.std.proofs.Common.{refl}
use Rattle.std.specs.Fmt.{digits}
use Rattle.mono_cmd.proofs.worked.worked_texts.Goals as goal

pub returns-clause-refused : goal.returns-clause-refused
unfolding digits
returns-clause-refused c = refl

pub returns-clause-progress : goal.returns-clause-progress
unfolding digits
returns-clause-progress c = refl

pub returns-clause-rejected : goal.returns-clause-rejected
unfolding digits
returns-clause-rejected c = refl

pub returns-clause-clause_false : goal.returns-clause-clause_false
unfolding digits
returns-clause-clause_false c = refl

pub returns-clause-atom_wrong : goal.returns-clause-atom_wrong
unfolding digits
returns-clause-atom_wrong c = refl

pub returns-clause-summary : goal.returns-clause-summary
unfolding digits
returns-clause-summary c = refl

pub returns-clause-summary_of_a_model : goal.returns-clause-summary_of_a_model
unfolding digits
returns-clause-summary_of_a_model c = refl

pub returns-clause-summary_of_progress : goal.returns-clause-summary_of_progress
unfolding digits
returns-clause-summary_of_progress c = refl

pub returns-clause-sizes_of_a_problem : goal.returns-clause-sizes_of_a_problem
unfolding digits
returns-clause-sizes_of_a_problem c = refl
