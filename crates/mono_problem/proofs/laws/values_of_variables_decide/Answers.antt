use Rattle.mono_problem.proofs.SameValues.{satisfies_same}
use Rattle.mono_problem.proofs.laws.values_of_variables_decide.Goals as goal

pub returns : goal.returns
returns c = satisfies_same
