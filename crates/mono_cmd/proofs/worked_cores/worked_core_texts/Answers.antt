use Rattle.std.proofs.Common.{refl}
use Rattle.std.specs.Fmt.{digits}
use Rattle.mono_cmd.proofs.worked_cores.worked_core_texts.Goals as goal

pub returns-clause-model : goal.returns-clause-model
unfolding digits
returns-clause-model c = refl

pub returns-clause-progress : goal.returns-clause-progress
unfolding digits
returns-clause-progress c = refl

pub returns-clause-core : goal.returns-clause-core
unfolding digits
returns-clause-core c = refl

pub returns-clause-without_assumptions : goal.returns-clause-without_assumptions
unfolding digits
returns-clause-without_assumptions c = refl

pub returns-clause-tried : goal.returns-clause-tried
unfolding digits
returns-clause-tried c = refl

pub returns-clause-tried_alone : goal.returns-clause-tried_alone
unfolding digits
returns-clause-tried_alone c = refl

pub returns-clause-one_each : goal.returns-clause-one_each
unfolding digits
returns-clause-one_each c = refl

pub returns-clause-none : goal.returns-clause-none
unfolding digits
returns-clause-none c = refl
