use Rattle.mono_steps.proofs.FewNew.{few_are_new, enough}
use Rattle.mono_steps.proofs.new_laws.fewer_new_chains_than_codes.Goals as goal

pub returns-clause-fewer : goal.returns-clause-fewer
returns-clause-fewer c = few_are_new

pub returns-clause-budget : goal.returns-clause-budget
returns-clause-budget c = enough
