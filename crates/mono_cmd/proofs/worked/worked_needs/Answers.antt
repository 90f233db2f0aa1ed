use Rattle.std.proofs.Common.{refl}
use Rattle.mono_cmd.proofs.UnknownWord.{unknown}
use Rattle.mono_cmd.proofs.worked.worked_needs.Goals as goal

pub returns-clause-fault : goal.returns-clause-fault
returns-clause-fault c = λ reached. unknown reached.1

pub returns-clause-no_answer_needed : goal.returns-clause-no_answer_needed
returns-clause-no_answer_needed c = (refl, λ reached. absurd (unknown reached.1))
