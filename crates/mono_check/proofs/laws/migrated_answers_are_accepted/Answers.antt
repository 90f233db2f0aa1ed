use Rattle.mono_check.proofs.ThereAndBack.{migrated_verdict, migrated_answer, migrated_again}
use Rattle.mono_check.proofs.laws.migrated_answers_are_accepted.Goals as goal

pub returns-clause-verdict : goal.returns-clause-verdict
returns-clause-verdict c = migrated_verdict

pub returns-clause-answer : goal.returns-clause-answer
returns-clause-answer c = migrated_answer

pub returns-clause-again : goal.returns-clause-again
returns-clause-again c = migrated_again
