use Rattle.mono_answer.specs.declared.version.Version.TheVariants as version
use Rattle.mono_check.proofs.ThereAndBack.{there_and_back, migrated_again}
use Rattle.mono_check.proofs.laws.migrated_there_and_back.Goals as goal

pub returns-clause-same : goal.returns-clause-same
returns-clause-same c = there_and_back

pub returns-clause-comes_back : goal.returns-clause-comes_back
returns-clause-comes_back c = λ p text there ok small m n. migrated_again p text there text version.Two version.One ok small n m
