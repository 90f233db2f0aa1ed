use Rattle.mono_forms.proofs.OneEnding.{alike, same}
use Rattle.mono_forms.proofs.laws.one_ending.Goals as goal

pub returns-clause-alike : goal.returns-clause-alike
returns-clause-alike c = λ found held. alike held found

pub returns-clause-same : goal.returns-clause-same
returns-clause-same c = λ found held. same held found
