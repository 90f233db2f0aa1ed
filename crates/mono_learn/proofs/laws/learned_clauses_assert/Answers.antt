use Rattle.mono_learn.proofs.KeptReasons.{learnt_asserts}
use Rattle.mono_learn.proofs.laws.learned_clauses_assert.Goals as goal

pub returns : goal.returns
returns c = learnt_asserts
