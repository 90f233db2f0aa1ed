use Rattle.std.proofs.Common.{◌∙◌}
use Rattle.mono_search.proofs.Advances.{advanced_handed}
use Rattle.mono_search.proofs.state.State.foresee.Goals as goal

pub returns-clause-implied : goal.returns-clause-implied
returns-clause-implied g c = λ on. advanced_handed (c.unit_lemma.ensures.same ∙ c.hand_on.ensures.handed) c.in_ok-join_lemma.ensures.implied
