use Rattle.mono_search.proofs.HandedOn.{asked_kept}
use Rattle.mono_search.proofs.theories.Theories.unit_lemma.Goals as goal

pub invariant_of-self : goal.invariant_of-self
invariant_of-self g c = asked_kept c.any_unit_lemma.ensures.same c.self.invariant.others c.self.invariant.known c.self.invariant
