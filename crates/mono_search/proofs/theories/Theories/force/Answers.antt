use Rattle.mono_search.proofs.HandedOn.{asked_kept}
use Rattle.mono_search.proofs.theories.Theories.force.Goals as goal

pub invariant_of-self : goal.invariant_of-self
invariant_of-self g c = asked_kept c.force_any.ensures.same c.force_any.ensures.others c.force_any.ensures.known c.self.invariant
