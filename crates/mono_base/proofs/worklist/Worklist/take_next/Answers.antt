use Rattle.std.proofs.Common.{false, set, sym, subst}
use Rattle.mono_base.specs.Worklist.{IsWorklist}
use Rattle.mono_base.proofs.Worklists.{removed}
use Rattle.mono_base.proofs.worklist.Worklist.take_next.Goals as goal

pub invariant_of-self-2 : goal.invariant_of-self-2
invariant_of-self-2 c =
    subst (λ room. IsWorklist (set c.self.inside.listed.items c.in-Some.place false) c.pop.new.self.items room) (sym c.pop.ensures.capacity)
    (removed c.self.inside.listed.items c.self.inside.places.items c.pop.new.self.items _ c.in-Some.place c.self.invariant c.in-Some.ensures.items)
