use Rattle.mono_search.proofs.Propagating.{implied_as}
use Rattle.mono_search.proofs.state.State.imply_forced.Goals as goal

pub returns-in-Unset-clause-answer : goal.returns-in-Unset-clause-answer
returns-in-Unset-clause-answer g c =
    let ready = rw (← c.self.view_is) at c.requires.ready in
    let can = rw (← c.self.view_is) at c.requires.forced in
    rw (← c.self.view_is) (implied_as c.self.inside.theories c.self.inside.trail c.imply.new.self c.self.inside.store c.self.inside.journal c.self.inside.order c.args.forced ready can c.imply.ensures c.known.ensures.sound)
