use Rattle.mono_search.proofs.LearnedClauses.{restarted}
use Rattle.mono_search.proofs.state.State.restart.Goals as goal

pub returns-clause-ready : goal.returns-clause-ready
returns-clause-ready g c =
    let whole = rw (← c.self.view_is) at c.requires.whole in
    let follows = rw (← c.self.view_is) at c.requires.follows in
    let level = rw (← c.self.view_is) at c.requires.level in
    rw c.backjump.ensures.theories (restarted c.self.inside.theories c.self.inside.trail c.backjump.new.trail c.self.inside.store c.self.inside.journal c.self.inside.order c.backjump.new.order 0 whole follows level c.backjump.ensures.sound c.backjump.ensures.trail c.backjump.ensures.order)
