use Rattle.mono_search.proofs.Growing.{propagated}
use Rattle.mono_search.proofs.state.State.propagate_clauses.Goals as goal

pub returns : goal.returns
returns g c =
    let ready = rw (← c.self.view_is) at c.requires in
    rw (← c.self.view_is) (propagated c.self.inside.theories c.self.inside.trail c.propagate-found.new.trail c.self.inside.store c.propagate-found.new.self c.self.inside.journal c.self.inside.order ready
    c.propagate-found.ensures.vars c.propagate-found.ensures.clauses c.propagate-found.ensures.grows c.known.ensures.sound c.propagate-found.result c.propagate-found.ensures.found)
