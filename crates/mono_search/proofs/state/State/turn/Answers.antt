use Rattle.std.proofs.Common.{◌∙◌, sym}
use Rattle.mono_search.proofs.Turned.{turned_signs, turned_ready}
use Rattle.mono_search.proofs.state.State.turn.Goals as goal

pub turn-requires : goal.turn-requires
turn-requires g c =
    let ready = rw (← c.self.view_is) at c.requires in
    ready.whole.order.vars ∙ sym ready.whole.trail.vars

pub returns-clause-ready : goal.returns-clause-ready
returns-clause-ready g c =
    let ready = rw (← c.self.view_is) at c.requires in
    turned_ready c.args.anew _ _ ready (turned_signs c.self.inside.theories c.self.inside.trail c.self.inside.store c.self.inside.journal c.self.inside.order c.turn.new.order c.args.anew c.turn.ensures.waits c.turn.ensures.as_before)

pub returns-clause-turned : goal.returns-clause-turned
returns-clause-turned g c = rw (← c.self.view_is) (turned_signs c.self.inside.theories c.self.inside.trail c.self.inside.store c.self.inside.journal c.self.inside.order c.turn.new.order c.args.anew c.turn.ensures.waits c.turn.ensures.as_before)
