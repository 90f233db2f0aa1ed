use Rattle.std.proofs.Common.{true, refl}
use Rattle.mono_search.proofs.Decisions.{decided_moved, decided_by_sign, next_stays}
use Rattle.mono_search.proofs.state.State.decide_wanted.Goals as goal

pub returns-clause-decided : goal.returns-clause-decided
returns-clause-decided g c =
    let quiet = rw (← c.self.view_is) at c.requires.quiet in
    let open_now = rw (← c.self.view_is) at c.requires.open in
    let next = next_stays c.self.inside.order c.self.inside.trail.lits c.args.var open_now in
    rw (← c.self.view_is) (decided_moved c.self.inside.theories c.self.inside.trail c.decide.new.self c.self.inside.store c.self.inside.journal c.self.inside.order c.self.inside.order c.of-lit.result c.args.var quiet next c.of-lit.ensures.var c.decide.ensures c.known-2.ensures.sound)

pub returns-clause-signed : goal.returns-clause-signed
returns-clause-signed g c =
    let open_now = rw (← c.self.view_is) at c.requires.open in
    let some = rw (← c.self.view_is) at c.requires.theories in
    let next = next_stays c.self.inside.order c.self.inside.trail.lits c.args.var open_now in
    rw (← c.self.view_is) (decided_by_sign c.self.inside.theories c.self.inside.trail c.decide.new.self c.self.inside.store c.self.inside.journal c.self.inside.order c.self.inside.order c.of-lit.result c.args.var true next (λ on. refl) (λ on off. some) c.of-lit.ensures.value c.decide.ensures)
