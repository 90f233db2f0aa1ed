use Rattle.mono_search.proofs.Decisions.{decided_moved, decided_by_sign, next_leaves}
use Rattle.mono_search.proofs.state.State.decide_next.Goals as goal

pub returns-clause-decided : goal.returns-clause-decided
returns-clause-decided g c = λ _.
    let quiet = rw (← c.self.view_is) at c.requires in
    let next = next_leaves c.self.inside.order c.pick.new.self c.self.inside.trail.lits c.in-Some.var c.in-Some.ensures.some in
    rw (← c.self.view_is) (decided_moved c.self.inside.theories c.self.inside.trail c.decide.new.self c.self.inside.store c.self.inside.journal c.self.inside.order c.pick.new.self c.of-lit.result c.in-Some.var quiet next c.of-lit.ensures.var c.decide.ensures c.known-2.ensures.sound)

pub returns-clause-signed : goal.returns-clause-signed
returns-clause-signed g c = λ _.
    let next = next_leaves c.self.inside.order c.pick.new.self c.self.inside.trail.lits c.in-Some.var c.in-Some.ensures.some in
    rw (← c.self.view_is) (decided_by_sign c.self.inside.theories c.self.inside.trail c.decide.new.self c.self.inside.store c.self.inside.journal c.self.inside.order c.pick.new.self c.of-lit.result c.in-Some.var c.sign_of.result next c.sign_of.ensures.saved c.sign_of.ensures.by_theory c.of-lit.ensures.value c.decide.ensures)
