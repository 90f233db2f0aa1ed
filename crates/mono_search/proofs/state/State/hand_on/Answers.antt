use Rattle.std.proofs.Common.{sym, subst, List, ℤ, length}
use Rattle.mono_search.specs.Theories.{having_seen}
use Rattle.mono_search.specs.State.{IsReady}
use Rattle.mono_search.proofs.Propagating.{handed_ready, state}
use Rattle.mono_search.proofs.state.State.hand_on.Goals as goal

pub returns-clause-ready : goal.returns-clause-ready
returns-clause-ready g c =
    let b = c.self.inside.theories in
    let ready = rw (← c.self.view_is) at c.requires in
    rw c.hand_on.ensures (subst (λ (lits : List ℤ). IsReady (state (having_seen b lits (length lits)) c.self.inside.trail c.self.inside.store c.self.inside.journal c.self.inside.order)) (sym c.lits.ensures)
    (handed_ready (state b c.self.inside.trail c.self.inside.store c.self.inside.journal c.self.inside.order) ready))
