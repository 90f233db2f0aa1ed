use Rattle.std.proofs.Common.{◌≡◌, ◌<◌, false, List, length, sym, ap, subst, ◌∙◌}
use Rattle.std.specs.Prelude.{nat_le}
use Rattle.std.proofs.lemmas.List.{get_or_read}
use Rattle.mono_dynamic.specs.declared.arrival.Arrival.{Arrival}
use Rattle.mono_dynamic.specs.Arrivals.{arrival_at, no_arrival, is_reached, within}
use Rattle.mono_dynamic.specs.Reached.{Reached}
use Rattle.mono_dynamic.proofs.Listed.{stamp_tells, never_reached}
use Rattle.mono_dynamic.proofs.reached_nodes.ReachedNodes.reached_after.Goals as goal

pub returns-in-Some : goal.returns-in-Some
returns-in-Some c = λ m.
    let found = subst (λ (xs : List Arrival). (c.in-Some.position < length xs) × ((arrival_at xs c.in-Some.position).node ≡ c.args.node)) c.deref-2.ensures.value c.in-Some.ensures in
    let read : c.index.result.now ≡ arrival_at c.self.inside.arrivals.items c.in-Some.position = get_or_read c.self.inside.arrivals.items c.in-Some.position c.index.result.now found.0 c.index.ensures no_arrival in
    subst (λ (r : Reached). is_reached (within m r.arrivals) c.args.node ≡ nat_le c.index.result.now.stamp m) c.self.view_is
    (stamp_tells c.self.inside.positions.items c.self.inside.arrivals.items c.args.node c.in-Some.position m c.self.invariant.placed found.0 found.1 ∙ ap (λ (a : Arrival). nat_le a.stamp m) (sym read))

pub returns-in-None : goal.returns-in-None
returns-in-None c = λ m.
    subst (λ (r : Reached). is_reached (within m r.arrivals) c.args.node ≡ false) c.self.view_is
    (never_reached c.self.inside.arrivals.items c.args.node m (subst (λ (xs : List Arrival). is_reached xs c.args.node ≡ false) c.deref-2.ensures.value c.in-None.ensures))
