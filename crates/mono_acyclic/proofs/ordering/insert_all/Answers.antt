use Rattle.std.proofs.Common.{get_or}
use Rattle.mono_graph.proofs.Membership.{has_get_or}
use Rattle.mono_acyclic.proofs.Together.{put_here, put_within}
use Rattle.mono_acyclic.proofs.ordering.insert_all.Goals as goal

pub returns-then-not-insert-clause-cycle : goal.returns-then-not-insert-clause-cycle
returns-then-not-insert-clause-cycle c = λ off Q all.
    let old = c.args.ordered.now in
    let ks = c.args.places.now in
    let i = c.loop-place.place-index in
    c.insert.ensures.cycle c.if-not-insert.true Q (put_within c.args.graph.now old c.loop-place.ordered Q ks i c.loop-place.invariant all)
    (put_here old.part Q ks (get_or ks i 0) all (has_get_or ks i 0 c.loop-place-test.true))
