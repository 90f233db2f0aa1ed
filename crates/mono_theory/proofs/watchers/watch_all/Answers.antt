use Rattle.std.proofs.Common.{◌<◌, ℕ, get_or, length, arith, subst}
use Rattle.std.specs.List.{Contains}
use Rattle.mono_theory.specs.declared.watch.Watch.{Watch}
use Rattle.mono_theory.specs.Watching.{IsEdgeAt, IsGrown, watch_by, watching}
use Rattle.mono_theory.proofs.MoreWatch.{grown_by_one, grown_more, watches_pushed, below_pushed, watched_more, watched_still, grown_same}
use Rattle.mono_theory.proofs.watchers.watch_all.Goals as goal

pub loop-place-preserved : goal.loop-place-preserved
loop-place-preserved c =
    let ws = c.loop-place.lists in
    let vs = c.push.new.self in
    let i = c.loop-place.place in
    let k = get_or c.args.edges.now i 0 in
    let w : Watch = watch_by c.args.atom i in
    let inv = c.loop-place.invariant in
    let known : k < length c.args.lists.now = c.requires.edges i 0 c.loop-place-test.true in
    let lt : k < length ws = omega (arith, known, inv.grown.len) in
    let grown : IsGrown ws vs = grown_by_one ws vs k w lt c.in_ok-push.ensures.ok in
    record {
      grown = grown_more inv.grown grown;
      below = λ n low h. below_pushed n ws vs k w lt low c.in_ok-push.ensures.ok (inv.below n low h);
      watched = watched_more c.args.edges.now i grown (watches_pushed ws vs k w lt c.in_ok-push.ensures.ok) inv.watched;
      known = watched_still grown inv.known;
    }

-- an edge that stands at the place where it stood is watched there
pub loop-place-preserved-then-is_at : goal.loop-place-preserved-then-is_at
loop-place-preserved-then-is_at c =
    let ws = c.loop-place.lists in
    let i = c.loop-place.place in
    let inv = c.loop-place.invariant in
    let at : IsEdgeAt c.args.known.now i (get_or c.args.edges.now i 0) = c.is_at.ensures.at.0 c.if-is_at.true in
    let this : Contains (watching ws (get_or c.args.edges.now i 0)) (watch_by c.args.atom i) =
    subst (λ (k : ℕ). Contains (watching ws k) (watch_by c.args.atom i)) at.is (inv.known.each i at.held) in
    record {
      grown = inv.grown;
      below = inv.below;
      watched = watched_more c.args.edges.now i (grown_same ws) this inv.watched;
      known = inv.known;
    }
