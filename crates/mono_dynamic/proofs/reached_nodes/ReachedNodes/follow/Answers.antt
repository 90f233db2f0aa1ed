use Rattle.std.proofs.Common.{ℕ, ◌≡◌, ◌+◌, ◌∷◌, List, get_or, drop, sym, subst, ◌∙◌}
use Rattle.std.proofs.lemmas.List.{drop_more}
use Rattle.mono_dynamic.specs.Reached.{AreFollowed}
use Rattle.mono_dynamic.proofs.Followed.{followed_read, followed_unread}
use Rattle.mono_dynamic.proofs.reached_nodes.ReachedNodes.follow.Goals as goal
use Rattle.mono_dynamic.proofs.reached_nodes.ReachedNodes.follow.Goals.{in-Some, in_default}

pub loop-place-preserved : goal.loop-place-preserved
loop-place-preserved c =
    let k : ℕ = get_or c.args.places.now c.loop-place.place-index 0 in
    let front : drop c.loop-place.place-index c.args.places.now ≡ k ∷ drop (c.loop-place.place-index + 1) c.args.places.now = drop_more c.args.places.now c.loop-place.place-index 0 c.loop-place-test.true in
    let f : AreFollowed c.args.graph.now c.args.part.now c.args.stamp c.args.places.now (k ∷ drop (c.loop-place.place-index + 1) c.args.places.now) c.args.self.now c.loop-place.self =
    subst (λ (ks : List ℕ). AreFollowed c.args.graph.now c.args.part.now c.args.stamp c.args.places.now ks c.args.self.now c.loop-place.self) front c.loop-place.invariant in
    elim c.match-arrival_of.branch [
      | in-Some w ↦
          followed_read c.args.graph.now c.args.part.now c.args.stamp c.args.places.now k w.in-Some.before (drop (c.loop-place.place-index + 1) c.args.places.now) c.edge-edge.result c.args.self.now c.loop-place.self
          c.match-arrival_of.self f (c.requires.places c.loop-place.place-index 0 c.loop-place-test.true) c.edge-edge.ensures.edge (sym c.has.ensures ∙ c.if-not-has.false) w.in-Some.ensures.arrival (w.self-is ∙ w.arrive.ensures)
      | in_default w ↦
          followed_unread c.args.graph.now c.args.part.now c.args.stamp c.args.places.now k (drop (c.loop-place.place-index + 1) c.args.places.now) c.edge-edge.result c.args.self.now c.loop-place.self
          c.match-arrival_of.self f c.edge-edge.ensures.edge w.in_default.ensures.arrival w.self-is
    ]
