use Rattle.std.proofs.Common.{ap, ◌∙◌, Vec, Global, ℤ}
use Rattle.mono_steps.specs.Renumbering.{pick}
use Rattle.mono_steps.proofs.Ranks.{copies_more, copies_same}
use Rattle.mono_core.proofs.picking.picked.Goals as goal
use Rattle.mono_core.proofs.picking.picked.Goals.{then-flags-place+in_ok-push, else-flags-place}

pub loop-place-preserved : goal.loop-place-preserved
loop-place-preserved c =
    let lits = c.args.lits.now in
    let flags = c.args.flags.now in
    let all = pick flags lits in
    elim c.if-flags-place.branch [
      | then-flags-place+in_ok-push w ↦ copies_more c.loop-place.some.items c.if-flags-place.some.items all flags lits c.loop-place.place w.index-lits-place.result w.index-lits-place.result c.loop-place-test.true c.requires c.loop-place.invariant w.if-flags-place.true
          (ap (λ (v : Vec ℤ Global). v.items) w.some-is ∙ w.in_ok-push.ensures.items) w.index-lits-place.is
      | else-flags-place w ↦ copies_same c.loop-place.some.items c.if-flags-place.some.items all flags lits c.loop-place.place c.loop-place-test.true c.requires c.loop-place.invariant w.if-flags-place.false (ap (λ (v : Vec ℤ Global). v.items) w.some-is)
    ]
