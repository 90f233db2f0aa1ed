use Rattle.std.proofs.Common.{◌≡◌, ◌+◌, ◌-◌, ◌∷◌, [], ap, subst, sym, length, arith, List, Option, length-append}
use Rattle.mono_core.specs.declared.outcome.Need.{Need}
use Rattle.mono_core.specs.Cores.{AreFound}
use Rattle.mono_core.proofs.Needs.{all_found_fewer, found_more}
use Rattle.mono_core.proofs.deleting.tried_each.Goals as goal

pub loop-place-preserved : goal.loop-place-preserved
loop-place-preserved g c =
    let p = c.args.problem.now in
    let assumed = c.args.assumed.now in
    let kept = c.try_without.new.deletion.refuted.kept.items in
    let before = c.loop-place.found.items in
    let place = c.loop-place.place - 1 in
    let len : length before + (place + 1) ≡ length assumed = omega (arith, c.loop-place.invariant.2, c.loop-place-test.true) in
    let fewer = all_found_fewer p c.args.budget assumed kept c.loop-place.deletion.refuted.kept.items before c.in_ok-need.ensures.fewer c.loop-place.invariant.1 in
    let more = found_more p c.args.budget assumed kept before place c.in_ok-need.need len fewer c.in_ok-need.ensures.need in
    (c.in_ok-need.ensures.refuted, subst (λ (os : List (Option Need)). AreFound p c.args.budget assumed kept os) (sym c.in_ok-push.ensures.items) more, omega (arith, ap length c.in_ok-push.ensures.items, length-append before (c.in_ok-need.need ∷ []), len))
