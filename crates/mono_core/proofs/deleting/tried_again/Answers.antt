use Rattle.std.proofs.Common.{◌≡◌, ◌+◌, ◌-◌, ◌∷◌, [], ◌++◌, ◌∙◌, ap, subst, sym, length, arith, List, Option, length-append}
use Rattle.std.specs.Option.{option_to_list}
use Rattle.mono_core.specs.declared.outcome.Need.{Need}
use Rattle.mono_core.specs.Cores.{AreFound, AreLeft}
use Rattle.mono_core.proofs.Needs.{all_found_fewer, found_more}
use Rattle.mono_core.proofs.Left.{left_before, left_fewer, left_last}
use Rattle.mono_core.proofs.deleting.tried_again.Goals as goal

pub try_again-requires-clause-soon : goal.try_again-requires-clause-soon
try_again-requires-clause-soon g c =
    let kept = c.loop-place.deletion.refuted.kept.items in
    let rest = c.pop.new.self.items in
    let items : c.loop-place.soon.items ≡ rest ++ c.in-Some.one ∷ [] = c.pop.ensures.items ∙ ap (λ (o : Option (Option Need)). rest ++ option_to_list o) c.in-Some.is in
    let len : length rest ≡ c.loop-place.place - 1 = omega (arith, ap length items, length-append rest (c.in-Some.one ∷ []), c.loop-place.invariant.4, c.loop-place-test.true) in
    left_last c.args.problem.now c.args.assumed.now kept rest c.in-Some.one (c.loop-place.place - 1) len
    (subst (λ (os : List (Option Need)). AreLeft c.args.problem.now c.args.assumed.now kept os) items c.loop-place.invariant.3)

pub loop-place-preserved : goal.loop-place-preserved
loop-place-preserved g c =
    let p = c.args.problem.now in
    let assumed = c.args.assumed.now in
    let flags = c.loop-place.deletion.refuted.kept.items in
    let kept = c.try_again.new.deletion.refuted.kept.items in
    let before = c.loop-place.found.items in
    let place = c.loop-place.place - 1 in
    let rest = c.pop.new.self.items in
    let items : c.loop-place.soon.items ≡ rest ++ c.in-Some.one ∷ [] = c.pop.ensures.items ∙ ap (λ (o : Option (Option Need)). rest ++ option_to_list o) c.in-Some.is in
    let left = subst (λ (os : List (Option Need)). AreLeft p assumed flags os) items c.loop-place.invariant.3 in
    let len : length before + (place + 1) ≡ length assumed = omega (arith, c.loop-place.invariant.2, c.loop-place-test.true) in
    let fewer = all_found_fewer p c.args.budget assumed kept flags before c.in_ok-need.ensures.fewer c.loop-place.invariant.1 in
    let more = found_more p c.args.budget assumed kept before place c.in_ok-need.need len fewer c.in_ok-need.ensures.need in (
      c.in_ok-need.ensures.refuted,
      subst (λ (os : List (Option Need)). AreFound p c.args.budget assumed kept os) (sym c.in_ok-push.ensures.items) more,
      omega (arith, ap length c.in_ok-push.ensures.items, length-append before (c.in_ok-need.need ∷ []), len),
      left_fewer p assumed kept flags rest c.in_ok-need.ensures.fewer (left_before p assumed flags rest c.in-Some.one left),
      omega (arith, ap length items, length-append rest (c.in-Some.one ∷ []), c.loop-place.invariant.4, c.loop-place-test.true),
    )
