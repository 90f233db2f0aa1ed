use Rattle.std.proofs.Common.{◌≡◌, ◌<◌, ◌-◌, ◌+◌, arith, length, Some, true, false, sym, ◌∙◌, subst, ℕ}
use Rattle.std.specs.Prelude.{slice_get}
use Rattle.std.proofs.lemmas.List.{get_or_read}
use Rattle.mono_steps.specs.Needed.{is_set, IsNeeded}
use Rattle.mono_steps.proofs.StepLists.{slice_get_read}
use Rattle.mono_steps.proofs.NeededSteps.{held_wider, needed_start, needed_skip, needed_mark}
use Rattle.mono_steps.proofs.trimming.mark_needed.Goals as goal
use Rattle.mono_steps.proofs.trimming.mark_needed.Goals.{At-loop-place}

here : (c : At-loop-place) → 0 < c.loop-place.place → IsNeeded c.args.count c.args.steps.now (c.loop-place.place - 1 + 1) c.loop-place.needed.items
here c some = let e : c.loop-place.place ≡ c.loop-place.place - 1 + 1 = omega arith in subst (λ (n : ℕ). IsNeeded c.args.count c.args.steps.now n c.loop-place.needed.items) e c.loop-place.invariant.needed

pub mark_named-requires : goal.mark_named-requires
mark_named-requires c =
    let at : slice_get c.args.steps.now (c.loop-place.place - 1) ≡ Some c.index-steps-place.result = slice_get_read c.args.steps.now (c.loop-place.place - 1) c.index-steps-place.result (omega (arith, c.loop-place.invariant.within, c.loop-place-test.true)) c.index-steps-place.is in
    held_wider c.args.count (c.loop-place.place - 1) (length c.loop-place.needed.items) c.index-steps-place.result (omega (arith, c.loop-place.invariant.needed.as_many, c.loop-place.invariant.within)) (c.requires.names.at (c.loop-place.place - 1) c.index-steps-place.result at)

pub loop-place-preserved-then-index : goal.loop-place-preserved-then-index
loop-place-preserved-then-index c =
    let lt : c.loop-place.place - 1 < length c.args.steps.now = omega (arith, c.loop-place.invariant.within, c.loop-place-test.true) in
    let at : slice_get c.args.steps.now (c.loop-place.place - 1) ≡ Some c.index-steps-place.result = slice_get_read c.args.steps.now (c.loop-place.place - 1) c.index-steps-place.result lt c.index-steps-place.is in
    let on : is_set c.loop-place.needed.items (c.loop-place.place - 1) ≡ true = sym (get_or_read c.loop-place.needed.items (c.loop-place.place - 1) c.index.result.now (omega (arith, lt, c.loop-place.invariant.needed.as_many)) c.index.ensures false) ∙ c.if-index.true in
    record {
      needed = needed_mark c.args.count c.args.steps.now (c.loop-place.place - 1) c.loop-place.needed.items c.mark_named.new.needed.items c.index-steps-place.result (here (goal.at.loop-place-preserved-then-index c).At-loop-place (omega (arith, c.loop-place-test.true))) on at c.requires.names c.mark_named.ensures.len c.mark_named.ensures.marks;
      within = omega (arith, lt);
    }

pub loop-place-preserved : goal.loop-place-preserved
loop-place-preserved c =
    let lt : c.loop-place.place - 1 < length c.args.steps.now = omega (arith, c.loop-place.invariant.within, c.loop-place-test.true) in
    let off : is_set c.loop-place.needed.items (c.loop-place.place - 1) ≡ false = sym (get_or_read c.loop-place.needed.items (c.loop-place.place - 1) c.index.result.now (omega (arith, lt, c.loop-place.invariant.needed.as_many)) c.index.ensures false) ∙ c.if-index.false in
    record {
      needed = needed_skip c.args.count c.args.steps.now (c.loop-place.place - 1) c.loop-place.needed.items (here (goal.at.loop-place-preserved c).At-loop-place (omega (arith, c.loop-place-test.true))) off;
      within = omega (arith, lt);
    }

pub loop-place-init : goal.loop-place-init
loop-place-init c = record { needed = needed_start c.args.count c.args.steps.now c.args.needed.now.items c.requires.some c.requires.len c.requires.none; within = omega arith }
