use Rattle.std.proofs.Common.{◌≡◌, ◌<◌, arith, length, sym, subst, ◌∙◌, List, map, ap, Vec, Global}
use Rattle.std.proofs.lemmas.List.{length-map}
use Rattle.mono_steps.specs.declared.step.Step.{Step}
use Rattle.mono_steps.specs.Needed.{StepNamesHeld}
use Rattle.mono_steps.specs.Renumbering.{with_numbers, steps_with_numbers}
use Rattle.mono_steps.proofs.Ranks.{copies_more, copies_same, get_or_mapped}
use Rattle.mono_steps.proofs.renumbering.renumber_steps.Goals as goal
use Rattle.mono_steps.proofs.renumbering.renumber_steps.Goals.{then-flags-place+in_ok-renumber+in_ok-push, else-flags-place}

pub renumber-requires : goal.renumber-requires
renumber-requires c = subst (λ (s : Step). StepNamesHeld c.args.count (length c.args.numbers.now) s) (sym c.index-steps-place.is) (c.requires.names c.loop-place.place c.index-steps-place.result c.loop-place-test.true)

pub loop-place-preserved : goal.loop-place-preserved
loop-place-preserved c = λ f table.
    let g : Step → Step = with_numbers f in
    let lt : c.loop-place.place < length (map g c.args.steps.now) = omega (arith, length-map c.args.steps.now g, c.loop-place-test.true) in
    let len : length c.args.flags.now ≡ length (map g c.args.steps.now) = c.requires.len ∙ sym (length-map c.args.steps.now g) in
    let all : List Step = steps_with_numbers f c.args.flags.now c.args.steps.now in
    elim c.if-flags-place.branch [
      | then-flags-place+in_ok-renumber+in_ok-push w ↦ copies_more c.loop-place.new.items c.if-flags-place.new.items all c.args.flags.now (map g c.args.steps.now) c.loop-place.place w.in_ok-renumber.field-0 (g w.index-steps-place.result) lt len (c.loop-place.invariant f table) w.if-flags-place.true
          (ap (λ (v : Vec Step Global). v.items) w.new-is ∙ w.in_ok-push.ensures.items) (w.in_ok-renumber.ensures f table ∙ ap g w.index-steps-place.is ∙ sym (get_or_mapped g c.args.steps.now c.loop-place.place w.index-steps-place.result))
      | else-flags-place w ↦ copies_same c.loop-place.new.items c.if-flags-place.new.items all c.args.flags.now (map g c.args.steps.now) c.loop-place.place lt len (c.loop-place.invariant f table) w.if-flags-place.false (ap (λ (v : Vec Step Global). v.items) w.new-is)
    ]
