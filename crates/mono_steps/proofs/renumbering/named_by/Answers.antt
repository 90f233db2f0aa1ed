use Rattle.std.proofs.Common.{ℕ, ◌+◌, ◌<◌, ◌||◌, length, arith, sym, subst, ap, ◌∙◌, Bool}
use Rattle.mono_steps.specs.declared.step.Step.{Step}
use Rattle.mono_steps.specs.Needed.{StepNamesHeld}
use Rattle.mono_steps.specs.Renumbering.{names_step}
use Rattle.mono_steps.proofs.NeededSteps.{named_more}
use Rattle.mono_steps.proofs.renumbering.named_by.Goals as goal

pub mark_named-requires : goal.mark_named-requires
mark_named-requires c =
    let held = c.requires.names c.loop-step.step-index c.step-item.result c.loop-step-test.true in
    subst (λ (n : ℕ). StepNamesHeld c.args.count n c.step-item.result) (sym c.loop-step.invariant.as_many) (subst (λ (s : Step). StepNamesHeld c.args.count (c.args.len + length c.args.steps.now) s) (sym c.step-item.is) held)

pub loop-step-preserved : goal.loop-step-preserved
loop-step-preserved c = record {
  as_many = c.mark_named.ensures.len ∙ c.loop-step.invariant.as_many;
  each = λ k lt.
      let low : k < length c.loop-step.named.items = omega (arith, lt, c.mark_named.ensures.len) in
      c.mark_named.ensures.marks k low ∙ ap (λ (b : Bool). b || names_step c.args.count c.step-item.result k) (c.loop-step.invariant.each k low)
      ∙ sym (named_more c.args.count c.args.steps.now c.loop-step.step-index k c.step-item.result c.loop-step-test.true c.step-item.is);
}
