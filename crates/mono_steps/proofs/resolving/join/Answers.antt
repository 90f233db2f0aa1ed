use Rattle.std.proofs.Common.{◌≡◌, ◌∙◌, sym, subst, ◌+◌}
use Rattle.std.specs.Ordering.{int_eq}
use Rattle.std.proofs.lemmas.Bool.{not-true, not-false}
use Rattle.mono_base.specs.LitSet.{LiteralSet}
use Rattle.mono_steps.proofs.Sets.{taken_out}
use Rattle.mono_steps.proofs.SetSteps.{IsJoinedTo, join_put, join_pass}
use Rattle.mono_steps.proofs.resolving.join.Goals as goal
use Rattle.mono_steps.proofs.resolving.join.Goals.{then-ne, else-ne}

pub loop-lit-init : goal.loop-lit-init
loop-lit-init c = (c.remove.ensures.vars, λ l. c.remove.ensures.has l ∙ taken_out c.args.set.now.members c.args.out l)

pub loop-lit-preserved : goal.loop-lit-preserved
loop-lit-preserved c =
    let old = c.args.set.now.members in
    let i = c.loop-lit.lit-index in
    let next = c.args.next.now in
    let x = c.lit-item.result in
    elim c.if-ne.branch [
      | then-ne w ↦
          subst (λ (s : LiteralSet). s.vars ≡ c.args.set.now.vars × IsJoinedTo old s.members next c.args.out c.args.other (i + 1)) (sym w.set-is) (
            w.insert.ensures.vars ∙ c.loop-lit.invariant.0,
            join_put old c.loop-lit.set.members w.insert.new.self.members next c.args.out c.args.other i x c.loop-lit.invariant.1 c.loop-lit-test.true (sym c.lit-item.is) (not-true (int_eq x c.args.other) (sym w.if-ne.ensures)) w.insert.ensures.has,
          )
      | else-ne w ↦
          subst (λ (s : LiteralSet). s.vars ≡ c.args.set.now.vars × IsJoinedTo old s.members next c.args.out c.args.other (i + 1)) (sym w.set-is) (
            c.loop-lit.invariant.0,
            join_pass old c.loop-lit.set.members next c.args.out c.args.other i x c.loop-lit.invariant.1 c.loop-lit-test.true (sym c.lit-item.is) (not-false (int_eq x c.args.other) (sym w.if-ne.ensures)),
          )
    ]
