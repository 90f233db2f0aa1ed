use Rattle.std.proofs.Common.{◌-◌, ℕ, sym, ap, ◌∙◌, subst, arith, length, nat_abs, set, true}
use Rattle.mono_base.specs.Literal.{IsLitWithin}
use Rattle.mono_trail.specs.Order.{OrderView}
use Rattle.mono_search.proofs.Decisions.{released_more}
use Rattle.mono_search.proofs.backjumping.release.Goals as goal

pub loop-lit-preserved : goal.loop-lit-preserved
loop-lit-preserved c =
    let signs = ap (λ (o : OrderView). o.phases) c.give_back.ensures ∙ ap (λ (o : OrderView). o.phases) c.save.ensures in
    let here = subst (IsLitWithin (length c.args.order.now.waits)) (sym c.lit-item.is) (c.requires c.loop-lit.lit-index c.lit-item.result c.loop-lit-test.true) in
    let e = ap (λ (o : OrderView). o.waits) c.give_back.ensures ∙ ap (λ (n : ℕ). set c.save.new.self.waits n true) (ap (λ (n : ℕ). n - 1) c.var.ensures.value) ∙ ap (λ (o : OrderView). set o.waits (nat_abs c.lit-item.result - 1) true) c.save.ensures in
    released_more c.args.order.now c.loop-lit.order c.give_back.new.self c.args.lits.now c.loop-lit.lit-index c.lit-item.result c.loop-lit.invariant c.loop-lit-test.true c.lit-item.is (omega (arith, here.0)) here.1 e signs
