use Rattle.std.proofs.Common.{◌≡◌, ℕ, suc, ◌-◌, List, sym, subst, arith}
use Rattle.mono_dynamic.specs.Costs.{change_at}
use Rattle.mono_dynamic.proofs.CostWalks.{IsCostBack, cost_back_none, cost_back_more, cost_back_whole}
use Rattle.mono_dynamic.proofs.cost_table.walk_back.Goals as goal

pub loop-at-init : goal.loop-at-init
loop-at-init c = subst (λ (ks : List ℕ). IsCostBack c.args.changes.now c.args.last c.args.last ks) (sym c.new-walk.ensures.items) (cost_back_none c.args.changes.now c.args.last)

pub loop-at-preserved : goal.loop-at-preserved
loop-at-preserved c =
    let i : ℕ = c.loop-at.at - 1 in
    let at : c.loop-at.at ≡ suc i = (let some = c.loop-at-test.true in omega arith) in
    let held = c.loop-at.invariant.held in
    let low = c.requires.last in
    subst (λ (ks : List ℕ). IsCostBack c.args.changes.now c.args.last (change_at c.args.changes.now i).before ks) (sym c.in_ok-push.ensures.items)
    (cost_back_more c.args.changes.now c.args.last i c.loop-at.walk.items (c.requires.ordered.before i (omega arith)) (subst (λ (n : ℕ). IsCostBack c.args.changes.now c.args.last n c.loop-at.walk.items) at c.loop-at.invariant))

pub returns : goal.returns
returns c = cost_back_whole c.args.changes.now c.args.last c.loop-at.at c.loop-at.walk.items c.reverse.new.self.items c.loop-at-test.false c.reverse.ensures.items c.loop-at.invariant
