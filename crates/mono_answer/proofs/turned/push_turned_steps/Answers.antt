use Rattle.std.proofs.Common.{rules, ◌≡◌, ◌+◌, ℕ, get_or, ap, arith}
use Rattle.mono_answer.proofs.Printing.{turned_pushed}
use Rattle.mono_answer.proofs.turned.push_turned_steps.Goals as goal

pub loop-place-preserved : goal.loop-place-preserved
loop-place-preserved c =
    let k = c.loop-place.place in
    let s = c.index-steps-place.result in
    let there : s ≡ get_or c.args.steps.now k s = search rules in
    turned_pushed c.args.out.now.items c.loop-place.out.items c.push_turned_step.new.out.items (c.args.clauses + 1) (c.from.result + 1 + k) k c.args.steps.now s s
    (omega arith) (ap (λ (n : ℕ). n + 1 + k) c.from.ensures) there c.loop-place.invariant c.in_ok-push_turned_step.ensures
