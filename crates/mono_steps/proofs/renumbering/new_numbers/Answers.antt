use Rattle.std.proofs.Common.{ℕ, arith, List, [], ◌∷◌, length, length-append, ap}
use Rattle.mono_steps.proofs.Ranks.{rank_zero, rank_step, rank_skip, rank_le, numbers_more}
use Rattle.mono_steps.proofs.renumbering.new_numbers.Goals as goal
use Rattle.mono_steps.proofs.renumbering.new_numbers.Goals.{then-flag, else-flag}

pub loop-flag-init : goal.loop-flag-init
loop-flag-init c = record {
  so_far = omega (arith, c.in_ok-numbers.ensures.len, c.in_ok-numbers.numbers.ok);
  at = λ k lt. absurd (omega (arith, lt));
  next = omega (arith, rank_zero c.args.flags.now);
}

pub overflow_add-next-then-flag : goal.overflow_add-next-then-flag
overflow_add-next-then-flag c = omega (arith, c.requires, c.loop-flag.invariant.next, rank_le c.args.flags.now c.loop-flag.flag-index, c.in_ok-numbers.numbers.small, c.loop-flag-test.true)

pub loop-flag-preserved : goal.loop-flag-preserved
loop-flag-preserved c = record {
  so_far = omega (arith, ap (λ (xs : List ℕ). length xs) c.in_ok-push.ensures.items, length-append c.loop-flag.numbers.items (c.loop-flag.next ∷ []), c.loop-flag.invariant.so_far);
  at = numbers_more c.loop-flag.numbers.items c.push.new.self.items c.loop-flag.flag-index c.args.count c.loop-flag.next c.args.flags.now c.in_ok-push.ensures.items c.loop-flag.invariant.so_far c.loop-flag.invariant.at c.loop-flag.invariant.next;
  next = elim c.if-flag.branch [
    | then-flag w ↦ omega (arith, w.next-is, c.loop-flag.invariant.next, rank_step c.args.flags.now c.loop-flag.flag-index w.if-flag.true)
    | else-flag w ↦ omega (arith, w.next-is, c.loop-flag.invariant.next, rank_skip c.args.flags.now c.loop-flag.flag-index w.if-flag.false)
  ];
}
