use Rattle.std.proofs.Common.{arith, List, Bool, [], ◌∷◌, length, length-append, ap}
use Rattle.mono_steps.proofs.Ranks.{rank_le, rank_zero, rank_step, rank_skip}
use Rattle.mono_core.proofs.Dropped.{flags_more}
use Rattle.mono_core.proofs.dropping.narrowed.Goals as goal
use Rattle.mono_core.proofs.dropping.narrowed.Goals.{then-flag, else-flag}

pub loop-flag-init : goal.loop-flag-init
loop-flag-init c = record {
  so_far = omega (arith, c.in_ok-new.ensures.len, c.in_ok-new.new.ok);
  each = λ k lt. absurd (omega (arith, lt));
  next = omega (arith, rank_zero c.args.kept.now);
}

pub loop-flag-preserved : goal.loop-flag-preserved
loop-flag-preserved c = record {
  so_far = omega (arith, ap (λ (xs : List Bool). length xs) c.in_ok-push.ensures.items, length-append c.loop-flag.new.items (c.stays.result ∷ []), c.loop-flag.invariant.so_far);
  each = flags_more c.loop-flag.new.items c.push.new.self.items c.loop-flag.flag-index c.stays.result c.args.kept.now c.args.named.now c.loop-flag.unit c.in_ok-push.ensures.items c.loop-flag.invariant.so_far c.loop-flag.invariant.each c.stays.ensures c.loop-flag.invariant.next;
  next = elim c.if-flag.branch [
    | then-flag w ↦ omega (arith, w.unit-is, c.loop-flag.invariant.next, rank_step c.args.kept.now c.loop-flag.flag-index w.if-flag.true)
    | else-flag w ↦ omega (arith, w.unit-is, c.loop-flag.invariant.next, rank_skip c.args.kept.now c.loop-flag.flag-index w.if-flag.false)
  ];
}

pub overflow_add-unit : goal.overflow_add-unit
overflow_add-unit c = omega (arith, c.loop-flag.invariant.next, rank_le c.args.kept.now c.loop-flag.flag-index, c.loop-flag.invariant.so_far, c.loop-flag.new.small)
