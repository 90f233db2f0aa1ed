use Rattle.std.proofs.Common.{ℕ, ◌+◌, ◌-◌, ◌/◌, ◌<◌, length, arith}
use Rattle.mono_bounds.proofs.EntryBuckets.{greater_from, smaller_up_to}
use Rattle.mono_bounds.proofs.entries.first_from.Goals as goal

pub loop-first-preserved-then-from-key : goal.loop-first-preserved-then-from-key
loop-first-preserved-then-from-key c =
    let middle : ℕ = c.loop-first.first + (c.loop-first.end - c.loop-first.first) / 2 in
    let before : middle < c.loop-first.end = omega arith in
    let fits : middle < length c.args.entries.now = omega arith in
    let low = c.loop-first.invariant.low in
    record {
      low = omega (arith, low);
      order = omega arith;
      end = c.loop-first.invariant.end;
      below = smaller_up_to c.args.entries.now c.args.key middle c.requires.sorted fits (omega (arith, c.from.ensures));
      from = c.loop-first.invariant.from;
    }

pub loop-first-preserved : goal.loop-first-preserved
loop-first-preserved c =
    let middle : ℕ = c.loop-first.first + (c.loop-first.end - c.loop-first.first) / 2 in
    let before : middle < c.loop-first.end = omega arith in
    let fits : middle < length c.args.entries.now = omega arith in
    record {
      low = c.loop-first.invariant.low;
      order = omega arith;
      end = omega arith;
      below = c.loop-first.invariant.below;
      from = greater_from c.args.entries.now c.args.key middle c.requires.sorted fits (omega (arith, c.from.ensures));
    }
