use Rattle.std.proofs.Common.{arith}
use Rattle.std.proofs.lemmas.List.FromFn.{length-range_with_len}
use Rattle.mono_base.proofs.Rankings.{inverse_new}
use Rattle.mono_base.proofs.ranking.Ranking.new.Goals as goal

pub invariant_of-result : goal.invariant_of-result
invariant_of-result c = rw (c.in_ok-items.ensures, c.in_ok-places.ensures) (record {
  inverse = inverse_new c.args.count;
  few = omega (arith, length-range_with_len 0 c.args.count, c.ranges.count.fits);
})
