use Rattle.std.proofs.Common.{arith}
use Rattle.mono_bounds.proofs.BoundsStay.{none_on, all_on}
use Rattle.mono_bounds.proofs.bounds.Bounds.of_vars.Goals as goal

pub returns : goal.returns
returns c = record {
  vars = c.in_ok-index.ensures;
  surely = none_on c.args.vars.items c.in_ok-under.under (omega (arith, c.in_ok-under.ensures.size, c.len-count.ensures)) c.in_ok-under.ensures.places;
  possibly = all_on c.args.vars.items c.in_ok-over.over (omega (arith, c.in_ok-over.ensures.size, c.len-count.ensures)) (λ k lt. c.in_ok-over.ensures.places k (omega (arith, lt, c.len-count.ensures)));
}
