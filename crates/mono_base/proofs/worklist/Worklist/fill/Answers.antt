use Rattle.std.proofs.Common.{length, arith}
use Rattle.mono_base.proofs.Worklists.{all_on}
use Rattle.mono_base.proofs.worklist.Worklist.fill.Goals as goal

pub returns : goal.returns
returns c = all_on c.places.self.listed (length c.args.self.now.listed) c.places.invariant.size (λ p lt. c.places.invariant.all p (omega (arith, c.places-test.false)) lt)
