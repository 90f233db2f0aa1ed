use Rattle.std.proofs.Common.{arith}
use Rattle.mono_bounds.proofs.EntryBuckets.{start_here}
use Rattle.mono_bounds.proofs.entries.start_of.Goals as goal

pub returns-then-bucket_of-number : goal.returns-then-bucket_of-number
returns-then-bucket_of-number c = start_here c.args.entries.now c.args.least c.args.shift c.args.number c.loop-at.at c.requires.sorted (omega arith) c.loop-at.invariant (omega (arith, c.bucket_of.ensures))
