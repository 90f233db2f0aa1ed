use Rattle.std.proofs.Common.{arith}
use Rattle.mono_bounds.proofs.EntryBuckets.{around_bucket, around_rest}
use Rattle.mono_bounds.proofs.entries.bucket_range.Goals as goal

pub returns-then-number-last : goal.returns-then-number-last
returns-then-number-last c = around_bucket c.args.entries.now c.args.starts.now c.args.least c.args.shift c.args.key c.bucket_of-number.result c.requires c.bucket_of-number.ensures (omega arith)

pub returns-else-number-last : goal.returns-else-number-last
returns-else-number-last c =
    let some = c.requires.some in
    let number = c.bucket_of-number.ensures in
    around_rest c.args.entries.now c.args.starts.now c.args.least c.args.shift c.args.key _ c.requires (omega (arith, some)) (omega (arith, number))
