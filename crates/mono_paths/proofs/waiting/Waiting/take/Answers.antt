use Rattle.std.proofs.Common.{refl, arith}
use Rattle.mono_paths.proofs.Queued.{takes_cheapest}
use Rattle.mono_paths.proofs.waiting.Waiting.take.Goals as goal

pub returns-in-Some : goal.returns-in-Some
returns-in-Some c =
    takes_cheapest c.args.self.now _ c.in-Some.pending c.args.visits c.if-self.true c.if-self.true refl c.requires c.in-Some.ensures.permutation
    (omega (arith, c.in-Some.ensures.len))
