use Rattle.std.proofs.Common.{arith, inl}
use Rattle.mono_text.proofs.Splits.{length-tokens_of}
use Rattle.mono_text.proofs.tokens.Tokens.left.Goals as goal

pub count-requires-clause-fits : goal.count-requires-clause-fits
count-requires-clause-fits c = let short = length-tokens_of c.self.inside.rest.now in inl (rw c.new.ensures (omega arith))
