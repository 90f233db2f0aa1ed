use Rattle.std.proofs.Common.{rules}
use Rattle.mono_gen.proofs.input.three.Goals as goal

pub returns : goal.returns
returns c = search rules
