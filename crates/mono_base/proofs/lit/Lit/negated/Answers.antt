use Rattle.std.proofs.Common.{rules}
use Rattle.mono_base.proofs.lit.Lit.negated.Goals as goal

pub returns : goal.returns
returns c = search rules
