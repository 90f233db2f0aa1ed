use Rattle.std.proofs.Common.{rules}
use Rattle.mono_base.proofs.lit.Lit.new.Goals as goal

pub returns-else-n-ne0-clause-within : goal.returns-else-n-ne0-clause-within
returns-else-n-ne0-clause-within c = search rules
