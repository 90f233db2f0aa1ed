use Rattle.std.proofs.Common.{rules}
use Rattle.mono_text.proofs.decimal.push_signed.Goals as goal

pub returns-clause-ok : goal.returns-clause-ok
returns-clause-ok c = search rules
