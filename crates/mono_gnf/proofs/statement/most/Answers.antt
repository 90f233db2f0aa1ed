use Rattle.std.proofs.Common.{rules}
use Rattle.mono_gnf.proofs.statement.most.Goals as goal

pub returns-then-strict-clause-value : goal.returns-then-strict-clause-value
returns-then-strict-clause-value c = search rules
