use Rattle.std.proofs.Common.{rules}
use Rattle.mono_kinds.proofs.slots.kind_index.Goals as goal

pub returns-in-Distance-clause-kind : goal.returns-in-Distance-clause-kind
returns-in-Distance-clause-kind c = search rules
