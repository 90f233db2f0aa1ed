use Rattle.std.proofs.Common.{rules}
use Rattle.mono_trees.proofs.split.is_closed_at.Goals as goal

pub returns-then-none_crosses : goal.returns-then-none_crosses
returns-then-none_crosses c = search rules
