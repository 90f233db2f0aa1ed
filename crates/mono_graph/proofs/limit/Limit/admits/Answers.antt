use Rattle.std.proofs.Common.{rules}
use Rattle.mono_graph.proofs.limit.Limit.admits.Goals as goal

pub returns-then-most-ge0 : goal.returns-then-most-ge0
returns-then-most-ge0 c = search rules
