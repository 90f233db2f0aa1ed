use Rattle.std.proofs.Common.{rules}
use Rattle.mono_flow.proofs.node_paths.NodePaths.find.Goals as goal

pub returns : goal.returns
returns c = search rules
