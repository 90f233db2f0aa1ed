use Rattle.std.proofs.Common.{rules}
use Rattle.mono_graph.proofs.part.Part.put.Goals as goal

pub returns-clause-places : goal.returns-clause-places
returns-clause-places c = search rules
