use Rattle.mono_gen.proofs.Counts.{length-edges}
use Rattle.mono_gen.proofs.laws.edges_are_counted.Goals as goal

pub returns : goal.returns
returns c = length-edges
