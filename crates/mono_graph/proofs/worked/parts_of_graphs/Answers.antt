use Rattle.std.proofs.Common.{refl}
use Rattle.mono_graph.proofs.worked.parts_of_graphs.Goals as goal

pub returns-clause-larger : goal.returns-clause-larger
returns-clause-larger c sub = let held = sub.keeps 1 refl in cc
