use Rattle.mono_dynamic.proofs.SearchTrees.{tree_stays}
use Rattle.mono_dynamic.proofs.laws.tree_stays_with_its_edges.Goals as goal

pub returns : goal.returns
returns c = tree_stays
