use Rattle.mono_graph.proofs.Subparts.{is_path-larger, is_flow_of-larger, is_tree-larger}
use Rattle.mono_graph.proofs.laws.larger_part_keeps_what_is_there.Goals as goal

pub returns-clause-path : goal.returns-clause-path
returns-clause-path c = is_path-larger

pub returns-clause-flow : goal.returns-clause-flow
returns-clause-flow c = is_flow_of-larger

pub returns-clause-tree : goal.returns-clause-tree
returns-clause-tree c = is_tree-larger
