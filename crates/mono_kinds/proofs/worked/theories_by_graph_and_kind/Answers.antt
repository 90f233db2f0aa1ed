use Rattle.mono_kinds.proofs.WorkedTheories.{shared, in_another_order, apart, over_a_graph, of_a_kind, of_all, without_atoms}
use Rattle.mono_kinds.proofs.worked.theories_by_graph_and_kind.Goals as goal

pub returns-clause-shared : goal.returns-clause-shared
returns-clause-shared c = shared

pub returns-clause-in_another_order : goal.returns-clause-in_another_order
returns-clause-in_another_order c = in_another_order

pub returns-clause-one_for_each_atom : goal.returns-clause-one_for_each_atom
returns-clause-one_for_each_atom c = apart

pub returns-clause-one_for_each_graph : goal.returns-clause-one_for_each_graph
returns-clause-one_for_each_graph c = over_a_graph

pub returns-clause-one_for_each_kind : goal.returns-clause-one_for_each_kind
returns-clause-one_for_each_kind c = of_a_kind

pub returns-clause-one_for_all : goal.returns-clause-one_for_all
returns-clause-one_for_all c = of_all

pub returns-clause-one_without_atoms : goal.returns-clause-one_without_atoms
returns-clause-one_without_atoms c = without_atoms
