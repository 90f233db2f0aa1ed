use Rattle.mono_rows.proofs.InstanceRows.{both_graphs, none_of_one_identity, none_of_a_number_twice, none_of_a_number_beyond, none_of_a_variable_beyond, none_of_a_great_identity, none_of_an_edge_beyond, none_of_a_second_predicate, none_of_a_missing_graph, none_of_a_tree_of_no_graph, none_of_a_node_beyond, none_of_variable_0, none_of_variable_7, none_of_literal_0, none_of_literal_7}
use Rattle.mono_rows.proofs.problem.whole_problems.Goals as goal

pub returns-clause-two : goal.returns-clause-two
returns-clause-two c = both_graphs

pub returns-clause-identity_twice : goal.returns-clause-identity_twice
returns-clause-identity_twice c = none_of_one_identity

pub returns-clause-number_twice : goal.returns-clause-number_twice
returns-clause-number_twice c = none_of_a_number_twice

pub returns-clause-number_beyond : goal.returns-clause-number_beyond
returns-clause-number_beyond c = none_of_a_number_beyond

pub returns-clause-edges_variable_beyond : goal.returns-clause-edges_variable_beyond
returns-clause-edges_variable_beyond c = none_of_a_variable_beyond

pub returns-clause-identity_beyond : goal.returns-clause-identity_beyond
returns-clause-identity_beyond c = none_of_a_great_identity

pub returns-clause-edge_to_no_node : goal.returns-clause-edge_to_no_node
returns-clause-edge_to_no_node c = none_of_an_edge_beyond

pub returns-clause-second_predicate_alone : goal.returns-clause-second_predicate_alone
returns-clause-second_predicate_alone c = none_of_a_second_predicate

pub returns-clause-missing_graph : goal.returns-clause-missing_graph
returns-clause-missing_graph c = none_of_a_missing_graph

pub returns-clause-tree_of_no_graph : goal.returns-clause-tree_of_no_graph
returns-clause-tree_of_no_graph c = none_of_a_tree_of_no_graph

pub returns-clause-node_of_another_graph : goal.returns-clause-node_of_another_graph
returns-clause-node_of_another_graph c = none_of_a_node_beyond

pub returns-clause-variable_0 : goal.returns-clause-variable_0
returns-clause-variable_0 c = none_of_variable_0

pub returns-clause-variable_beyond : goal.returns-clause-variable_beyond
returns-clause-variable_beyond c = none_of_variable_7

pub returns-clause-literal_0 : goal.returns-clause-literal_0
returns-clause-literal_0 c = none_of_literal_0

pub returns-clause-literal_beyond : goal.returns-clause-literal_beyond
returns-clause-literal_beyond c = none_of_literal_7
