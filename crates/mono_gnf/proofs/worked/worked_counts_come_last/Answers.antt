use Rattle.std.proofs.Common.{refl}
use Rattle.mono_gnf.proofs.worked.worked_counts_come_last.Goals as goal

pub returns-clause-no_nodes : goal.returns-clause-no_nodes
returns-clause-no_nodes c = λ before full new. rw new refl

pub returns-clause-identity : goal.returns-clause-identity
returns-clause-identity c = λ before full named. rw named refl

pub returns-clause-edges_graph : goal.returns-clause-edges_graph
returns-clause-edges_graph c = λ before full new. rw new refl

pub returns-clause-edges_node : goal.returns-clause-edges_node
returns-clause-edges_node c = λ before full named. rw named refl

pub returns-clause-edges_variable : goal.returns-clause-edges_variable
returns-clause-edges_variable c = λ before full named. rw named refl

pub returns-clause-predicates_graph : goal.returns-clause-predicates_graph
returns-clause-predicates_graph c = λ before full new. rw new refl

pub returns-clause-predicates_ends : goal.returns-clause-predicates_ends
returns-clause-predicates_ends c = λ before full named. rw named refl
