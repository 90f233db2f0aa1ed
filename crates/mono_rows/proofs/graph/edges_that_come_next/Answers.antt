use Rattle.std.proofs.Common.{arith}
use Rattle.mono_graph.specs.Digraph.{no_edge}
use Rattle.mono_rows.proofs.graph.edges_that_come_next.Goals as goal

pub returns-clause-past_the_nodes : goal.returns-clause-past_the_nodes
returns-clause-past_the_nodes c = λ new. let low = new.from in omega (arith, low)

pub returns-clause-to_past_the_nodes : goal.returns-clause-to_past_the_nodes
returns-clause-to_past_the_nodes c = λ new. let low = new.to in omega (arith, low)

pub returns-clause-number_again : goal.returns-clause-number_again
returns-clause-number_again c = λ new. let rise = new.rising 0 no_edge (omega arith) in omega (arith, rise)

pub returns-clause-number_0 : goal.returns-clause-number_0
returns-clause-number_0 c = λ new. let low = new.number in omega (arith, low)

pub returns-clause-variable_0 : goal.returns-clause-variable_0
returns-clause-variable_0 c = λ new. let low = new.var.0 in omega (arith, low)

pub returns-clause-great_variable : goal.returns-clause-great_variable
returns-clause-great_variable c = λ new. let high = new.var.1 in omega (arith, high)

pub returns-clause-great_weight : goal.returns-clause-great_weight
returns-clause-great_weight c = λ new. let high = new.weight in omega (arith, high)

pub returns-clause-no_room : goal.returns-clause-no_room
returns-clause-no_room c = λ edges len new. let room = new.room in omega (arith, room, len)

pub returns-clause-last : goal.returns-clause-last
returns-clause-last c = λ edges len all. record {
  from = omega arith;
  to = omega arith;
  room = omega (arith, len);
  rising = all;
  number = omega arith;
  var = (omega arith, omega arith);
  weight = omega arith;
}
