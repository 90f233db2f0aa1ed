use Rattle.std.proofs.Common.{arith}
use Rattle.mono_graph.specs.Digraph.{no_edge}
use Rattle.mono_graph.proofs.worked.edges_past_their_limits.Goals as goal

pub returns-clause-no_number : goal.returns-clause-no_number
returns-clause-no_number c g = let held = g.numbers 0 no_edge (omega arith) in omega (arith, held)

pub returns-clause-no_start : goal.returns-clause-no_start
returns-clause-no_start c g = let held = (g.ends 0 no_edge (omega arith)).0 in omega (arith, held)

pub returns-clause-no_end : goal.returns-clause-no_end
returns-clause-no_end c g = let held = (g.ends 0 no_edge (omega arith)).1 in omega (arith, held)

pub returns-clause-no_variable : goal.returns-clause-no_variable
returns-clause-no_variable c g = let held = (g.vars 0 no_edge (omega arith)).0 in omega (arith, held)

pub returns-clause-great_variable : goal.returns-clause-great_variable
returns-clause-great_variable c g = let held = (g.vars 0 no_edge (omega arith)).1 in omega (arith, held)

pub returns-clause-great_weight : goal.returns-clause-great_weight
returns-clause-great_weight c g = let held = g.weights 0 no_edge (omega arith) in omega (arith, held)
