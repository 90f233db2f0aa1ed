use Rattle.std.proofs.Common.{◌<◌, ◌≤◌, arith}
use Rattle.mono_problem.specs.Read.{no_atom}
use Rattle.mono_search_rows.proofs.worked_frames.atoms_over_a_graph.Goals as goal

pub returns-clause-no_such_node : goal.returns-clause-no_such_node
returns-clause-no_such_node c = λ h. let e : 3 < 3 = (h.over 0 no_atom (omega arith)).1.1 in omega (arith, e)

pub returns-clause-no_variable : goal.returns-clause-no_variable
returns-clause-no_variable c = λ h. let e : 1 ≤ 0 = (h.over 0 no_atom (omega arith)).0.0 in omega (arith, e)
