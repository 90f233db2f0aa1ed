use Rattle.std.proofs.Common.{[], ◌∷◌, refl}
use Rattle.mono_rows.proofs.ProblemRows.{edge_is_absent}
use Rattle.mono_rows.proofs.problem.predicate_of_the_second_graph.Goals as goal

pub returns-clause-own_edge : goal.returns-clause-own_edge
returns-clause-own_edge c = (0 ∷ [], refl)

pub returns-clause-edges_of_the_first : goal.returns-clause-edges_of_the_first
returns-clause-edges_of_the_first c = edge_is_absent
