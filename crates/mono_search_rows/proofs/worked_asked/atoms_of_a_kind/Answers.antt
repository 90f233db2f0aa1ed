use Rattle.std.proofs.Common.{◌≡◌, true, false, arith}
use Rattle.mono_problem.specs.Read.{no_atom}
use Rattle.mono_search_rows.proofs.worked_asked.atoms_of_a_kind.Goals as goal

pub returns-clause-one_on_cycles : goal.returns-clause-one_on_cycles
returns-clause-one_on_cycles c = λ h. let e : false ≡ true = h.each 1 no_atom (omega arith) in cc
