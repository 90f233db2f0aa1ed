use Rattle.std.proofs.Common.{◌≡◌, [], ap, arith}
use Rattle.std.specs.Prelude.{Option, unwrap_or}
use Rattle.mono_graph.specs.Digraph.{Digraph}
use Rattle.mono_graph.specs.Worked.{pipe}
use Rattle.mono_problem.specs.declared.atom.Atom.{Atom}
use Rattle.mono_problem.specs.Read.{no_atom}
use Rattle.mono_search_rows.specs.Worked.{over}
use Rattle.mono_search_rows.proofs.worked_answers.who_owns_the_atoms.Goals as goal

pub returns-clause-another_variable : goal.returns-clause-another_variable
returns-clause-another_variable c = λ h.
    let e : 4 ≡ 7 = ap (λ (o : Option Atom). (unwrap_or o no_atom).var) (h.exact 1 (over (pipe 1 1) []) (omega arith) 0 no_atom (omega arith)) in
    omega (arith, e)

pub returns-clause-over_another_graph : goal.returns-clause-over_another_graph
returns-clause-over_another_graph c = λ h.
    let e : 2 ≡ 3 = ap (λ (g : Digraph). g.nodes) (h.graphs 1 (over (pipe 1 1) []) (omega arith) 0 no_atom (omega arith)) in
    omega (arith, e)
