use Rattle.std.proofs.Common.{◌<◌, ℕ, [], ◌∷◌, refl, arith, pos}
use Rattle.mono_graph.specs.declared.edge.Edge.{Edge}
use Rattle.mono_graph.specs.Digraph.{HasEnds}
use Rattle.mono_graph.specs.Worked.{edge, pipe, both, first_alone}
use Rattle.mono_problem.proofs.WorkedFailures.{flow_fails, all_two}
use Rattle.mono_problem.proofs.worked.flows.Goals as goal

ends : HasEnds (pipe 3 2)
ends = all_two (λ (e : Edge). (e.from < 3) × (e.to < 3)) (edge 1 0 1 3) (edge 2 1 2 2) (omega arith, omega arith) (omega arith, omega arith)

pub returns-clause-two : goal.returns-clause-two
returns-clause-two c = ((λ (k : ℕ). 2), refl)

pub returns-clause-not_three : goal.returns-clause-not_three
returns-clause-not_three c = flow_fails (pipe 3 2) both 0 2 (pos 3) (0 ∷ 1 ∷ []) ends (omega arith) refl

pub returns-clause-nothing : goal.returns-clause-nothing
returns-clause-nothing c = ((λ (k : ℕ). 0), refl)

pub returns-clause-absent : goal.returns-clause-absent
returns-clause-absent c = flow_fails (pipe 3 2) first_alone 0 2 (pos 1) (0 ∷ 1 ∷ []) ends (omega arith) refl
