use Rattle.mono_base.specs.Literal.{value_in}
use Rattle.mono_problem.proofs.FirstFalse.{AreTrueBelow}
use Rattle.mono_problem.proofs.problem.Problem.first_false_clause.Given as goal

abbrev pub invariant-loop-place : goal.invariant-loop-place
invariant-loop-place l = AreTrueBelow (value_in l.model) l.self.clauses l.place
