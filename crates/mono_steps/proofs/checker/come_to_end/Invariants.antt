use Rattle.std.proofs.Common.{◌≡◌, ◌++◌, take}
use Rattle.mono_steps.specs.ChainSteps.{clauses_named}
use Rattle.mono_steps.proofs.Ends.{IsEndOf}
use Rattle.mono_steps.proofs.checker.come_to_end.Given as goal

abbrev pub invariant-loop-number : goal.invariant-loop-number
invariant-loop-number l = (l.set.vars ≡ l.fn.set.vars) × IsEndOf (clauses_named (l.problem.clauses ++ l.earlier) (take l.number-index l.used)) l.has_come l.set.members
