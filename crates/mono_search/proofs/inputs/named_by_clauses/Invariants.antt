use Rattle.std.proofs.Common.{◌≡◌, length}
use Rattle.mono_search.proofs.inputs.named_by_clauses.Given as goal

abbrev pub invariant-loop-place : goal.invariant-loop-place
invariant-loop-place l = length l.named.items ≡ l.problem.vars
