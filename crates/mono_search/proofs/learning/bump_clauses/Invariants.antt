use Rattle.std.proofs.Common.{◌≡◌}
use Rattle.mono_search.proofs.learning.bump_clauses.Given as goal

abbrev pub invariant-loop-number : goal.invariant-loop-number
invariant-loop-number l = l.order ≡ l.fn.order
