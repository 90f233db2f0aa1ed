use Rattle.std.proofs.Common.{◌≡◌}
use Rattle.mono_search.proofs.learning.bump.Given as goal

abbrev pub invariant-loop-lit : goal.invariant-loop-lit
invariant-loop-lit l = l.order ≡ l.fn.order
