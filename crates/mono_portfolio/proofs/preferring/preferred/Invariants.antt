use Rattle.std.proofs.Common.{◌≡◌}
use Rattle.mono_portfolio.specs.Preferred.{preferred as preferred_of}
use Rattle.mono_portfolio.proofs.preferring.preferred.Given as goal

abbrev pub invariant-loop-var : goal.invariant-loop-var
invariant-loop-var l = l.lits.items ≡ preferred_of l.worker l.var
