use Rattle.std.proofs.Common.{◌≡◌, take, ◌&&◌, not, ℤ}
use Rattle.mono_base.specs.Literal.{has_lit}
use Rattle.mono_steps.proofs.resolving.is_within.Given as goal

abbrev pub invariant-loop-lit : goal.invariant-loop-lit
invariant-loop-lit l = (l.set.vars ≡ l.fn.set.vars) × ((m : ℤ) → has_lit l.set.members m ≡ (has_lit l.fn.set.members m && not (has_lit (take l.lit-index l.clause) m)))
