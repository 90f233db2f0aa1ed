use Rattle.std.proofs.Common.{◌≡◌, take}
use Rattle.mono_steps.specs.Current.{IsSetOf}
use Rattle.mono_steps.proofs.resolving.fill.Given as goal

abbrev pub invariant-loop-lit : goal.invariant-loop-lit
invariant-loop-lit l = (l.set.vars ≡ l.fn.set.vars) × IsSetOf l.set.members (take l.lit-index l.clause)
