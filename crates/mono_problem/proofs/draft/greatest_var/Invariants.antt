use Rattle.std.proofs.Common.{◌≡◌, ◌≤◌, take, All}
use Rattle.mono_base.specs.declared.limits.TheConstants.{MAX_VARS}
use Rattle.mono_problem.specs.Growth.{greatest_var}
use Rattle.mono_base.specs.Literal.{IsLitWithin}
use Rattle.mono_problem.proofs.draft.greatest_var.Given as goal

abbrev pub invariant-loop-lit : goal.invariant-loop-lit
invariant-loop-lit l = (l.most ≡ greatest_var l.fn.vars (take l.lit-index l.lits)) × (l.fn.vars ≤ l.most) × (l.most ≤ MAX_VARS) × All (IsLitWithin l.most) (take l.lit-index l.lits)
