use Rattle.std.proofs.Common.{◌<◌, ℕ, get_or}
use Rattle.std.specs.Prelude.{ℤ}
use Rattle.mono_base.specs.Literal.{IsLitWithin}
use Rattle.mono_bench.proofs.joining.are_within.Given as goal

abbrev pub invariant-loop-lit : goal.invariant-loop-lit
invariant-loop-lit l = (k : ℕ) (d : ℤ) → k < l.lit-index → IsLitWithin l.vars (get_or l.clause k d)
