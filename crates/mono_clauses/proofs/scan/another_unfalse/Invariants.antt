use Rattle.std.proofs.Common.{◌≡◌, ℕ, ◌<◌}
use Rattle.mono_base.specs.Literal.{lit_at}
use Rattle.mono_base.specs.Partial.{value_by}
use Rattle.mono_base.specs.declared.value.Value.TheVariants.{No}
use Rattle.mono_clauses.proofs.scan.another_unfalse.Given as goal

abbrev pub invariant-loop-lit : goal.invariant-loop-lit
invariant-loop-lit l = (k : ℕ) → k < l.lit-index → (lit_at l.clause k ≡ l.skip → ⊥) → value_by l.trail.lits (lit_at l.clause k) ≡ No
