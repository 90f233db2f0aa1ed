use Rattle.std.proofs.Common.{◌≡◌, ℕ, length, pos}
use Rattle.mono_base.specs.Literal.{value_in}
use Rattle.mono_base.specs.Partial.{is_true_in}
use Rattle.mono_trail.specs.Moves.{IsVar}
use Rattle.mono_search.proofs.deciding.values_of.Given as goal

abbrev pub invariant-loop-place : goal.invariant-loop-place
invariant-loop-place l = record {
  len : length l.values.items ≡ l.place;
  values : (v : ℕ) → IsVar l.place v → value_in l.values.items v ≡ is_true_in l.trail.lits (pos v);
}
