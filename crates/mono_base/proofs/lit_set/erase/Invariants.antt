use Rattle.std.proofs.Common.{◌≡◌, ◌<◌, ℕ, length, get_or}
use Rattle.std.specs.Prelude.{pos}
use Rattle.mono_base.specs.Literal.{slot}
use Rattle.mono_base.proofs.lit_set.erase.Given as goal

abbrev pub invariant-loop-lit : goal.invariant-loop-lit
invariant-loop-lit l = record {
  slots : length l.places.items ≡ length l.fn.places.items;
  stays : (i : ℕ) → get_or l.fn.places.items i 0 ≡ 0 → get_or l.places.items i 0 ≡ 0;
  erased : (k : ℕ) → k < l.lit-index → get_or l.places.items (slot (get_or l.lits k (pos 0))) 0 ≡ 0;
}
