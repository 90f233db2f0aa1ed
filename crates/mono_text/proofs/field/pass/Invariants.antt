use Rattle.std.proofs.Common.{◌≡◌, ◌+◌, length, drop}
use Rattle.mono_text.proofs.field.pass.Given as goal

abbrev pub invariant-loop-passed : goal.invariant-loop-passed
invariant-loop-passed l = record {
  cut : l._passed + length l.tokens ≡ length l.fn.tokens;
  left : l.tokens ≡ drop l._passed l.fn.tokens;
}
