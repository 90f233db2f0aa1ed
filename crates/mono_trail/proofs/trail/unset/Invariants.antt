use Rattle.std.proofs.Common.{◌≡◌, drop, length}
use Rattle.mono_trail.specs.Kept.{unvalued}
use Rattle.mono_trail.proofs.trail.unset.Given as goal

abbrev pub invariant-loop-lit : goal.invariant-loop-lit
invariant-loop-lit l = record {
  rest : unvalued (drop l.lit-index l.lits) l.values.items ≡ unvalued l.lits l.fn.values.items;
  as_many : length l.values.items ≡ length l.fn.values.items;
}
