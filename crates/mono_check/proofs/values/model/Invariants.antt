use Rattle.std.proofs.Common.{◌≡◌, map}
use Rattle.std.specs.Prelude.{pos}
use Rattle.std.specs.List.{range_with_len}
use Rattle.mono_base.specs.Literal.{has_lit}
use Rattle.mono_check.proofs.values.model.Given as goal

abbrev pub invariant-loop-place : goal.invariant-loop-place
invariant-loop-place l = l.values.items ≡ map (λ x. has_lit l.set.members (pos x)) (range_with_len 1 l.place)
