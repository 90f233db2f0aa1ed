use Rattle.std.proofs.Common.{◌≡◌, Option, None, replicate}
use Rattle.mono_check.specs.declared.enabled.EnabledPart.{EnabledPart}
use Rattle.mono_check.proofs.parts.EnabledParts.new.Given as goal

abbrev pub invariant-loop-place : goal.invariant-loop-place
invariant-loop-place l = l.parts.items ≡ replicate {A = Option EnabledPart} l._place None
