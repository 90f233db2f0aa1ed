use Rattle.std.proofs.Common.{◌∙◌, ℕ, Option, None, replicate, ap, arith}
use Rattle.mono_check.specs.declared.enabled.EnabledPart.{EnabledPart}
use Rattle.mono_check.proofs.PartsByGraph.{none_yet}
use Rattle.mono_check.proofs.parts.EnabledParts.new.Goals as goal

pub returns : goal.returns
returns c = λ a. none_yet c.args.problem.now a c.loop-place.parts.items (c.loop-place.invariant ∙ ap (λ (n : ℕ). replicate {A = Option EnabledPart} n None) (omega arith))
