use Rattle.std.proofs.Common.{◌≡◌, map, take}
use Rattle.mono_check.specs.Questions.{target_of}
use Rattle.mono_check.proofs.question.targets_of.Given as goal

abbrev pub invariant-loop-question : goal.invariant-loop-question
invariant-loop-question l = l.targets.items ≡ map target_of (take l.question-index l.questions)
