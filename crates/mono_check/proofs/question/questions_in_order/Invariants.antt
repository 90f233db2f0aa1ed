use Rattle.std.proofs.Common.{All}
use Rattle.mono_check.specs.Questions.{IsQuestion}
use Rattle.mono_check.proofs.question.questions_in_order.Given as goal

abbrev pub invariant-loop-place : goal.invariant-loop-place
invariant-loop-place l = All (IsQuestion l.problem) l.questions.items
