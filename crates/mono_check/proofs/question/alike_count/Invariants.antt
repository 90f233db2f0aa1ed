use Rattle.std.proofs.Common.{◌<◌, ◌≤◌, ◌-◌, take, length, All}
use Rattle.mono_check.specs.Questions.{AreAlike, question_at}
use Rattle.mono_check.proofs.question.alike_count.Given as goal

abbrev pub invariant-loop-count : goal.invariant-loop-count
invariant-loop-count l = record {
  some : 0 < l.count;
  within : l.count ≤ length l.questions;
  alike : All (AreAlike (question_at l.questions 0)) (take l.count l.questions);
}

abbrev pub decreases-loop-count : goal.decreases-loop-count
decreases-loop-count l = length l.questions - l.count
