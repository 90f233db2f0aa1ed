use Rattle.std.proofs.Common.{◌≡◌, ◌⊎◌, ℕ, Bool, length}
use Rattle.std.specs.Prelude.{Some}
use Rattle.mono_check.specs.Questions.{IsAnswered, truth_at}
use Rattle.mono_check.proofs.question.keep_answers.Given as goal

abbrev pub invariant-loop-at : goal.invariant-loop-at
invariant-loop-at l = record {
  len : length l.truths.items ≡ length l.fn.truths.items;
  kept : (k : ℕ) (b : Bool) → truth_at l.truths.items k ≡ Some b → (truth_at l.fn.truths.items k ≡ Some b) ⊎ IsAnswered l.questions l.answers k b;
}
