use Rattle.std.proofs.Common.{◌≡◌, length}
use Rattle.mono_answer.specs.Items.{clause_numbers_of}
use Rattle.mono_answer.proofs.TokenSteps.{behind_list}
use Rattle.mono_answer.proofs.lists.read_clause_numbers.Given as goal

abbrev pub invariant-loop-read : goal.invariant-loop-read
invariant-loop-read l = clause_numbers_of l.fn.tokens ≡ behind_list l.numbers.items (clause_numbers_of l.tokens)

abbrev pub decreases-loop-read : goal.decreases-loop-read
decreases-loop-read l = length l.tokens
