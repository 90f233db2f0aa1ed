use Rattle.std.proofs.Common.{◌≡◌, length}
use Rattle.mono_answer.specs.Items.{values_of}
use Rattle.mono_answer.proofs.TokenSteps.{behind_list}
use Rattle.mono_answer.proofs.lists.read_values.Given as goal

abbrev pub invariant-loop-read : goal.invariant-loop-read
invariant-loop-read l = values_of l.fn.tokens ≡ behind_list l.values.items (values_of l.tokens)

abbrev pub decreases-loop-read : goal.decreases-loop-read
decreases-loop-read l = length l.tokens
