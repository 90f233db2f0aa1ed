use Rattle.std.proofs.Common.{◌≡◌, length}
use Rattle.mono_answer.specs.Items.{literals_of}
use Rattle.mono_answer.proofs.TokenSteps.{behind_lits}
use Rattle.mono_answer.proofs.lists.read_literals.Given as goal

abbrev pub invariant-loop-read : goal.invariant-loop-read
invariant-loop-read l = literals_of l.fn.tokens ≡ behind_lits l.lits.items (literals_of l.tokens)

abbrev pub decreases-loop-read : goal.decreases-loop-read
decreases-loop-read l = length l.tokens
