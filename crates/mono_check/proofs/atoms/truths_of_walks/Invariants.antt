use Rattle.std.proofs.Common.{All, length}
use Rattle.mono_base.specs.Literal.{value_in}
use Rattle.mono_check.specs.Enabled.{AreEnabled}
use Rattle.mono_check.specs.Questions.{IsQuestion, AreTruths}
use Rattle.mono_check.proofs.atoms.truths_of_walks.Given as goal

abbrev pub invariant-loop-rest : goal.invariant-loop-rest
invariant-loop-rest l = record {
  parts : AreEnabled l.problem (value_in l.model) l.parts.parts.items;
  truths : AreTruths l.problem (value_in l.model) l.truths.items;
  known : All (IsQuestion l.problem) l.rest;
}

abbrev pub decreases-loop-rest : goal.decreases-loop-rest
decreases-loop-rest l = length l.rest
