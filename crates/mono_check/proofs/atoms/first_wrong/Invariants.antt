use Rattle.std.proofs.Common.{take, All}
use Rattle.mono_base.specs.Literal.{value_in}
use Rattle.mono_check.specs.Atoms.{IsRight}
use Rattle.mono_check.specs.Enabled.{AreEnabled}
use Rattle.mono_check.proofs.atoms.first_wrong.Given as goal

abbrev pub invariant-loop-place : goal.invariant-loop-place
invariant-loop-place l = AreEnabled l.problem (value_in l.model) l.parts.parts.items × All (IsRight l.problem (value_in l.model)) (take l.place l.problem.atoms)
