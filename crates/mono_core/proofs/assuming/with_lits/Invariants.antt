use Rattle.std.proofs.Common.{◌≡◌, take}
use Rattle.mono_problem.specs.Assuming.{assuming}
use Rattle.mono_core.proofs.assuming.with_lits.Given as goal

abbrev pub invariant-loop-lit : goal.invariant-loop-lit
invariant-loop-lit l = l.draft ≡ assuming l.problem (take l.lit-index l.lits)
