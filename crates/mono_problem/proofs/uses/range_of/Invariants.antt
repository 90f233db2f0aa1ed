use Rattle.std.proofs.Common.{◌≡◌, ℕ, ◌<◌, ◌≤◌, ◌-◌, length}
use Rattle.std.specs.Prelude.{slice_index}
use Rattle.mono_problem.proofs.uses.range_of.Given as goal

abbrev pub invariant-loop-end : goal.invariant-loop-end
invariant-loop-end l = record {
  rises : l.start ≤ l.end;
  within : l.end ≤ length l.vars;
  at : (k : ℕ) → l.start ≤ k → k < l.end → slice_index l.vars k ≡ l.var;
}

abbrev pub decreases-loop-end : goal.decreases-loop-end
decreases-loop-end l = length l.vars - l.end
