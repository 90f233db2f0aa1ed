use Rattle.std.proofs.Common.{◌≤◌, length}
use Rattle.mono_steps.specs.Needed.{IsNeeded}
use Rattle.mono_steps.proofs.trimming.mark_needed.Given as goal

abbrev pub invariant-loop-place : goal.invariant-loop-place
invariant-loop-place l = record {
  needed : IsNeeded l.count l.steps l.place l.needed.items;
  within : l.place ≤ length l.steps;
}

abbrev pub decreases-loop-place : goal.decreases-loop-place
decreases-loop-place l = l.place
