use Rattle.std.proofs.Common.{◌≡◌, ◌≤◌, ℕ, map, length}
use Rattle.mono_theory.specs.Stages.{AreRuns, undone}
use Rattle.mono_theory.proofs.stages.undo_stages_to.Given as goal

abbrev pub invariant-loop-atom : goal.invariant-loop-atom
invariant-loop-atom l = record {
  as_many : length l.stages.items ≡ length l.ranking.items;
  within : l.left ≤ length l.ranking.items;
  runs : (border : ℕ) → AreRuns l.ranking.items l.initial.stages.items l.initial.shown border → AreRuns l.ranking.items l.stages.items l.left border;
  same : map (undone l.kept) l.stages.items ≡ map (undone l.kept) l.initial.stages.items;
}

abbrev pub decreases-loop-atom : goal.decreases-loop-atom
decreases-loop-atom l = l.left
