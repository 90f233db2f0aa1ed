use Rattle.std.proofs.Common.{ℕ, ◌<◌}
use Rattle.mono_theory.specs.Watching.{AreBelow, AreWatched, IsGrown}
use Rattle.mono_theory.proofs.MoreWatch.{FirstWatched}
use Rattle.mono_theory.proofs.watchers.watch_all.Given as goal

abbrev pub invariant-loop-place : goal.invariant-loop-place
invariant-loop-place l = record {
  grown : IsGrown l.initial.lists l.lists;
  below : (n : ℕ) → l.atom < n → AreBelow n l.initial.lists → AreBelow n l.lists;
  watched : FirstWatched l.lists l.atom l.edges l.place;
  known : AreWatched l.lists l.atom l.known;
}
