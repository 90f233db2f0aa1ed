use Rattle.std.proofs.Common.{◌≡◌, drop}
use Rattle.mono_paths.proofs.Expand.{Expanding}
use Rattle.mono_paths.proofs.spread.expand.Given as goal

abbrev pub invariant-loop-place : goal.invariant-loop-place
invariant-loop-place l = record {
  cap : l.labels.cap ≡ l.initial.labels.cap;
  going : Expanding l.graph l.part l.limit l.initial.labels.cap l.initial.labels.each l.initial.visits.items l.at l.labels.each l.visits.items (drop l.place-index l.places);
}
