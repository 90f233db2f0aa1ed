use Rattle.std.proofs.Common.{◌≡◌, ◌<◌, length}
use Rattle.std.specs.Prelude.{All, vec_capacity}
use Rattle.mono_dynamic.proofs.mending.note_places.Given as goal

abbrev pub invariant-loop-position : goal.invariant-loop-position
invariant-loop-position l = record {
  known : All (λ k. k < length l.graph.edges) l.places.items;
  few : length l.places.items < l.position;
  room : vec_capacity l.places ≡ vec_capacity l.fn.places;
}
