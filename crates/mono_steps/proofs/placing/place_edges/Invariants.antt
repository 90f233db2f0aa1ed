use Rattle.std.proofs.Common.{◌≡◌, ◌<◌, length, take}
use Rattle.std.specs.Prelude.{IsTrue, All}
use Rattle.mono_steps.specs.Witnesses.{names_edges, placed}
use Rattle.mono_steps.proofs.placing.place_edges.Given as goal

abbrev pub invariant-loop-number : goal.invariant-loop-number
invariant-loop-number l = record {
  known : IsTrue (names_edges l.graph (take l.number-index l.numbers));
  places : l.places.items ≡ placed l.graph (take l.number-index l.numbers);
  held : All (λ k. k < length l.graph.edges) l.places.items;
}
