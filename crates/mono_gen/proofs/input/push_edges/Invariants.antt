use Rattle.std.proofs.Common.{◌≡◌, ◌++◌}
use Rattle.mono_gen.specs.Joined.{joined}
use Rattle.mono_gen.specs.Draws.{after}
use Rattle.mono_gen.specs.Generated.{edge_text}
use Rattle.mono_gen.proofs.input.push_edges.Given as goal

abbrev pub invariant-loop-place : goal.invariant-loop-place
invariant-loop-place l = record {
  text : l.out.items ≡ l.initial.out.items ++ joined (edge_text l.edges l.initial.words) l.place;
  next : l.words ≡ after l.place l.initial.words;
}
