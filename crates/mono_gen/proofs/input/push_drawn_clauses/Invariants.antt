use Rattle.std.proofs.Common.{◌≡◌, ◌++◌, ◌*◌}
use Rattle.mono_gen.specs.Draws.{after}
use Rattle.mono_gen.specs.Generated.{drawn_clauses}
use Rattle.mono_gen.proofs.input.push_drawn_clauses.Given as goal

abbrev pub invariant-loop-done : goal.invariant-loop-done
invariant-loop-done l = record {
  text : l.out.items ≡ l.initial.out.items ++ drawn_clauses l.edges l.initial.words l._done;
  next : l.words ≡ after (5 * l._done) l.initial.words;
}
