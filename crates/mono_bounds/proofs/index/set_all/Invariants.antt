use Rattle.std.proofs.Common.{◌≡◌, ◌≢◌, ℕ, ◌<◌, length, get_or}
use Rattle.mono_graph.specs.Digraph.{present}
use Rattle.mono_bounds.proofs.index.set_all.Given as goal

abbrev pub invariant-loop-i : goal.invariant-loop-i
invariant-loop-i l = record {
  size : length l.part ≡ length l.initial.part;
  done : (i : ℕ) → i < l.i → present l.part (get_or l.places i 0) ≡ l.on;
  others : (k : ℕ) → ((i : ℕ) → i < l.i → get_or l.places i 0 ≢ k) → present l.part k ≡ present l.initial.part k;
}
