use Rattle.std.proofs.Common.{◌≡◌, ℕ, length, take}
use Rattle.std.specs.Prelude.{IsTrue}
use Rattle.mono_graph.specs.Digraph.{has}
use Rattle.mono_theory.specs.Watching.{AreInvalidated, NoneStandsOn, watching}
use Rattle.mono_theory.proofs.invalidation.invalidate.Given as goal

abbrev pub invariant-loop-edge : goal.invariant-loop-edge
invariant-loop-edge l = record {
  count : length l.stages ≡ length l.supports;
  fewer : AreInvalidated l.supports l.edges l.initial.stages l.stages;
  none : (k : ℕ) → IsTrue (has (take l.edge-index l.edges) k) → NoneStandsOn l.supports l.stages (watching l.watchers k) k;
}
