use Rattle.std.proofs.Common.{◌≡◌, ℕ, List, length, take}
use Rattle.std.specs.Prelude.{IsTrue}
use Rattle.mono_graph.specs.Digraph.{has}
use Rattle.mono_theory.specs.Watching.{AreInvalidated, NoneStandsOn}
use Rattle.mono_theory.proofs.invalidation.invalidate_at.Given as goal

abbrev pub invariant-loop-watch : goal.invariant-loop-watch
invariant-loop-watch l = record {
  count : length l.stages ≡ length l.supports;
  fewer : (ks : List ℕ) → IsTrue (has ks l.edge) → AreInvalidated l.supports ks l.initial.stages l.stages;
  none : NoneStandsOn l.supports l.stages (take l.watch-index l.watches) l.edge;
}
