use Rattle.std.proofs.Common.{ℕ, ◌<◌, Bool, List, get_or}
use Rattle.mono_dynamic.specs.Arrivals.{IsTree}
use Rattle.mono_dynamic.specs.SearchTrees.{RestsOn}
use Rattle.mono_dynamic.proofs.reached_targets.rests_on_any.Given as goal

abbrev pub invariant-loop-place : goal.invariant-loop-place
invariant-loop-place l = (P : List Bool) (j : ℕ) → IsTree l.graph P l.tree.tree.source l.tree.tree.arrivals → j < l.place-index → RestsOn l.tree.tree.arrivals (get_or l.places j 0) → ⊥
