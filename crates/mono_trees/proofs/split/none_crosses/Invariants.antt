use Rattle.std.proofs.Common.{not, take}
use Rattle.std.specs.Prelude.{IsTrue}
use Rattle.std.specs.List.{list_all}
use Rattle.mono_trees.specs.Crossing.{crosses_by}
use Rattle.mono_trees.proofs.split.none_crosses.Given as goal

abbrev pub invariant-loop-place : goal.invariant-loop-place
invariant-loop-place l = IsTrue (list_all (λ k. not (crosses_by l.inside l.graph l.part k)) (take l.place-index l.places))
