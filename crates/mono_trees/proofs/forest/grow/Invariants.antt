use Rattle.mono_trees.proofs.Going.{IsGrowing}
use Rattle.mono_trees.proofs.forest.grow.Given as goal

abbrev pub invariant-loop-place : goal.invariant-loop-place
invariant-loop-place l = IsGrowing l.graph l.part l.order l.place-index l.heaviest l.chosen.items l.components
