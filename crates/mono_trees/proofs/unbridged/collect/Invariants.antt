use Rattle.mono_trees.proofs.Collecting.{IsCollecting}
use Rattle.mono_trees.proofs.unbridged.collect.Given as goal

abbrev pub invariant-loop-place : goal.invariant-loop-place
invariant-loop-place l = IsCollecting l.graph l.part l.tree l.order l.place-index l.at l.heaviest l.edges.items l.components
