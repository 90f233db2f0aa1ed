use Rattle.std.proofs.Common.{◌+◌, ◌<◌, [], sum, length}
use Rattle.std.specs.Prelude.{All}
use Rattle.std.specs.BinaryHeap.{heap_items}
use Rattle.mono_dynamic.specs.Costs.{IsLater, AreRelaxed}
use Rattle.mono_dynamic.proofs.relaxation.Relaxation.relax_from.Given as goal

abbrev pub invariant-loop-next : goal.invariant-loop-next
invariant-loop-next l = record {
  later : IsLater l.step.stamp l.fn.self.table l.self.table;
  inside : All (λ e. e.node < l.step.graph.now.nodes) (heap_items l.self.queue);
  relaxed : AreRelaxed l.step.graph.now l.step.part.now l.places [] l.fn.self.table l.self.table [] [] (heap_items l.self.queue);
}

abbrev pub decreases-loop-next : goal.decreases-loop-next
decreases-loop-next l = sum l.self.table.labels + length (heap_items l.self.queue)
