use Rattle.std.proofs.Common.{drop}
use Rattle.std.specs.BinaryHeap.{heap_items}
use Rattle.mono_dynamic.specs.Costs.{IsLater, AreRelaxed}
use Rattle.mono_dynamic.proofs.relaxation.Relaxation.relax_all.Given as goal

abbrev pub invariant-loop-place : goal.invariant-loop-place
invariant-loop-place l = record {
  later : IsLater l.step.stamp l.fn.self.table l.self.table;
  relaxed : AreRelaxed l.step.graph.now l.step.part.now l.places (drop l.place-index l.places) l.fn.self.table l.self.table (heap_items l.fn.self.queue) (heap_items l.fn.self.queue) (heap_items l.self.queue);
}
