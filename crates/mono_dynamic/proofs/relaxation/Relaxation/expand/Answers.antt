use Rattle.std.specs.BinaryHeap.{heap_items}
use Rattle.mono_dynamic.proofs.Tight.{relaxed_node}
use Rattle.mono_dynamic.proofs.relaxation.Relaxation.expand.Goals as goal

pub returns-clause-relaxed : goal.returns-clause-relaxed
returns-clause-relaxed c =
    relaxed_node c.args.step.now.graph.now c.args.step.now.part.now c.args.self.now.table c.relax_all.new.self.table c.args.next (heap_items c.args.self.now.queue) (heap_items c.relax_all.new.self.queue) c.leaving.result.now
    c.leaving.ensures.places c.in_ok-relax_all.ensures.relaxed
