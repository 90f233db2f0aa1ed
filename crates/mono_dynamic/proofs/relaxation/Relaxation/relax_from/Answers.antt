use Rattle.std.proofs.Common.{◌≡◌, ◌<◌, ◌∷◌, [], suc, length, arith}
use Rattle.std.specs.BinaryHeap.{heap_items}
use Rattle.std.proofs.lemmas.List.Sorted.{All-permutation, length_permutation}
use Rattle.mono_dynamic.specs.declared.waiting.Waiting.{Waiting}
use Rattle.mono_dynamic.proofs.CostLists.{later_row, later_trans}
use Rattle.mono_dynamic.proofs.Tight.{relaxed_popped}
use Rattle.mono_dynamic.proofs.relaxation.Relaxation.relax_from.Goals as goal

pub expand-requires-clause-row : goal.expand-requires-clause-row
expand-requires-clause-row c = later_row c.args.step.now.graph.now.nodes c.args.step.now.stamp c.args.self.now.table c.loop-next.self.table c.loop-next.invariant.later c.requires.row

pub loop-next-preserved : goal.loop-next-preserved
loop-next-preserved c =
    let fewer : suc (length (heap_items c.pop.new.self)) ≡ length (heap_items c.loop-next.self.queue) = length_permutation (heap_items c.loop-next.self.queue) (c.in-Some.next ∷ heap_items c.pop.new.self) c.in-Some.ensures.permutation in
    record {
      later = later_trans c.args.step.now.stamp c.args.self.now.table c.loop-next.self.table c.expand.new.self.table c.loop-next.invariant.later c.in_ok-expand.ensures.later;
      inside = c.in_ok-expand.ensures.relaxed.inside (λ i d lt.
          All-permutation (λ (e : Waiting). e.node < c.args.step.now.graph.now.nodes) (heap_items c.loop-next.self.queue) (c.in-Some.next ∷ heap_items c.pop.new.self) c.in-Some.ensures.permutation c.loop-next.invariant.inside (suc i) d (omega arith));
      relaxed =
          relaxed_popped c.args.step.now.graph.now c.args.step.now.part.now c.args.places.now c.args.self.now.table c.loop-next.self.table c.expand.new.self.table c.in-Some.next [] [] (heap_items c.loop-next.self.queue) (heap_items c.pop.new.self)
          (heap_items c.expand.new.self.queue) c.loop-next.invariant.later.limit c.loop-next.invariant.later.cap c.loop-next.invariant.relaxed c.in-Some.ensures.permutation c.in_ok-expand.ensures.relaxed;
    }

pub returns-in_err-expand-clause-later : goal.returns-in_err-expand-clause-later
returns-in_err-expand-clause-later c = later_trans c.args.step.now.stamp c.args.self.now.table c.loop-next.self.table c.expand.new.self.table c.loop-next.invariant.later c.in_err-expand.ensures.later

pub loop-next-smaller : goal.loop-next-smaller
loop-next-smaller c =
    let fewer : suc (length (heap_items c.pop.new.self)) ≡ length (heap_items c.loop-next.self.queue) = length_permutation (heap_items c.loop-next.self.queue) (c.in-Some.next ∷ heap_items c.pop.new.self) c.in-Some.ensures.permutation in
    omega (arith, fewer, c.in_ok-expand.ensures.relaxed.work)
