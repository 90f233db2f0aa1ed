use Rattle.std.proofs.Common.{◌≡◌, ℕ, ◌+◌, ◌∷◌, List, drop, get_or, sym, subst}
use Rattle.std.specs.BinaryHeap.{heap_items}
use Rattle.std.proofs.lemmas.List.{drop_more, drop_all}
use Rattle.mono_dynamic.specs.Costs.{AreRelaxed}
use Rattle.mono_dynamic.proofs.CostLists.{later_none, later_row, later_trans}
use Rattle.mono_dynamic.proofs.Tight.{relaxed_none, relaxed_trans}
use Rattle.mono_dynamic.proofs.relaxation.Relaxation.relax_all.Goals as goal

pub loop-place-init : goal.loop-place-init
loop-place-init c = record {
  later = later_none c.args.step.now.stamp c.args.self.now.table;
  relaxed = relaxed_none c.args.step.now.graph.now c.args.step.now.part.now c.args.places.now c.args.self.now.table (heap_items c.args.self.now.queue);
}

pub relax-requires-clause-row : goal.relax-requires-clause-row
relax-requires-clause-row c = later_row c.args.step.now.graph.now.nodes c.args.step.now.stamp c.args.self.now.table c.loop-place.self.table c.loop-place.invariant.later c.requires.row

pub loop-place-preserved : goal.loop-place-preserved
loop-place-preserved c =
    let i : ℕ = c.loop-place.place-index in
    let rest : List ℕ = drop (i + 1) c.args.places.now in
    let front : drop i c.args.places.now ≡ get_or c.args.places.now i 0 ∷ rest = drop_more c.args.places.now i 0 c.loop-place-test.true in
    record {
      later = later_trans c.args.step.now.stamp c.args.self.now.table c.loop-place.self.table c.relax.new.self.table c.loop-place.invariant.later c.in_ok-relax.ensures.later;
      relaxed =
          relaxed_trans c.args.step.now.graph.now c.args.step.now.part.now c.args.places.now (drop i c.args.places.now) rest c.args.self.now.table c.loop-place.self.table c.relax.new.self.table
          (heap_items c.args.self.now.queue) (heap_items c.args.self.now.queue) (heap_items c.loop-place.self.queue) (heap_items c.relax.new.self.queue)
          c.loop-place.invariant.later.limit c.loop-place.invariant.later.cap c.loop-place.invariant.relaxed
          (subst (λ (ks : List ℕ). AreRelaxed c.args.step.now.graph.now c.args.step.now.part.now ks rest c.loop-place.self.table c.relax.new.self.table (heap_items c.loop-place.self.queue) (heap_items c.loop-place.self.queue) (heap_items c.relax.new.self.queue)) (sym front)
          (c.in_ok-relax.ensures.relaxed rest));
    }

pub returns : goal.returns
returns c = record {
  later = c.loop-place.invariant.later;
  relaxed =
      subst (λ (ks : List ℕ). AreRelaxed c.args.step.now.graph.now c.args.step.now.part.now c.args.places.now ks c.args.self.now.table c.loop-place.self.table (heap_items c.args.self.now.queue) (heap_items c.args.self.now.queue) (heap_items c.loop-place.self.queue))
      (drop_all c.loop-place.place-index c.args.places.now c.loop-place-test.false) c.loop-place.invariant.relaxed;
}

pub returns-in_err-relax-clause-later : goal.returns-in_err-relax-clause-later
returns-in_err-relax-clause-later c = later_trans c.args.step.now.stamp c.args.self.now.table c.loop-place.self.table c.relax.new.self.table c.loop-place.invariant.later c.in_err-relax.ensures.later
