use Rattle.std.proofs.Common.{arith, ◌+◌, ◌-◌, length}
use Rattle.mono_trail.proofs.Heaps.{index_inside, waits_already, inserted, heap_is}
use Rattle.mono_trail.proofs.heap.Heap.insert.Goals as goal

pub returns-then-place-self : goal.returns-then-place-self
returns-then-place-self c =
    let in_range = rw (← c.self.view_is) at c.requires in
    let heap = c.self.invariant in
    rw (← c.self.view_is) (waits_already c.self.inside.ranking.places c.self.inside.count (c.args.var - 1) c.place-place.result (omega (arith, index_inside c.args.var heap in_range, heap.inverse.as_many)) c.place-place.ensures.value c.if-place-self.true)

pub invariant_of-self : goal.invariant_of-self
invariant_of-self c =
    heap_is c.self.inside.ranking c.sift_up.new.ranking c.self.inside.count (c.self.inside.count + 1) (length c.self.inside.activities.items) c.self.invariant c.sift_up.ensures.inverse (omega (arith, c.sift_up.ensures.as_many, c.exchange.ensures.as_many)) (omega (arith, c.place-place.ensures.within, c.if-place-self.false))

pub returns : goal.returns
returns c =
    let in_range = rw (← c.self.view_is) at c.requires in
    rw (← c.self.view_is) (inserted c.self.inside.ranking.items c.self.inside.ranking.places c.exchange.new.ranking.items c.exchange.new.ranking.places c.sift_up.new.ranking.places c.self.inside.count (c.args.var - 1) c.place-place.result
    c.self.invariant.inverse (index_inside c.args.var c.self.invariant in_range) c.place-place.ensures.value c.if-place-self.false
    c.exchange.ensures.inverse c.exchange.ensures.as_many c.exchange.ensures.moved c.exchange.ensures.waits c.sift_up.ensures.waits)
