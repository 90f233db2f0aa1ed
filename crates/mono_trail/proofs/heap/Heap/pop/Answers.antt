use Rattle.std.proofs.Common.{arith, ◌≡◌, ◌+◌, ◌-◌, ◌<◌, ℕ, false, length, ap, ◌∙◌, sym, refl, add-one}
use Rattle.std.specs.Prelude.{replicate, IsTrue, nat_lt}
use Rattle.std.proofs.lemmas.List.{length-map}
use Rattle.mono_base.specs.Literal.{value_in}
use Rattle.mono_trail.specs.Heap.{waits_of}
use Rattle.mono_trail.proofs.Heaps.{none_wait, popped, LeavesHeap}
use Rattle.mono_trail.proofs.heap.Heap.pop.Goals as goal
use Rattle.mono_trail.proofs.heap.Heap.pop.Goals.{After-sift_down}

pub returns-then-self-eq0-clause-none : goal.returns-then-self-eq0-clause-none
returns-then-self-eq0-clause-none c =
    let places = c.self.inside.ranking.places in
    (refl, rw (← c.self.view_is) (ap (λ (n : ℕ). waits_of n places) c.if-self-eq0.true ∙ none_wait places ∙ ap (λ (n : ℕ). replicate n false) (sym (length-map places (λ p. nat_lt p c.self.inside.count)))))

leaves : (c : After-sift_down) → LeavesHeap c.self.inside.ranking.places c.self.inside.count c.item-index.result (waits_of (c.self.inside.count - 1) c.sift_down.new.ranking.places)
leaves c =
    popped c.self.inside.ranking.items c.self.inside.ranking.places c.exchange.new.ranking.items c.exchange.new.ranking.places c.sift_down.new.ranking.places c.self.inside.count c.item-index.result
    c.self.invariant.inverse (omega (arith, c.if-self-eq0.false)) c.self.invariant.within
    c.exchange.ensures.inverse c.exchange.ensures.as_many c.exchange.ensures.moved c.exchange.ensures.waits c.item-index.ensures.value c.sift_down.ensures.waits

pub overflow_add-result : goal.overflow_add-result
overflow_add-result c =
    let after : After-sift_down = (goal.at.overflow_add-result c).After-sift_down in
    omega (arith, (leaves after).inside, c.self.invariant.inverse.as_many, c.self.invariant.few)

pub returns-clause-some : goal.returns-clause-some
returns-clause-some c =
    let after : After-sift_down = (goal.at.returns-clause-some c).After-sift_down in
    let gone = leaves after in
    let index = c.item-index.result in
    let places = c.self.inside.ranking.places in
    let high : index < length (waits_of c.self.inside.count places) = omega (arith, gone.inside, length-map places (λ p. nat_lt p c.self.inside.count)) in
    let waited : IsTrue (value_in (waits_of c.self.inside.count places) (index + 1)) = rw add-one gone.waited in
    let back : index + 1 - 1 ≡ index = omega arith in
    rw (← c.self.view_is, back) ((omega arith, omega (arith, high)), waited, gone.left)
