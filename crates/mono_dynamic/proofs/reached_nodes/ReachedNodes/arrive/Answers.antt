use Rattle.std.proofs.Common.{ℕ, ◌≡◌, ◌<◌, ◌≤◌, true, false, List, length, set, refl, sym, subst, arith}
use Rattle.std.specs.Prelude.{All, IsTrue, vec_capacity}
use Rattle.mono_dynamic.specs.declared.arrival.Arrival.{Arrival}
use Rattle.mono_dynamic.specs.Arrivals.{arrival_at, is_reached}
use Rattle.mono_dynamic.specs.Reached.{Reached, IsKept}
use Rattle.mono_dynamic.proofs.Listed.{room_left, kept_push, reached_here}
use Rattle.mono_dynamic.proofs.reached_nodes.ReachedNodes.arrive.Goals as goal

pub add-requires-clause-room : goal.add-requires-clause-room
add-requires-clause-room c =
    let lt : c.args.arrival.node < length c.self.inside.positions.items = subst (λ (r : Reached). c.args.arrival.node < r.nodes) (sym c.self.view_is) c.requires.node in
    let none : is_reached c.self.inside.arrivals.items c.args.arrival.node ≡ false = subst (λ (xs : List Arrival). is_reached xs c.args.arrival.node ≡ false) c.deref-2.ensures.value c.in-None.ensures in
    let room = room_left c.self.inside.positions.items c.self.inside.arrivals.items c.args.arrival.node c.self.invariant.placed lt none in
    let roomy = c.self.invariant.roomy in
    omega arith

pub add-requires-clause-few : goal.add-requires-clause-few
add-requires-clause-few c =
    let lt : c.args.arrival.node < length c.self.inside.positions.items = subst (λ (r : Reached). c.args.arrival.node < r.nodes) (sym c.self.view_is) c.requires.node in
    let none : is_reached c.self.inside.arrivals.items c.args.arrival.node ≡ false = subst (λ (xs : List Arrival). is_reached xs c.args.arrival.node ≡ false) c.deref-2.ensures.value c.in-None.ensures in
    let room = room_left c.self.inside.positions.items c.self.inside.arrivals.items c.args.arrival.node c.self.invariant.placed lt none in
    let few = c.self.invariant.few in
    omega arith

pub invariant_of-self : goal.invariant_of-self
invariant_of-self c =
    let lt : c.args.arrival.node < length c.self.inside.positions.items = subst (λ (r : Reached). c.args.arrival.node < r.nodes) (sym c.self.view_is) c.requires.node in
    let before : c.args.arrival.before < length c.self.inside.arrivals.items = subst (λ (r : Reached). c.args.arrival.before < length r.arrivals) (sym c.self.view_is) c.requires.before in
    let stamps : All (λ (a : Arrival). a.stamp ≤ c.args.arrival.stamp) c.self.inside.arrivals.items = subst (λ (r : Reached). All (λ (a : Arrival). a.stamp ≤ c.args.arrival.stamp) r.arrivals) (sym c.self.view_is) c.requires.stamps in
    let none : is_reached c.self.inside.arrivals.items c.args.arrival.node ≡ false = subst (λ (xs : List Arrival). is_reached xs c.args.arrival.node ≡ false) c.deref-2.ensures.value c.in-None.ensures in
    subst (λ (ps : List ℕ). IsKept c.self.inside.source ps c.add.new.arrivals.items (vec_capacity c.add.new.arrivals)) (sym c.add.ensures.positions)
    (subst (λ (xs : List Arrival). IsKept c.self.inside.source (set c.self.inside.positions.items c.args.arrival.node (length c.self.inside.arrivals.items)) xs (vec_capacity c.add.new.arrivals)) (sym c.add.ensures.arrivals)
    (kept_push c.self.inside.source c.self.inside.positions.items c.self.inside.arrivals.items (vec_capacity c.self.inside.arrivals) (vec_capacity c.add.new.arrivals) c.args.arrival c.self.invariant c.add.ensures.capacity lt none before stamps))

pub returns-in-Some : goal.returns-in-Some
returns-in-Some c =
    let found = subst (λ (xs : List Arrival). (c.in-Some.field-0 < length xs) × ((arrival_at xs c.in-Some.field-0).node ≡ c.args.arrival.node)) c.deref-2.ensures.value c.in-Some.ensures in
    let there : is_reached c.args.self.now.arrivals c.args.arrival.node ≡ true = subst (λ (r : Reached). IsTrue (is_reached r.arrivals c.args.arrival.node)) c.self.view_is
    (subst (λ (v : ℕ). IsTrue (is_reached c.self.inside.arrivals.items v)) found.1 (reached_here c.self.inside.arrivals.items c.in-Some.field-0 found.0)) in
    rw there refl
