use Rattle.std.proofs.Common.{ℕ, ◌≡◌, ◌<◌, ◌-◌, List, false, length, sym, ap, subst, ◌∙◌, arith}
use Rattle.mono_dynamic.specs.declared.arrival.Arrival.{Arrival}
use Rattle.mono_dynamic.specs.Arrivals.{arrival_at, is_reached}
use Rattle.mono_dynamic.proofs.SearchTrees.{IsGoing, going_more, behind}
use Rattle.mono_dynamic.proofs.tree_search.way_back.Goals as goal

pub loop-at-preserved : goal.loop-at-preserved
loop-at-preserved c =
    let xs : List Arrival = c.args.found.now.arrivals in
    let going = c.loop-at.invariant.going in
    let some = going.back.some in
    let low : c.loop-at.at < length xs = subst (λ (p : ℕ). p < length xs) going.here (going.back.known (length c.loop-at.way.items - 1) (omega arith)) in
    let none : is_reached c.args.tree.now.arrivals (arrival_at xs c.loop-at.at).node ≡ false =
    subst (λ (v : ℕ). is_reached c.args.tree.now.arrivals v ≡ false) c.node_at.ensures.node (sym c.has.ensures.reached ∙ c.loop-at-test.true) in
    let node : c.arrival-at.result.node ≡ (arrival_at xs c.loop-at.at).node = ap (λ (a : Arrival). a.node) c.arrival-at.ensures.arrival in
    let pos : 0 < c.loop-at.at = behind c.args.tree.now.arrivals c.args.tree.now.source (arrival_at xs c.loop-at.at).node c.loop-at.at c.has.ensures.source none
    (λ e. sym node ∙ (c.arrival-at.ensures.source e ∙ c.requires.source)) in
    record {
      going = subst (λ (ks : List ℕ). IsGoing xs c.args.tree.now.arrivals c.args.last c.arrival-at.result.before ks) (sym c.push_reserved-in-loop-at.ensures.items)
          (going_more xs c.args.tree.now.arrivals c.args.last c.loop-at.at c.arrival-at.result.before c.loop-at.way.items going (sym (ap (λ (a : Arrival). a.before) c.arrival-at.ensures.arrival)) (c.arrival-at.ensures.before pos) low none);
      room = c.push_reserved-in-loop-at.ensures.capacity ∙ c.loop-at.invariant.room;
    }
