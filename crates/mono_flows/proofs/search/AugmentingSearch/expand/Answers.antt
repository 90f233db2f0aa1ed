use Rattle.std.proofs.Common.{◌<◌, ◌+◌, ◌++◌, ◌∷◌, [], ℕ, List, Bool, true, get_or, set, take, sym, ap, ◌∙◌, subst, refl, arith}
use Rattle.mono_flows.specs.declared.search.AugmentingSearch.{AugmentingSearch}
use Rattle.mono_flows.specs.declared.visit.Visit.{Visit}
use Rattle.mono_flows.specs.Residual.{amount_of}
use Rattle.mono_flows.specs.Visits.{Continues}
use Rattle.mono_flows.proofs.Searches.{search_of}
use Rattle.mono_flows.proofs.Expand.{Expanding, arrived, next_visited, next_passed}
use Rattle.mono_flows.proofs.search.AugmentingSearch.expand.Goals as goal
use Rattle.mono_flows.proofs.search.AugmentingSearch.expand.Goals.{in-Some+in_ok-push+else-visit-network, in_default}

came : (c : goal.Then-visit-network) → Continues c.args.network.now.graph.now c.args.network.now.part.now (amount_of c.args.amounts.now) c.args.self.now.marks.items (set c.loop-place.self.marks.items c.in-Some.visit.node true) c.args.self.now.visits.items (c.loop-place.self.visits.items ++ c.in-Some.visit ∷ [])
came c =
    let k : ℕ = get_or c.args.places.now c.loop-place.place-index 0 in
    let here = c.requires.places c.loop-place.place-index 0 c.loop-place-test.true in
    arrived c.args.network.now.graph.now c.args.network.now.part.now (amount_of c.args.amounts.now) c.args.self.now.marks.items c.loop-place.self.marks.items c.loop-place.self.marks.items c.args.self.now.visits.items c.loop-place.self.visits.items c.loop-place.self.visits.items
    c.args.at k c.args.back c.in-Some.visit refl refl c.in-Some.ensures.visit (omega arith) here.0 here.1
    c.in-Some.ensures.residual c.in-Some.ensures.inside c.in-Some.ensures.new c.loop-place.invariant.visiting

pub returns-then-visit-network-clause-goes_on : goal.returns-then-visit-network-clause-goes_on
returns-then-visit-network-clause-goes_on c = rw c.in_ok-push.ensures.items (came c)

pub loop-place-preserved : goal.loop-place-preserved
loop-place-preserved c =
    let k : ℕ = get_or c.args.places.now c.loop-place.place-index 0 in
    let here = c.requires.places c.loop-place.place-index 0 c.loop-place-test.true in
    elim c.match-visit_by.branch [
      | in-Some+in_ok-push+else-visit-network w ↦
          next_visited c.args.network.now.graph.now c.args.network.now.part.now (amount_of c.args.amounts.now) c.args.network.now.sink c.args.self.now.marks.items c.loop-place.self.marks.items c.match-visit_by.self.marks.items
          c.args.self.now.visits.items c.loop-place.self.visits.items c.match-visit_by.self.visits.items c.args.back c.args.places.now c.loop-place.place-index k w.in-Some.visit
          c.loop-place-test.true refl c.loop-place.invariant
          (ap (λ (v : Visit). v.node) w.in-Some.ensures.visit) (subst (λ (v : Visit). v.node < c.args.network.now.graph.now.nodes) (sym w.in-Some.ensures.visit) w.in-Some.ensures.inside) w.if-visit-network.false
          (arrived c.args.network.now.graph.now c.args.network.now.part.now (amount_of c.args.amounts.now) c.args.self.now.marks.items c.loop-place.self.marks.items c.loop-place.self.marks.items c.args.self.now.visits.items c.loop-place.self.visits.items c.loop-place.self.visits.items
          c.args.at k c.args.back w.in-Some.visit refl refl w.in-Some.ensures.visit (omega arith) here.0 here.1
          w.in-Some.ensures.residual w.in-Some.ensures.inside w.in-Some.ensures.new c.loop-place.invariant.visiting)
          (ap (λ (x : AugmentingSearch). x.marks.items) w.self-is) (ap (λ (x : AugmentingSearch). x.visits.items) w.self-is ∙ w.in_ok-push.ensures.items)
      | in_default w ↦
          subst (λ (ms : List Bool). Expanding c.args.network.now.graph.now c.args.network.now.part.now (amount_of c.args.amounts.now) c.args.network.now.sink c.args.self.now.marks.items ms c.args.self.now.visits.items c.match-visit_by.self.visits.items c.args.back (take (c.loop-place.place-index + 1) c.args.places.now)) (sym (ap (λ (x : AugmentingSearch). x.marks.items) w.self-is))
          (subst (λ (us : List Visit). Expanding c.args.network.now.graph.now c.args.network.now.part.now (amount_of c.args.amounts.now) c.args.network.now.sink c.args.self.now.marks.items c.loop-place.self.marks.items c.args.self.now.visits.items us c.args.back (take (c.loop-place.place-index + 1) c.args.places.now)) (sym (ap (λ (x : AugmentingSearch). x.visits.items) w.self-is))
          (next_passed c.args.network.now.graph.now c.args.network.now.part.now (amount_of c.args.amounts.now) c.args.network.now.sink c.args.self.now.marks.items c.loop-place.self.marks.items c.args.self.now.visits.items c.loop-place.self.visits.items c.args.back c.args.places.now c.loop-place.place-index k
          c.loop-place-test.true refl c.loop-place.invariant w.in_default.ensures.none))
    ]

pub returns-then-visit-network-clause-search : goal.returns-then-visit-network-clause-search
returns-then-visit-network-clause-search c = search_of _ _ _ refl c.in_ok-push.ensures.items (came c).tree (came c).marks

pub returns-in_err-push-clause-search : goal.returns-in_err-push-clause-search
returns-in_err-push-clause-search c = search_of _ _ _ refl c.in_err-push.ensures.items c.loop-place.invariant.visiting.tree c.loop-place.invariant.visiting.marks

pub returns-clause-search : goal.returns-clause-search
returns-clause-search c = search_of _ _ _ refl refl c.loop-place.invariant.visiting.tree c.loop-place.invariant.visiting.marks
