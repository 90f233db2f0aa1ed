use Rattle.std.proofs.Common.{◌≡◌, ◌<◌, Bool, false, true, sym, ap, ◌∙◌, subst, arith}
use Rattle.std.proofs.lemmas.List.{get_or_read}
use Rattle.std.proofs.lemmas.Result.{IfOk-weaker}
use Rattle.mono_flows.specs.declared.visit.Visit.{Visit}
use Rattle.mono_flows.specs.Residual.{amount_of}
use Rattle.mono_flows.specs.Visits.{visit_at, first_visit, GoesOn, CameTo, IsExpanded}
use Rattle.mono_flows.proofs.Expand.{Covers}
use Rattle.mono_flows.proofs.Searches.{places_from, places_to, both_ways_expanded, continues_twice, came_later, if_ok_both}
use Rattle.mono_flows.proofs.search.AugmentingSearch.expand_node.Goals as goal

pub expand-requires-clause-places : goal.expand-requires-clause-places
expand-requires-clause-places c =
    let read : c.index.result.now ≡ visit_at c.args.self.now.visits.items c.args.at = get_or_read c.args.self.now.visits.items c.args.at c.index.result.now (omega arith) c.index.ensures (first_visit 0 0) in
    places_from c.args.network.now.graph.now c.index.result.now.node (visit_at c.args.self.now.visits.items c.args.at).node c.leaving.result.now (ap (λ (v : Visit). v.node) read) c.leaving.ensures.places

pub entering-requires : goal.entering-requires
entering-requires c =
    let read : c.index.result.now ≡ visit_at c.args.self.now.visits.items c.args.at = get_or_read c.args.self.now.visits.items c.args.at c.index.result.now (omega arith) c.index.ensures (first_visit 0 0) in
    subst (λ (v : Visit). v.node < c.args.network.now.graph.now.nodes) (sym read) (c.requires.tree.nodes c.args.at (omega arith))

pub expand-requires-2-clause-places : goal.expand-requires-2-clause-places
expand-requires-2-clause-places c =
    let read : c.index.result.now ≡ visit_at c.args.self.now.visits.items c.args.at = get_or_read c.args.self.now.visits.items c.args.at c.index.result.now (omega arith) c.index.ensures (first_visit 0 0) in
    let still : visit_at c.expand.new.self.visits.items c.args.at ≡ visit_at c.args.self.now.visits.items c.args.at = c.in_ok-expand.ensures.goes_on.extends.same c.args.at (omega arith) in
    places_to c.args.network.now.graph.now c.index.result.now.node (visit_at c.expand.new.self.visits.items c.args.at).node c.entering.result.now (ap (λ (v : Visit). v.node) (read ∙ sym still)) c.entering.ensures.places

pub returns-clause-covers : goal.returns-clause-covers
returns-clause-covers c =
    let n = c.args.network.now in
    let read : c.index.result.now ≡ visit_at c.args.self.now.visits.items c.args.at = get_or_read c.args.self.now.visits.items c.args.at c.index.result.now (omega arith) c.index.ensures (first_visit 0 0) in
    if_ok_both c.expand-2.result
    (λ (found : Bool). found ≡ false → Covers n.graph.now n.part.now (amount_of c.args.amounts.now) true c.expand-2.new.self.marks.items c.entering.result.now)
    (λ (found : Bool). GoesOn n c.args.amounts.now c.expand.new.self c.expand-2.new.self)
    (λ (found : Bool). found ≡ false → IsExpanded n.graph.now n.part.now (amount_of c.args.amounts.now) (visit_at c.args.self.now.visits.items c.args.at).node c.expand-2.new.self.marks.items)
    c.expand-2.ensures.covers c.expand-2.ensures.goes_on
    (λ found covers goes_on going. both_ways_expanded n.graph.now n.part.now (amount_of c.args.amounts.now) c.index.result.now.node (visit_at c.args.self.now.visits.items c.args.at).node
    c.leaving.result.now c.entering.result.now c.expand.new.self.marks.items c.expand-2.new.self.marks.items (ap (λ (v : Visit). v.node) read) c.leaving.ensures.places c.entering.ensures.places
    (c.in_ok-expand.ensures.covers c.if-branch.false) goes_on.extends.kept (covers going))

pub returns-clause-goes_on : goal.returns-clause-goes_on
returns-clause-goes_on c =
    let n = c.args.network.now in
    IfOk-weaker c.expand-2.result (λ found. GoesOn n c.args.amounts.now c.expand.new.self c.expand-2.new.self) (λ found. GoesOn n c.args.amounts.now c.args.self.now c.expand-2.new.self)
    (λ found again. continues_twice c.in_ok-expand.ensures.goes_on again) c.expand-2.ensures.goes_on

pub returns-clause-came : goal.returns-clause-came
returns-clause-came c =
    let sink = c.args.network.now.sink in
    IfOk-weaker c.expand-2.result (λ found. CameTo sink c.expand.new.self c.expand-2.new.self found) (λ found. CameTo sink c.args.self.now c.expand-2.new.self found)
    (λ found later. came_later sink c.args.self.now c.expand.new.self c.expand-2.new.self _ found c.in_ok-expand.ensures.came c.if-branch.false later) c.expand-2.ensures.came
