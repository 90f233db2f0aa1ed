use Rattle.std.proofs.Common.{◌≡◌, ◌∷◌, ◌++◌, List, true, [], set, sym, ap, ◌∙◌, subst, refl, arith}
use Rattle.mono_flows.specs.declared.visit.Visit.{Visit}
use Rattle.mono_flows.specs.Residual.{amount_of}
use Rattle.mono_flows.specs.Visits.{first_visit}
use Rattle.mono_flows.proofs.Searches.{Searching, IsSpread, searching, spread_first, spread_more, search_more, search_of}
use Rattle.mono_flows.proofs.search.AugmentingSearch.find_path.Goals as goal

pub loop-head-init : goal.loop-head-init
loop-head-init c =
    let n = c.args.network.now in
    let visits : first_visit n.source c.args.most ∷ [] ≡ c.push.new.self.items =
    sym (c.in_ok-push.ensures.items ∙ (ap (λ (vs : List Visit). vs ++ c.first.result ∷ []) c.clear.ensures.visits ∙ ap (λ (v : Visit). v ∷ []) c.first.ensures)) in
    record {
      searching =
          subst (λ (vs : List Visit). Searching n.graph.now n.part.now (amount_of c.args.amounts.now) n.source n.sink c.args.most (set c.clear.new.self.marks.items n.source true) vs) visits
          (searching n.graph.now n.part.now (amount_of c.args.amounts.now) n.source n.sink c.args.most c.clear.new.self.marks.items (c.clear.ensures.len ∙ c.requires.search.len) c.clear.ensures.clear n.source_in_graph c.requires.apart c.requires.most);
      spread =
          subst (λ (vs : List Visit). IsSpread n.graph.now n.part.now (amount_of c.args.amounts.now) (set c.clear.new.self.marks.items n.source true) vs 0) visits
          (spread_first n.graph.now n.part.now (amount_of c.args.amounts.now) n.source c.args.most c.clear.new.self.marks.items c.clear.ensures.clear);
    }

pub loop-head-preserved : goal.loop-head-preserved
loop-head-preserved c =
    let n = c.args.network.now in
    let e = c.in_ok-expand_node.ensures in
    let going = c.if-branch.false in
    let x = c.loop-head.invariant.searching in
    record {
      searching =
          search_more n.graph.now n.part.now (amount_of c.args.amounts.now) n.source n.sink c.args.most c.loop-head.self.marks.items c.expand_node.new.self.marks.items c.loop-head.self.visits.items c.expand_node.new.self.visits.items
          x e.goes_on.tree e.goes_on.marks e.goes_on.extends (e.came.away going x.away);
      spread =
          spread_more n.graph.now n.part.now (amount_of c.args.amounts.now) c.loop-head.self.marks.items c.expand_node.new.self.marks.items c.loop-head.self.visits.items c.expand_node.new.self.visits.items c.loop-head.head
          (omega arith) x.ok e.goes_on.marks e.goes_on.extends (e.covers going) c.loop-head.invariant.spread;
    }

pub returns-clause-search : goal.returns-clause-search
returns-clause-search c = search_of _ _ _ refl refl c.loop-head.invariant.searching.tree c.loop-head.invariant.searching.ok
