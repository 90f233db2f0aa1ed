use Rattle.std.proofs.Common.{◌≡◌, ◌<◌, ◌++◌, ◌∷◌, [], ℕ, List, length, get_or, sym, ap, subst, ◌∙◌, arith}
use Rattle.std.proofs.lemmas.List.{get_or_read}
use Rattle.mono_graph.specs.Digraph.{edge_at}
use Rattle.mono_graph.specs.declared.edge.Edge.{Edge}
use Rattle.mono_graph.specs.Cycles.{rank_in}
use Rattle.mono_graph.proofs.Pigeons.{all_has}
use Rattle.mono_cycles.proofs.Found.{IsWayOn, way_on, way_more, way_room, way_short}
use Rattle.mono_cycles.proofs.behind.Behind.walk_on.Goals as goal

pub push_reserved-requires : goal.push_reserved-requires
push_reserved-requires c =
    let s = c.args.self.now in
    let i = c.loop-at.invariant in
    let first : c.index-first.result.now ≡ get_or s.nodes.items 0 0 = get_or_read s.nodes.items 0 c.index-first.result.now c.requires.behind.some c.index-first.ensures 0 in
    let room = way_room c.args.graph.now c.args.part.now s.nodes.items s.marks.items s.onward.items c.args.from c.loop-at.at c.args.walk.now.items c.loop-at.walk.items c.requires.behind c.requires.from i.way (λ e. c.loop-at-test.true (e ∙ sym first)) in
    let enough = c.requires.room in
    let more = i.capacity in
    omega arith

pub edge-at-requires : goal.edge-at-requires
edge-at-requires c =
    let s = c.args.self.now in
    let i = c.loop-at.invariant in
    let first : c.index-first.result.now ≡ get_or s.nodes.items 0 0 = get_or_read s.nodes.items 0 c.index-first.result.now c.requires.behind.some c.index-first.ensures 0 in
    let lt : c.loop-at.at < c.args.graph.now.nodes = all_has (λ u. u < c.args.graph.now.nodes) s.nodes.items c.loop-at.at c.requires.behind.known i.way.found in
    let place : c.index-place.result.now ≡ get_or s.onward.items c.loop-at.at 0 = get_or_read s.onward.items c.loop-at.at c.index-place.result.now (let n = c.requires.behind.onward_len in omega arith) c.index-place.ensures 0 in
    let on = way_on c.args.graph.now c.args.part.now s.nodes.items s.marks.items s.onward.items c.loop-at.at c.requires.behind i.way.found (λ e. c.loop-at-test.true (e ∙ sym first)) in
    subst (λ (k : ℕ). k < length c.args.graph.now.edges) (sym place) on.0.step.known

pub loop-at-preserved : goal.loop-at-preserved
loop-at-preserved c =
    let s = c.args.self.now in
    let g = c.args.graph.now in
    let i = c.loop-at.invariant in
    let first : c.index-first.result.now ≡ get_or s.nodes.items 0 0 = get_or_read s.nodes.items 0 c.index-first.result.now c.requires.behind.some c.index-first.ensures 0 in
    let lt : c.loop-at.at < g.nodes = all_has (λ u. u < g.nodes) s.nodes.items c.loop-at.at c.requires.behind.known i.way.found in
    let place : c.index-place.result.now ≡ get_or s.onward.items c.loop-at.at 0 = get_or_read s.onward.items c.loop-at.at c.index-place.result.now (let n = c.requires.behind.onward_len in omega arith) c.index-place.ensures 0 in
    let to : c.edge-at.result.to ≡ (edge_at g (get_or s.onward.items c.loop-at.at 0)).to = ap (λ (x : Edge). x.to) c.edge-at.ensures.edge ∙ ap (λ (k : ℕ). (edge_at g k).to) place in
    let more = i.capacity in
    let more' = c.push_reserved.ensures.capacity in
    record {
      way = subst (λ (v : ℕ). IsWayOn g c.args.part.now s.nodes.items c.args.from v c.args.walk.now.items c.push_reserved.new.self.items) (sym to)
          (subst (λ (ks : List ℕ). IsWayOn g c.args.part.now s.nodes.items c.args.from (edge_at g (get_or s.onward.items c.loop-at.at 0)).to c.args.walk.now.items ks) (sym (c.push_reserved.ensures.items ∙ ap (λ (k : ℕ). c.loop-at.walk.items ++ k ∷ []) place))
          (way_more g c.args.part.now s.nodes.items s.marks.items s.onward.items c.args.from c.loop-at.at c.args.walk.now.items c.loop-at.walk.items c.requires.behind (λ e. c.loop-at-test.true (e ∙ sym first)) i.way));
      capacity = omega arith;
    }

pub loop-at-smaller : goal.loop-at-smaller
loop-at-smaller c =
    let s = c.args.self.now in
    let g = c.args.graph.now in
    let i = c.loop-at.invariant in
    let first : c.index-first.result.now ≡ get_or s.nodes.items 0 0 = get_or_read s.nodes.items 0 c.index-first.result.now c.requires.behind.some c.index-first.ensures 0 in
    let lt : c.loop-at.at < g.nodes = all_has (λ u. u < g.nodes) s.nodes.items c.loop-at.at c.requires.behind.known i.way.found in
    let place : c.index-place.result.now ≡ get_or s.onward.items c.loop-at.at 0 = get_or_read s.onward.items c.loop-at.at c.index-place.result.now (let n = c.requires.behind.onward_len in omega arith) c.index-place.ensures 0 in
    let to : c.edge-at.result.to ≡ (edge_at g (get_or s.onward.items c.loop-at.at 0)).to = ap (λ (x : Edge). x.to) c.edge-at.ensures.edge ∙ ap (λ (k : ℕ). (edge_at g k).to) place in
    let on = way_on g c.args.part.now s.nodes.items s.marks.items s.onward.items c.loop-at.at c.requires.behind i.way.found (λ e. c.loop-at-test.true (e ∙ sym first)) in
    subst (λ (v : ℕ). rank_in s.nodes.items v < rank_in s.nodes.items c.loop-at.at) (sym to) on.1

pub returns-clause-len : goal.returns-clause-len
returns-clause-len c =
    let s = c.args.self.now in
    let short = way_short c.args.graph.now c.args.part.now s.nodes.items s.marks.items s.onward.items c.args.from c.loop-at.at c.args.walk.now.items c.loop-at.walk.items c.requires.behind c.requires.from c.loop-at.invariant.way in
    omega arith
