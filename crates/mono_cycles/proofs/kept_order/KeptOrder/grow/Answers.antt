use Rattle.std.proofs.Common.{◌≡◌, ◌∙◌, ◌+◌, ◌<◌, ◌≤◌, ◌++◌, [], ℕ, List, Bool, false, length, take, drop, get_or, refl, sym, ap, subst, arith}
use Rattle.std.specs.Prelude.{All, IsTrue, vec_capacity}
use Rattle.std.proofs.lemmas.List.{get_or_read, take_at}
use Rattle.mono_base.specs.declared.limits.TheConstants.{MAX_NODES}
use Rattle.mono_graph.specs.Digraph.{edge_at, has}
use Rattle.mono_graph.specs.declared.edge.Edge.{Edge}
use Rattle.mono_graph.proofs.Membership.{has_here}
use Rattle.mono_cycles.specs.Arranged.{arranged, is_marked, AreRanks}
use Rattle.mono_cycles.specs.Behind.{IsClosed}
use Rattle.mono_graph.specs.Cycles.{is_order}
use Rattle.mono_cycles.specs.Kept.{Kept}
use Rattle.mono_cycles.specs.Searches.{IsStep}
use Rattle.mono_cycles.proofs.Found.{continues_at, continues_has}
use Rattle.mono_cycles.proofs.Grown.{IsMended, order_stays, order_mended, rank_known, ranked_arranged, ranked_at, one_not}
use Rattle.mono_cycles.proofs.kept_order.KeptOrder.grow.Goals as goal

pub returns-then-high-low-clause-order : goal.returns-then-high-low-clause-order
returns-then-high-low-clause-order c =
    let g = c.args.graph.now in
    let o = c.self.inside in
    let k = c.self.invariant.ranked in
    let e = c.edge-edge.result in
    let view : o.order.items ≡ c.args.self.now.order = ap (λ (v : Kept). v.order) c.self.view_is in
    let size : length o.order.items ≡ g.nodes = ap (λ (ks : List ℕ). length ks) view ∙ c.requires.size in
    let lx = c.edge-edge.ensures.from in
    let ly = c.edge-edge.ensures.to in
    let rl = k.ranks_len in
    let low : c.index-low.result.now ≡ get_or o.ranks.items e.to 0 = get_or_read o.ranks.items e.to c.index-low.result.now (omega arith) c.index-low.ensures 0 in
    let high : c.index-high.result.now ≡ get_or o.ranks.items e.from 0 = get_or_read o.ranks.items e.from c.index-high.result.now (omega arith) c.index-high.ensures 0 in
    let lt = c.if-high-low.true in
    λ ok P h grown. subst (λ (ks : List ℕ). IsTrue (is_order g c.args.part.now ks)) view
    (order_stays g P c.args.part.now o.order.items o.ranks.items c.args.place e.from e.to c.known.ensures.graph.ends (subst (λ (ks : List ℕ). IsTrue (is_order g P ks)) (sym view) h) grown k.ranks_are (λ u l. k.every u (omega arith))
    (ap (λ (x : Edge). x.from) (sym c.edge-edge.ensures.edge)) (ap (λ (x : Edge). x.to) (sym c.edge-edge.ensures.edge)) lx ly (omega arith))

pub arrange-requires-clause-high : goal.arrange-requires-clause-high
arrange-requires-clause-high c =
    let g = c.args.graph.now in
    let o = c.self.inside in
    let k = c.self.invariant.ranked in
    let e = c.edge-edge.result in
    let view : o.order.items ≡ c.args.self.now.order = ap (λ (v : Kept). v.order) c.self.view_is in
    let size : length o.order.items ≡ g.nodes = ap (λ (ks : List ℕ). length ks) view ∙ c.requires.size in
    let lx = c.edge-edge.ensures.from in
    let rl = k.ranks_len in
    let high : c.index-high.result.now ≡ get_or o.ranks.items e.from 0 = get_or_read o.ranks.items e.from c.index-high.result.now (omega arith) c.index-high.ensures 0 in
    subst (λ (ks : List ℕ). c.index-high.result.now < length ks) (sym c.deref_mut.ensures.value)
    (rank_known g o.order.items o.ranks.items e.from c.index-high.result.now k.ranks_are (λ u l. k.every u (omega arith)) lx (sym high))

pub invariant_of-self-in-None : goal.invariant_of-self-in-None
invariant_of-self-in-None c =
    let g = c.args.graph.now in
    let o = c.self.inside in
    let k = c.self.invariant.ranked in
    let e = c.edge-edge.result in
    let s = c.search-found.new.self in
    let found = c.in-None.ensures in
    let view : o.order.items ≡ c.args.self.now.order = ap (λ (v : Kept). v.order) c.self.view_is in
    let size : length o.order.items ≡ g.nodes = ap (λ (ks : List ℕ). length ks) view ∙ c.requires.size in
    let order-len : length c.arrange.new.order ≡ o.order.len = c.arrange.auto.order ∙ c.deref_mut.ensures.len in
    let order-taken : take o.order.len (c.arrange.new.order ++ drop (length c.arrange.new.order) o.order.items) ≡ c.arrange.new.order = take_at c.arrange.new.order (drop (length c.arrange.new.order) o.order.items) o.order.len order-len in
    let order-is : c.arrange.new.order ≡ arranged (is_marked s.marks.items) o.order.items c.index-low.result.now c.index-high.result.now =
    c.arrange.ensures.order ∙ (ap (λ (ms : List Bool). arranged (is_marked ms) c.deref_mut.result.now c.index-low.result.now c.index-high.result.now) c.deref-in-None.ensures.value
    ∙ ap (λ (ks : List ℕ). arranged (is_marked s.marks.items) ks c.index-low.result.now c.index-high.result.now) c.deref_mut.ensures.value) in
    let f = c.forget-in-None.new.self in
    let ranks-len : length c.arrange.new.ranks ≡ o.ranks.len = c.arrange.auto.ranks ∙ c.deref_mut-in-None.ensures.len in
    let ranks-taken : take o.ranks.len (c.arrange.new.ranks ++ drop (length c.arrange.new.ranks) o.ranks.items) ≡ c.arrange.new.ranks = take_at c.arrange.new.ranks (drop (length c.arrange.new.ranks) o.ranks.items) o.ranks.len ranks-len in
    let same : length c.arrange.new.order ≡ length o.order.items = c.arrange.auto.order ∙ ap (λ (ks : List ℕ). length ks) c.deref_mut.ensures.value in
    let nodes : length (take o.order.len (c.arrange.new.order ++ drop (length c.arrange.new.order) o.order.items)) ≡ g.nodes = ap (λ (ks : List ℕ). length ks) order-taken ∙ (same ∙ size) in
    record {
      ranked = ranked_at c.arrange.new.order _ c.arrange.new.ranks _ order-taken ranks-taken
          (ranked_arranged (is_marked s.marks.items) o.order.items o.ranks.items c.arrange.new.order c.arrange.new.ranks c.index-low.result.now c.index-high.result.now k c.if-high-low.false order-is c.arrange.ensures.ranks
          same (c.arrange.auto.ranks ∙ ap (λ (ks : List ℕ). length ks) c.deref_mut-in-None.ensures.value));
      room = record {
        marks_len = c.forget-in-None.ensures.len ∙ (found.behind.marks_len ∙ sym nodes);
        onward_len = ap (λ (ks : List ℕ). length ks) c.forget-in-None.ensures.onward ∙ (found.behind.onward_len ∙ sym nodes);
        clear = c.forget-in-None.ensures.clear;
        found = let room = found.room in let capacity = c.forget-in-None.ensures.capacity in omega (arith, nodes);
        buffer = let room = c.self.invariant.room.buffer in let capacity = c.arrange.ensures.capacity in omega (arith, nodes, size);
        cycle = let room = c.self.invariant.room.cycle in omega (arith, nodes, size);
      };
    }

pub returns-in-None-clause-order : goal.returns-in-None-clause-order
returns-in-None-clause-order c =
    let g = c.args.graph.now in
    let o = c.self.inside in
    let k = c.self.invariant.ranked in
    let e = c.edge-edge.result in
    let s = c.search-found.new.self in
    let found = c.in-None.ensures in
    let view : o.order.items ≡ c.args.self.now.order = ap (λ (v : Kept). v.order) c.self.view_is in
    let size : length o.order.items ≡ g.nodes = ap (λ (ks : List ℕ). length ks) view ∙ c.requires.size in
    let order-len : length c.arrange.new.order ≡ o.order.len = c.arrange.auto.order ∙ c.deref_mut.ensures.len in
    let order-taken : take o.order.len (c.arrange.new.order ++ drop (length c.arrange.new.order) o.order.items) ≡ c.arrange.new.order = take_at c.arrange.new.order (drop (length c.arrange.new.order) o.order.items) o.order.len order-len in
    let order-is : c.arrange.new.order ≡ arranged (is_marked s.marks.items) o.order.items c.index-low.result.now c.index-high.result.now =
    c.arrange.ensures.order ∙ (ap (λ (ms : List Bool). arranged (is_marked ms) c.deref_mut.result.now c.index-low.result.now c.index-high.result.now) c.deref-in-None.ensures.value
    ∙ ap (λ (ks : List ℕ). arranged (is_marked s.marks.items) ks c.index-low.result.now c.index-high.result.now) c.deref_mut.ensures.value) in
    let rl = k.ranks_len in
    let lx = c.edge-edge.ensures.from in
    let ly = c.edge-edge.ensures.to in
    let low : c.index-low.result.now ≡ get_or o.ranks.items e.to 0 = get_or_read o.ranks.items e.to c.index-low.result.now (omega arith) c.index-low.ensures 0 in
    let high : c.index-high.result.now ≡ get_or o.ranks.items e.from 0 = get_or_read o.ranks.items e.from c.index-high.result.now (omega arith) c.index-high.ensures 0 in
    let mended : IsMended g c.args.part.now o.order.items o.ranks.items s.nodes.items s.marks.items c.args.place e.from e.to c.index-low.result.now c.index-high.result.now = record {
      ends = c.known.ensures.graph.ends;
      ranks_are = k.ranks_are;
      every = λ u l. k.every u (omega arith);
      len = size;
      from = ap (λ (x : Edge). x.from) (sym c.edge-edge.ensures.edge);
      to = ap (λ (x : Edge). x.to) (sym c.edge-edge.ensures.edge);
      x_known = lx;
      y_known = ly;
      low_is = sym low;
      high_is = sym high;
      down = c.if-high-low.false;
      marked = found.behind.marked;
      closed = subst (λ (ks : List ℕ). IsClosed g c.args.part.now ks c.index-low.result.now s.nodes.items) c.deref.ensures.value found.found;
      x_found = continues_has c.begin.new.self.nodes.items s.nodes.items e.from found.continues (subst (λ (ks : List ℕ). IsTrue (has ks e.from)) (sym c.begin.ensures.nodes) (has_here e.from []));
      y_not = found.apart (subst (λ (ks : List ℕ). has ks e.to ≡ false) (sym c.begin.ensures.nodes) (one_not e.from e.to c.if-edge.false));
    } in
    λ ok P h grown. subst (λ (ks : List ℕ). IsTrue (is_order g c.args.part.now ks)) (sym order-taken)
    (order_mended g P c.args.part.now o.order.items o.ranks.items s.nodes.items s.marks.items c.args.place e.from e.to c.index-low.result.now c.index-high.result.now c.arrange.new.order c.arrange.new.ranks mended
    (subst (λ (ks : List ℕ). IsTrue (is_order g P ks)) (sym view) h) grown order-is c.arrange.ensures.ranks)

pub returns-in-None-clause-cycle_stays : goal.returns-in-None-clause-cycle_stays
returns-in-None-clause-cycle_stays c = λ ok. ap (λ (v : Kept). v.cycle) c.self.view_is

kept_size : (kept old : Kept) (nodes : ℕ) → kept ≡ old → length old.order ≡ nodes → length kept.order ≡ nodes
kept_size kept old nodes is size = ap (λ (v : Kept). length v.order) is ∙ size

pub index-low-requires : goal.index-low-requires
index-low-requires c =
    let len = c.self.invariant.ranked.ranks_len in
    let size : length c.self.inside.order.items ≡ c.args.graph.now.nodes = kept_size _ _ _ c.self.view_is c.requires.size in
    omega (arith, len, size, c.edge-edge.ensures.to)

pub index-high-requires : goal.index-high-requires
index-high-requires c =
    let len = c.self.invariant.ranked.ranks_len in
    let size : length c.self.inside.order.items ≡ c.args.graph.now.nodes = kept_size _ _ _ c.self.view_is c.requires.size in
    omega (arith, len, size, c.edge-edge.ensures.from)

pub begin-requires-clause-marks : goal.begin-requires-clause-marks
begin-requires-clause-marks c = c.self.invariant.room.marks_len ∙ kept_size _ _ _ c.self.view_is c.requires.size

pub begin-requires-clause-onward : goal.begin-requires-clause-onward
begin-requires-clause-onward c = c.self.invariant.room.onward_len ∙ kept_size _ _ _ c.self.view_is c.requires.size

pub begin-requires-clause-room : goal.begin-requires-clause-room
begin-requires-clause-room c = subst (λ (n : ℕ). n ≤ vec_capacity c.self.inside.behind.nodes) (kept_size _ _ _ c.self.view_is c.requires.size) c.self.invariant.room.found

pub search-found-requires-clause-ranks : goal.search-found-requires-clause-ranks
search-found-requires-clause-ranks c = ap (λ (ks : List ℕ). length ks) c.deref.ensures.value ∙ (c.self.invariant.ranked.ranks_len ∙ kept_size _ _ _ c.self.view_is c.requires.size)

-- ---- an edge that closes a cycle

pub invariant_of-self : goal.invariant_of-self
invariant_of-self c =
    let room = c.self.invariant.room in
    record {
      ranked = c.self.invariant.ranked;
      room = record {
        marks_len = room.marks_len;
        onward_len = room.onward_len;
        clear = room.clear;
        found = room.found;
        buffer = room.buffer;
        cycle = let cycle = room.cycle in let cleared = c.clear.ensures.capacity in let pushed = c.push_reserved.ensures.capacity in omega (arith, cycle, cleared, pushed);
      };
    }

pub close-requires-clause-closing : goal.close-requires-clause-closing
close-requires-clause-closing c =
    subst (λ (x : Edge). IsStep c.args.graph.now c.args.part.now c.in-Some.closing x.to (edge_at c.args.graph.now c.in-Some.closing).to) c.edge-edge.ensures.edge c.in-Some.ensures.found.0

pub close-requires-clause-place : goal.close-requires-clause-place
close-requires-clause-place c =
    let first = c.begin.ensures.nodes in
    let some : 0 < length c.begin.new.self.nodes.items = subst (λ (ks : List ℕ). 0 < length ks) (sym first) (omega arith) in
    record {
      known = c.requires.place;
      here = c.requires.here;
      from = ap (λ (x : Edge). x.from) (sym c.edge-edge.ensures.edge)
          ∙ sym (continues_at c.begin.new.self.nodes.items c.search-found.new.self.nodes.items 0 c.in-Some.ensures.continues some ∙ ap (λ (ks : List ℕ). get_or ks 0 0) first);
      to = refl;
    }

pub close-requires-clause-room : goal.close-requires-clause-room
close-requires-clause-room c = subst (λ (n : ℕ). n + 1 ≤ vec_capacity c.self.inside.cycle) (kept_size _ _ _ c.self.view_is c.requires.size) c.self.invariant.room.cycle

pub forget-requires-clause-known : goal.forget-requires-clause-known
forget-requires-clause-known c = subst (λ (n : ℕ). All (λ u. u < n) c.search-found.new.self.nodes.items) (sym c.in-Some.ensures.behind.marks_len) c.in-Some.ensures.behind.known

pub invariant_of-self-in-Some : goal.invariant_of-self-in-Some
invariant_of-self-in-Some c =
    let behind = c.in-Some.ensures.behind in
    let room = c.self.invariant.room in
    let size : length c.self.inside.order.items ≡ c.args.graph.now.nodes = kept_size _ _ _ c.self.view_is c.requires.size in
    record {
      ranked = c.self.invariant.ranked;
      room = record {
        marks_len = c.forget.ensures.len ∙ (behind.marks_len ∙ sym size);
        onward_len = ap (λ (ks : List ℕ). length ks) c.forget.ensures.onward ∙ (behind.onward_len ∙ sym size);
        clear = c.forget.ensures.clear;
        found = let found = c.in-Some.ensures.room in let capacity = c.forget.ensures.capacity in omega (arith, size, found, capacity);
        buffer = room.buffer;
        cycle = let cycle = room.cycle in let capacity = c.close.ensures.capacity in omega (arith, cycle, capacity);
      };
    }

-- ---- an edge after which there is another order

pub arrange-requires-clause-few : goal.arrange-requires-clause-few
arrange-requires-clause-few c = subst (λ (ks : List ℕ). length ks ≤ MAX_NODES) (sym c.deref_mut.ensures.value) c.self.invariant.ranked.few

pub arrange-requires-clause-marks : goal.arrange-requires-clause-marks
arrange-requires-clause-marks c =
    let size : length c.self.inside.order.items ≡ c.args.graph.now.nodes = kept_size _ _ _ c.self.view_is c.requires.size in
    ap (λ (ms : List Bool). length ms) c.deref-in-None.ensures.value ∙ (c.in-None.ensures.behind.marks_len ∙ (sym size ∙ ap (λ (ks : List ℕ). length ks) (sym c.deref_mut.ensures.value)))

pub arrange-requires-clause-ranks_len : goal.arrange-requires-clause-ranks_len
arrange-requires-clause-ranks_len c =
    ap (λ (ks : List ℕ). length ks) c.deref_mut-in-None.ensures.value ∙ (c.self.invariant.ranked.ranks_len ∙ ap (λ (ks : List ℕ). length ks) (sym c.deref_mut.ensures.value))

pub arrange-requires-clause-known : goal.arrange-requires-clause-known
arrange-requires-clause-known c = subst (λ (ks : List ℕ). All (λ u. u < length ks) ks) (sym c.deref_mut.ensures.value) c.self.invariant.ranked.known

pub arrange-requires-clause-ranks : goal.arrange-requires-clause-ranks
arrange-requires-clause-ranks c =
    subst (λ (ks : List ℕ). AreRanks c.deref_mut-in-None.result.now ks) (sym c.deref_mut.ensures.value)
    (subst (λ (rs : List ℕ). AreRanks rs c.self.inside.order.items) (sym c.deref_mut-in-None.ensures.value) c.self.invariant.ranked.ranks_are)

pub arrange-requires-clause-room : goal.arrange-requires-clause-room
arrange-requires-clause-room c = subst (λ (ks : List ℕ). length ks ≤ vec_capacity c.self.inside.buffer) (sym c.deref_mut.ensures.value) c.self.invariant.room.buffer

pub forget-requires-in-None-clause-known : goal.forget-requires-in-None-clause-known
forget-requires-in-None-clause-known c = subst (λ (n : ℕ). All (λ u. u < n) c.search-found.new.self.nodes.items) (sym c.in-None.ensures.behind.marks_len) c.in-None.ensures.behind.known

pub returns-in-None-clause-size : goal.returns-in-None-clause-size
returns-in-None-clause-size c =
    let o = c.self.inside.order in
    let len : length c.arrange.new.order ≡ o.len = c.arrange.auto.order ∙ c.deref_mut.ensures.len in
    ap (λ (ks : List ℕ). length ks) (take_at c.arrange.new.order (drop (length c.arrange.new.order) o.items) o.len len)
    ∙ (c.arrange.auto.order ∙ (ap (λ (ks : List ℕ). length ks) c.deref_mut.ensures.value ∙ ap (λ (v : Kept). length v.order) c.self.view_is))
