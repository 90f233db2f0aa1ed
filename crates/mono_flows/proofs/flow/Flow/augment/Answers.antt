use Rattle.std.proofs.Common.{◌≡◌, ◌<◌, ◌+◌, ◌-◌, All, ℕ, List, length, set, sym, subst, ◌∙◌, arith}
use Rattle.std.proofs.lemmas.List.{get_or_read, length-set}
use Rattle.std.proofs.lemmas.List.Elements.{All-push}
use Rattle.mono_flows.specs.declared.visit.Visit.{Visit}
use Rattle.mono_flows.specs.Flowing.{IsFlowing}
use Rattle.mono_flows.specs.Residual.{amount_of}
use Rattle.mono_flows.specs.Visits.{visit_at}
use Rattle.mono_flows.proofs.Augmenting.{AreTouched, Moving, forth, back, moved, touched_more}
use Rattle.mono_flows.proofs.flow.Flow.augment.Goals as goal

pub loop-at-preserved-then-visit : goal.loop-at-preserved-then-visit
loop-at-preserved-then-visit c =
    let len : length c.loop-at.self.amounts.items ≡ length c.args.network.now.graph.now.edges = let l = c.loop-at.invariant.len in omega arith in
    record {
      len = length-set c.loop-at.self.amounts.items _ _ ∙ c.loop-at.invariant.len;
      value = c.loop-at.invariant.value;
      known = subst (λ (ks : List ℕ). All (λ (k : ℕ). k < length c.args.network.now.graph.now.edges) ks) (sym c.in_ok-push.ensures.items)
          (All-push (λ (k : ℕ). k < length c.args.network.now.graph.now.edges) c.loop-at.self.touched.items (visit_at c.args.path.now c.loop-at.at).edge.place c.loop-at.invariant.known
          (c.requires.path.tree.steps c.loop-at.at c.loop-at-test.true c.loop-at.invariant.moving.inside).known);
      touched = subst (λ (ks : List ℕ). AreTouched (set c.loop-at.self.amounts.items (visit_at c.args.path.now c.loop-at.at).edge.place (c.index_mut.result.now - (visit_at c.args.path.now (length c.args.path.now - 1)).residual)) ks) (sym c.in_ok-push.ensures.items)
          (touched_more c.loop-at.self.amounts.items c.loop-at.self.touched.items (visit_at c.args.path.now c.loop-at.at).edge.place (c.index_mut.result.now - (visit_at c.args.path.now (length c.args.path.now - 1)).residual) c.loop-at.invariant.touched);
      moving = subst (λ (x : ℕ). Moving c.args.network.now.graph.now c.args.network.now.part.now c.args.network.now.sink (visit_at c.args.path.now (length c.args.path.now - 1)).residual c.args.path.now (amount_of c.args.self.now.amounts.items)
          (amount_of (set c.loop-at.self.amounts.items (visit_at c.args.path.now c.loop-at.at).edge.place (x - (visit_at c.args.path.now (length c.args.path.now - 1)).residual))) (visit_at c.args.path.now c.loop-at.at).before)
          (sym (get_or_read c.loop-at.self.amounts.items (visit_at c.args.path.now c.loop-at.at).edge.place c.index_mut.result.now (let k = (c.requires.path.tree.steps c.loop-at.at c.loop-at-test.true c.loop-at.invariant.moving.inside).known in omega arith) c.index_mut.ensures.value 0))
          (back c.args.network.now.graph.now c.args.network.now.part.now c.args.network.now.source c.args.network.now.sink (c.args.goal - c.args.self.now.value) (visit_at c.args.path.now (length c.args.path.now - 1)).residual c.args.path.now (amount_of c.args.self.now.amounts.items)
          c.loop-at.self.amounts.items c.loop-at.at c.requires.path len c.loop-at-test.true c.loop-at.invariant.moving c.if-visit.true);
    }

pub loop-at-preserved : goal.loop-at-preserved
loop-at-preserved c =
    let len : length c.loop-at.self.amounts.items ≡ length c.args.network.now.graph.now.edges = let l = c.loop-at.invariant.len in omega arith in
    record {
      len = length-set c.loop-at.self.amounts.items _ _ ∙ c.loop-at.invariant.len;
      value = c.loop-at.invariant.value;
      known = subst (λ (ks : List ℕ). All (λ (k : ℕ). k < length c.args.network.now.graph.now.edges) ks) (sym c.in_ok-push.ensures.items)
          (All-push (λ (k : ℕ). k < length c.args.network.now.graph.now.edges) c.loop-at.self.touched.items (visit_at c.args.path.now c.loop-at.at).edge.place c.loop-at.invariant.known
          (c.requires.path.tree.steps c.loop-at.at c.loop-at-test.true c.loop-at.invariant.moving.inside).known);
      touched = subst (λ (ks : List ℕ). AreTouched (set c.loop-at.self.amounts.items (visit_at c.args.path.now c.loop-at.at).edge.place (c.index_mut-else-visit.result.now + (visit_at c.args.path.now (length c.args.path.now - 1)).residual)) ks) (sym c.in_ok-push.ensures.items)
          (touched_more c.loop-at.self.amounts.items c.loop-at.self.touched.items (visit_at c.args.path.now c.loop-at.at).edge.place (c.index_mut-else-visit.result.now + (visit_at c.args.path.now (length c.args.path.now - 1)).residual) c.loop-at.invariant.touched);
      moving = subst (λ (x : ℕ). Moving c.args.network.now.graph.now c.args.network.now.part.now c.args.network.now.sink (visit_at c.args.path.now (length c.args.path.now - 1)).residual c.args.path.now (amount_of c.args.self.now.amounts.items)
          (amount_of (set c.loop-at.self.amounts.items (visit_at c.args.path.now c.loop-at.at).edge.place (x + (visit_at c.args.path.now (length c.args.path.now - 1)).residual))) (visit_at c.args.path.now c.loop-at.at).before)
          (sym (get_or_read c.loop-at.self.amounts.items (visit_at c.args.path.now c.loop-at.at).edge.place c.index_mut-else-visit.result.now (let k = (c.requires.path.tree.steps c.loop-at.at c.loop-at-test.true c.loop-at.invariant.moving.inside).known in omega arith) c.index_mut-else-visit.ensures.value 0))
          (forth c.args.network.now.graph.now c.args.network.now.part.now c.args.network.now.source c.args.network.now.sink (c.args.goal - c.args.self.now.value) (visit_at c.args.path.now (length c.args.path.now - 1)).residual c.args.path.now (amount_of c.args.self.now.amounts.items)
          c.loop-at.self.amounts.items c.loop-at.at c.requires.path len c.loop-at-test.true c.loop-at.invariant.moving c.if-visit.false);
    }

pub returns-clause-flow : goal.returns-clause-flow
returns-clause-flow c =
    let n = c.args.network.now in
    let path : List Visit = c.args.path.now in
    let extra : ℕ = (visit_at path (length path - 1)).residual in
    let at-first : c.loop-at.at ≡ 0 = omega arith in
    record {
      apart = c.requires.flow.apart;
      small = c.requires.flow.small;
      flow = record {
        len = c.loop-at.invariant.len;
        known = c.loop-at.invariant.known;
        touched = c.loop-at.invariant.touched;
        flowing = subst (λ (value : ℕ). IsFlowing n.graph.now n.part.now n.source n.sink (amount_of c.loop-at.self.amounts.items) (value + extra)) (sym c.loop-at.invariant.value)
            (moved n.graph.now n.part.now n.source n.sink (c.args.goal - c.args.self.now.value) extra c.args.self.now.value path (amount_of c.args.self.now.amounts.items) (amount_of c.loop-at.self.amounts.items)
            c.requires.path c.requires.flow.apart c.requires.flow.flow.flowing
            (subst (λ (at : ℕ). Moving n.graph.now n.part.now n.sink extra path (amount_of c.args.self.now.amounts.items) (amount_of c.loop-at.self.amounts.items) at) at-first c.loop-at.invariant.moving));
      };
      most =
          let some = c.requires.path.tree.some in
          let top = c.requires.path.tree.most (length path - 1) (omega arith) in
          omega (arith, top, c.requires.path.residual, c.requires.flow.most, c.loop-at.invariant.value);
    }

pub overflow_add-index_mut : goal.overflow_add-index_mut
overflow_add-index_mut c =
    let path : List Visit = c.args.path.now in
    let place : ℕ = (visit_at path c.loop-at.at).edge.place in
    let known = (c.requires.path.tree.steps c.loop-at.at c.loop-at-test.true c.loop-at.invariant.moving.inside).known in
    let read = get_or_read c.loop-at.self.amounts.items place c.index_mut-else-visit.result.now (let len = c.loop-at.invariant.len in omega (arith, known, len)) c.index_mut-else-visit.ensures.value 0 in
    let fresh = c.loop-at.invariant.moving.fresh c.loop-at.at c.loop-at-test.true (omega arith) in
    let low = c.requires.flow.flow.flowing.small place in
    let some = c.requires.path.tree.some in
    let top = c.requires.path.tree.most (length path - 1) (omega (arith, some)) in
    omega (arith, read, fresh, low, top, c.requires.path.residual, c.requires.flow.most, c.requires.flow.small)

pub overflow_add-self : goal.overflow_add-self
overflow_add-self c =
    let some = c.requires.path.tree.some in
    let top = c.requires.path.tree.most (length c.args.path.now - 1) (omega (arith, some)) in
    omega (arith, top, c.requires.path.residual, c.requires.flow.most, c.requires.flow.small, c.loop-at.invariant.value)

pub index_mut-requires : goal.index_mut-requires
index_mut-requires c =
    let known = (c.requires.path.tree.steps c.loop-at.at c.loop-at-test.true c.loop-at.invariant.moving.inside).known in
    let len = c.loop-at.invariant.len in
    omega (arith, known, len)

pub returns-clause-more : goal.returns-clause-more
returns-clause-more c =
    let some = c.requires.path.tree.some in
    let extra = c.requires.path.tree.residuals (length c.args.path.now - 1) (omega (arith, some)) in
    omega (arith, extra, c.loop-at.invariant.value)
