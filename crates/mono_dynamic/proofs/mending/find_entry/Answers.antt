use Rattle.std.proofs.Common.{◌≡◌, ◌<◌, List, length, refl, sym, ap, subst, ◌∙◌, arith}
use Rattle.std.specs.Prelude.{IsTrue}
use Rattle.mono_dynamic.specs.declared.arrival.Arrival.{Arrival}
use Rattle.mono_dynamic.specs.Arrivals.{arrival_at, is_reached}
use Rattle.mono_dynamic.specs.Mending.{IsComing}
use Rattle.mono_dynamic.specs.Reached.{Reached}
use Rattle.mono_dynamic.proofs.ComingBack.{all_out, arrived, arrived_last, arrived_there, coming_first, out_reached, reached_longer}
use Rattle.mono_dynamic.proofs.mending.find_entry.Goals as goal

pub loop-head-init : goal.loop-head-init
loop-head-init c =
    let xs : List Arrival = c.args.behind.now.arrivals in
    let a : Arrival = record { node = c.args.target; place = 0; before = 0; stamp = c.args.first } in
    let is : c.arrive.new.self.arrivals ≡ arrived xs a = ap (λ (r : Reached). r.arrivals) c.arrive.ensures in
    record {
      coming = subst (λ (ys : List Arrival). IsComing c.args.graph.now c.args.part.now c.args.tree.now.source c.args.first c.args.first ys) (sym is)
          (coming_first c.args.graph.now c.args.part.now c.args.tree.now.source c.args.first c.args.target a xs c.requires.out c.requires.first refl refl c.requires.other);
      held = omega arith;
      target = subst (λ (ys : List Arrival). c.args.first < length ys → (arrival_at ys c.args.first).node ≡ c.args.target) (sym is) (arrived_last xs a c.args.first c.requires.first);
      there = subst (λ (ys : List Arrival). IsTrue (is_reached ys c.args.target)) (sym is) (arrived_there xs a);
      nodes = ap (λ (r : Reached). r.nodes) c.arrive.ensures;
      source = ap (λ (r : Reached). r.source) c.arrive.ensures;
    }

pub returns-clause-none : goal.returns-clause-none
returns-clause-none c =
    all_out c.args.graph.now c.args.part.now c.args.tree.now.source c.args.first c.loop-head.head c.loop-head.behind.arrivals c.loop-head.invariant.coming (let count = c.count.ensures.count in let all = c.loop-head-test.false in omega arith)

pub returns-clause-lacks : goal.returns-clause-lacks
returns-clause-lacks c =
    out_reached c.args.graph.now c.args.part.now c.args.tree.now.source c.args.target c.loop-head.behind.arrivals (returns-clause-none c) c.requires.other c.loop-head.invariant.there

pub loop-head-preserved : goal.loop-head-preserved
loop-head-preserved c =
    let now = c.loop-head.invariant in
    let longer = c.in_default.ensures.longer in
    let held = now.held in
    let some = c.loop-head-test.true in
    let count = c.count.ensures.count in
    let low : c.args.first < length c.loop-head.behind.arrivals = omega arith in
    record {
      coming = c.in_default.ensures.none;
      held = omega arith;
      target = λ _. ap (λ (a : Arrival). a.node) (longer.same c.args.first low) ∙ now.target low;
      there = reached_longer c.loop-head.behind.arrivals c.come_back.new.behind.arrivals c.args.target longer now.there;
      nodes = c.in_default.ensures.nodes ∙ now.nodes;
      source = c.in_default.ensures.source ∙ now.source;
    }
