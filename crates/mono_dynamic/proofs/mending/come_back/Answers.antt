use Rattle.std.proofs.Common.{◌≢◌, ℕ, List, get_or, refl, sym, ap, subst, ◌∙◌, arith}
use Rattle.std.specs.Prelude.{IsTrue}
use Rattle.std.proofs.lemmas.Bool.{both_ways}
use Rattle.mono_graph.specs.declared.edge.Edge.{Edge}
use Rattle.mono_graph.specs.Digraph.{present, entering}
use Rattle.mono_dynamic.specs.declared.arrival.Arrival.{Arrival}
use Rattle.mono_dynamic.specs.Arrivals.{arrival_at, is_reached}
use Rattle.mono_dynamic.specs.Reached.{Reached}
use Rattle.mono_dynamic.proofs.ComingBack.{entered_all, entered_more, entered_none, entered_pass, leads_there, stamps_low}
use Rattle.mono_dynamic.proofs.mending.come_back.Goals as goal

pub loop-place-init : goal.loop-place-init
loop-place-init c = record {
  entered = entered_none c.args.graph.now c.args.part.now c.args.tree.now.source c.args.first c.args.at c.entering-place-items.result.now c.args.behind.now.arrivals c.requires.coming;
  nodes = refl;
  source = refl;
}

pub loop-place-preserved-then-not-has : goal.loop-place-preserved-then-not-has
loop-place-preserved-then-not-has c = record {
  entered = entered_pass c.args.graph.now c.args.part.now c.args.tree.now.source c.args.first c.args.at c.loop-place.place-index c.entering-place-items.result.now c.args.behind.now.arrivals c.loop-place.behind.arrivals c.loop-place.invariant.entered
      (λ here. absurd (both_ways (present c.args.part.now (get_or c.entering-place-items.result.now c.loop-place.place-index 0)) (sym c.has.ensures ∙ c.if-not-has.true) here));
  nodes = c.loop-place.invariant.nodes;
  source = c.loop-place.invariant.source;
}

pub returns-then-leaves-clause-nodes : goal.returns-then-leaves-clause-nodes
returns-then-leaves-clause-nodes c = c.loop-place.invariant.nodes

pub returns-then-leaves-clause-source : goal.returns-then-leaves-clause-source
returns-then-leaves-clause-source c = c.loop-place.invariant.source

pub returns-then-leaves-clause-longer : goal.returns-then-leaves-clause-longer
returns-then-leaves-clause-longer c = c.loop-place.invariant.entered.longer

pub returns-then-leaves-clause-entry : goal.returns-then-leaves-clause-entry
returns-then-leaves-clause-entry c = record {
  known = c.entering-place-items.ensures.known c.loop-place.place-index 0 c.loop-place-test.true;
  present = sym c.has.ensures ∙ c.if-not-has.false;
  from = subst (λ (e : Edge). IsTrue (is_reached c.args.tree.now.arrivals e.from)) c.edge-edge.ensures.edge (sym c.has-leaves.ensures.reached ∙ c.if-leaves.true);
  to = leads_there c.args.graph.now c.node_at-node.result (arrival_at c.args.behind.now.arrivals c.args.at).node c.loop-place.place-index c.entering-place-items.result.now c.entering-place-items.ensures.places c.node_at-node.ensures.node c.loop-place-test.true
      ∙ ap (λ (a : Arrival). a.node) (sym (c.loop-place.invariant.entered.longer.same c.args.at c.requires.at));
}

pub returns-then-leaves-clause-coming : goal.returns-then-leaves-clause-coming
returns-then-leaves-clause-coming c = c.loop-place.invariant.entered.coming

pub arrive-requires-clause-node : goal.arrive-requires-clause-node
arrive-requires-clause-node c =
    let nodes = c.loop-place.invariant.nodes in
    let size = c.requires.size in
    let from = c.edge-edge.ensures.from in
    omega arith

pub arrive-requires-clause-before : goal.arrive-requires-clause-before
arrive-requires-clause-before c =
    let len = c.loop-place.invariant.entered.longer.len in
    let at = c.requires.at in
    omega arith

pub arrive-requires-clause-stamps : goal.arrive-requires-clause-stamps
arrive-requires-clause-stamps c = stamps_low c.args.graph.now c.args.part.now c.args.tree.now.source c.args.first c.args.at c.loop-place.behind.arrivals c.loop-place.invariant.entered.coming

pub loop-place-preserved : goal.loop-place-preserved
loop-place-preserved c =
    let items : List ℕ = c.entering-place-items.result.now in
    let i : ℕ = c.loop-place.place-index in
    let other : c.edge-edge.result.from ≢ c.args.tree.now.source = λ e. both_ways (is_reached c.args.tree.now.arrivals c.edge-edge.result.from) (sym c.has-leaves.ensures.reached ∙ c.if-leaves.false)
    (subst (λ (v : ℕ). IsTrue (is_reached c.args.tree.now.arrivals v)) (sym e) c.has-leaves.ensures.source) in
    record {
      entered = entered_more c.args.graph.now c.args.part.now c.args.tree.now.source c.args.first c.args.at i (get_or items i 0) c.edge-edge.result.from items c.args.behind.now.arrivals c.loop-place.behind.arrivals c.arrive.new.self.arrivals
          c.loop-place.invariant.entered refl c.requires.from c.requires.at (c.entering-place-items.ensures.known i 0 c.loop-place-test.true) (sym c.has.ensures ∙ c.if-not-has.false)
          (leads_there c.args.graph.now c.node_at-node.result (arrival_at c.args.behind.now.arrivals c.args.at).node i items c.entering-place-items.ensures.places c.node_at-node.ensures.node c.loop-place-test.true)
          (ap (λ (e : Edge). e.from) c.edge-edge.ensures.edge) other (ap (λ (r : Reached). r.arrivals) c.arrive.ensures);
      nodes = ap (λ (r : Reached). r.nodes) c.arrive.ensures ∙ c.loop-place.invariant.nodes;
      source = ap (λ (r : Reached). r.source) c.arrive.ensures ∙ c.loop-place.invariant.source;
    }

pub returns-clause-nodes : goal.returns-clause-nodes
returns-clause-nodes c = c.loop-place.invariant.nodes

pub returns-clause-source : goal.returns-clause-source
returns-clause-source c = c.loop-place.invariant.source

pub returns-clause-longer : goal.returns-clause-longer
returns-clause-longer c = c.loop-place.invariant.entered.longer

pub returns-clause-none : goal.returns-clause-none
returns-clause-none c =
    entered_all c.args.graph.now c.args.part.now c.args.tree.now.source c.args.first c.args.at c.loop-place.place-index c.entering-place-items.result.now c.args.behind.now.arrivals c.loop-place.behind.arrivals c.loop-place.invariant.entered
    c.loop-place-test.false c.requires.at (c.entering-place-items.ensures.places ∙ ap (λ (v : ℕ). entering c.args.graph.now v) c.node_at-node.ensures.node)
