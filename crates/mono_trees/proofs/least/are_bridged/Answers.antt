use Rattle.std.proofs.Common.{◌∙◌, take, get_or, sym, arith}
use Rattle.std.specs.List.{list_all}
use Rattle.std.proofs.lemmas.Bool.{and_from}
use Rattle.std.proofs.lemmas.List.Folds.{list_all_more, list_all_at}
use Rattle.mono_graph.specs.Digraph.{edge_at}
use Rattle.mono_graph.specs.Trees.{is_bridged}
use Rattle.mono_trees.proofs.Sweeping.{tested_at, stays_light}
use Rattle.mono_trees.proofs.least.are_bridged.Goals as goal

pub loop-place-preserved : goal.loop-place-preserved
loop-place-preserved c = record {
  len = c.in_ok-at.ensures.swept.len;
  tells = c.in_ok-at.ensures.swept.tells;
  within = c.in_ok-at.ensures.swept.within;
  light = stays_light c.args.graph.now c.args.tree.now c.args.edges.now c.advance.new.components c.loop-place.place-index c.in_ok-at.at c.edge-edge.result c.requires.edges_rise (omega arith) c.edge-edge.ensures.edge c.in_ok-at.ensures.swept;
  tested = list_all_more (λ k. is_bridged c.args.graph.now c.args.tree.now (edge_at c.args.graph.now k)) c.args.edges.now c.loop-place.place-index 0 (omega arith)
      ∙ and_from (list_all (λ k. is_bridged c.args.graph.now c.args.tree.now (edge_at c.args.graph.now k)) (take c.loop-place.place-index c.args.edges.now))
      (is_bridged c.args.graph.now c.args.tree.now (edge_at c.args.graph.now (get_or c.args.edges.now c.loop-place.place-index 0))) c.loop-place.invariant.tested
      (tested_at c.args.graph.now c.args.tree.now c.args.edges.now c.advance.new.components c.loop-place.place-index c.in_ok-at.at c.edge-edge.result c.are_joined.result _
      c.requires.tree_rises c.edge-edge.ensures.edge c.in_ok-at.ensures.swept c.edge-edge.ensures.from c.edge-edge.ensures.to c.are_joined.ensures c.if-not-are_joined.false);
}

pub returns-then-not-are_joined-clause-bridged : goal.returns-then-not-are_joined-clause-bridged
returns-then-not-are_joined-clause-bridged c =
    sym (list_all_at (λ k. is_bridged c.args.graph.now c.args.tree.now (edge_at c.args.graph.now k)) c.args.edges.now c.loop-place.place-index 0 (omega arith)
    (tested_at c.args.graph.now c.args.tree.now c.args.edges.now c.advance.new.components c.loop-place.place-index c.in_ok-at.at c.edge-edge.result c.are_joined.result _
    c.requires.tree_rises c.edge-edge.ensures.edge c.in_ok-at.ensures.swept c.edge-edge.ensures.from c.edge-edge.ensures.to c.are_joined.ensures c.if-not-are_joined.true))
