use Rattle.std.proofs.Common.{◌+◌, ℕ, List, take, subst, sym, ◌∙◌, arith}
use Rattle.std.specs.Prelude.{IsTrue}
use Rattle.mono_graph.specs.Digraph.{Digraph}
use Rattle.mono_graph.specs.Cycles.{is_cycle}
use Rattle.mono_theory.specs.SureParts.{sure_parts}
use Rattle.mono_acyclic.specs.Together.{IsPutIn}
use Rattle.mono_acyclic.proofs.OrderStays.{AreItsEdges, closed_by, edges_told, on_err, ordered_again, ordered_on}
use Rattle.mono_acyclic.proofs.ordered_edges.advance.Goals as goal

pub returns-then-insert_all-clause-kept : goal.returns-then-insert_all-clause-kept
returns-then-insert_all-clause-kept c =
    let f = c.args.frame.now in
    let n = c.args.at in
    let ks = c.edges_at-places.result.now in
    let its : AreItsEdges f n c.args.lit ks = edges_told f n c.args.lit ks c.requires.more c.requires.next c.known.ensures.partial c.requires.positive c.edges_at-places.ensures in
    let put = subst (λ (g : Digraph). IsPutIn g c.args.ordered.now c.insert_all.new.ordered ks) c.graph-graph.ensures.graph (c.insert_all.ensures.put c.if-insert_all.true) in
    ordered_on f c.args.at c.args.lit ks c.args.ordered.now c.insert_all.new.ordered its c.requires.ordered put

pub returns-in_err-cycle-clause-stays : goal.returns-in_err-cycle-clause-stays
returns-in_err-cycle-clause-stays c =
    let f = c.args.frame.now in
    let n = c.args.at in
    let ks = c.edges_at-places.result.now in
    let its : AreItsEdges f n c.args.lit ks = edges_told f n c.args.lit ks c.requires.more c.requires.next c.known.ensures.partial c.requires.positive c.edges_at-places.ensures in
    let some = c.insert_all.ensures.some c.if-insert_all.false in
    let put = subst (λ (g : Digraph). IsPutIn g c.args.ordered.now c.insert_all.new.ordered (take some.0 ks)) c.graph-graph.ensures.graph some.1 in
    let out = c.remove_all.ensures in
    on_err c.from_residual.result _ (ordered_again f c.args.at some.0 c.args.lit ks c.args.ordered.now c.insert_all.new.ordered c.remove_all.new.ordered its c.requires.ordered put out.size out.part_size out.part (out.order f.graph))

pub returns-clause-kept : goal.returns-clause-kept
returns-clause-kept c =
    let f = c.args.frame.now in
    let n = c.args.at in
    let ks = c.edges_at-places.result.now in
    let its : AreItsEdges f n c.args.lit ks = edges_told f n c.args.lit ks c.requires.more c.requires.next c.known.ensures.partial c.requires.positive c.edges_at-places.ensures in
    let some = c.insert_all.ensures.some c.if-insert_all.false in
    let put = subst (λ (g : Digraph). IsPutIn g c.args.ordered.now c.insert_all.new.ordered (take some.0 ks)) c.graph-graph.ensures.graph some.1 in
    let out = c.remove_all.ensures in
    let closes = c.insert_all.ensures.cycle c.if-insert_all.false (sure_parts f (n + 1)) (closed_by f n c.args.lit ks c.args.ordered.now its c.requires.ordered) in
    let cycle = subst (λ (g : Digraph). IsTrue (is_cycle g (sure_parts f (n + 1)) c.insert_all.new.ordered.cycle)) c.graph-graph.ensures.graph closes in
    record {
      within = omega arith;
      cycle = subst (λ (js : List ℕ). IsTrue (is_cycle f.graph (sure_parts f (n + 1)) js)) (sym (c.in_ok-cycle.ensures.items ∙ c.cycle.ensures)) cycle;
      ordered = ordered_again f n some.0 c.args.lit ks c.args.ordered.now c.insert_all.new.ordered c.remove_all.new.ordered its c.requires.ordered put out.size out.part_size out.part (out.order f.graph);
    }
