use Rattle.std.proofs.Common.{ℕ, List, ◌∙◌, sym, subst, arith}
use Rattle.std.specs.Prelude.{IsTrue}
use Rattle.mono_graph.specs.Cycles.{is_order}
use Rattle.mono_cycles.proofs.Ranked.{order_of}
use Rattle.mono_cycles.proofs.finder.find.Goals as goal

pub loop-root-init : goal.loop-root-init
loop-root-init c = record {
  search = c.clear.ensures.search c.args.graph.now c.args.part.now c.requires.room;
  path = c.clear.ensures.path;
  done = λ u lt. absurd (omega arith);
}

pub returns-clause-passes : goal.returns-clause-passes
returns-clause-passes c =
    let s = c.loop-root.search in
    let i = c.loop-root.invariant in
    let end = c.loop-root-test.false in
    let count = c.nodes-root-end.ensures.count in
    let ordered : IsTrue (is_order c.args.graph.now c.args.part.now s.order.items) =
    order_of c.args.graph.now c.args.part.now s.order.items c.nodes-root-end.ensures.graph.ends i.search.rising i.search.order_once (λ u lt. i.done u (omega arith)) in
    subst (λ (ns : List ℕ). IsTrue (is_order c.args.graph.now c.args.part.now ns)) (sym (c.in_ok-from_slice.ensures.items ∙ c.deref.ensures.value)) ordered
