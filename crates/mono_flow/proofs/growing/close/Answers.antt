use Rattle.std.proofs.Common.{◌≡◌, ◌<◌, List, ℕ, length, get_or, sym, ◌∙◌, subst, arith, rules}
use Rattle.std.specs.Prelude.{IsTrue, All}
use Rattle.std.proofs.lemmas.List.{get_or_read}
use Rattle.mono_graph.specs.Digraph.{edge_at, has, leaving, present}
use Rattle.mono_graph.proofs.Membership.{at_places}
use Rattle.mono_graph.proofs.Pigeons.{all_has}
use Rattle.mono_flow.proofs.JoinedNodes.{joined_then, closed_more}
use Rattle.mono_flow.proofs.growing.close.Goals as goal

pub loop-head-preserved : goal.loop-head-preserved
loop-head-preserved c =
    let i = c.loop-head.invariant in
    let g = c.args.graph.now in
    let vs = c.loop-head.set.items in
    let lt : c.loop-head.head < length vs = (let t = c.loop-head-test.true in let len = c.len.ensures in omega arith) in
    let joined = c.join_ends.ensures.joined in
    let node : c.index-node.result.now ≡ get_or vs c.loop-head.head 0 = get_or_read vs c.loop-head.head c.index-node.result.now lt c.index-node.ensures 0 in
    let ends : All (λ k. IsTrue (present c.args.part.now k) → IsTrue (has c.join_ends.new.set.items (edge_at g k).to)) (leaving g c.index-node.result.now) =
    subst (λ (ks : List ℕ). All (λ k. IsTrue (present c.args.part.now k) → IsTrue (has c.join_ends.new.set.items (edge_at g k).to)) ks) c.leaving.ensures.places c.in_ok-join_ends.ensures.closed in
    record {
      joined = joined_then i.joined joined;
      low = (let low = i.low in omega arith);
      closed = closed_more g c.args.part.now c.args.before c.loop-head.head vs c.join_ends.new.set.items lt joined.before joined.kept
          (λ k within start here. all_has (λ j. IsTrue (present c.args.part.now j) → IsTrue (has c.join_ends.new.set.items (edge_at g j).to)) (leaving g c.index-node.result.now) k ends
          (at_places (λ e. e.from) g c.index-node.result.now k within (start ∙ sym node)) here)
          i.closed;
    }

pub returns-clause-outside : goal.returns-clause-outside
returns-clause-outside c = search rules
