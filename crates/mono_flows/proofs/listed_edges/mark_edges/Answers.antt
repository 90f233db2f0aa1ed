use Rattle.std.proofs.Common.{◌≡◌, ◌<◌, false, get_or, length, sym, ◌∙◌, refl, arith}
use Rattle.std.specs.List.{list_all}
use Rattle.std.proofs.lemmas.List.{get_or_read}
use Rattle.std.proofs.lemmas.List.Folds.{list_all_at}
use Rattle.mono_graph.specs.Digraph.{is_distinct}
use Rattle.mono_graph.specs.declared.amount.Amount.{Amount}
use Rattle.mono_flows.specs.Listed.{edges_of, can_carry}
use Rattle.mono_flows.proofs.ListedSums.{no_amount, edges_marked_more, edge_again, marked_listed, fails_first, fails_then}
use Rattle.mono_flows.proofs.listed_edges.mark_edges.Goals as goal
use Rattle.mono_flows.proofs.listed_edges.mark_edges.Goals.{then-index-via-then-index, then-index-via-else-index+then-not-can_carry}

pub returns-then-index-clause-marked : goal.returns-then-index-clause-marked
returns-then-index-clause-marked c = λ k here. marked_listed c.args.amounts.now c.loop-amount.amount-index k (sym (c.loop-amount.invariant.marked k) ∙ here)

pub returns-then-index-clause-passes : goal.returns-then-index-clause-passes
returns-then-index-clause-passes c =
    let a : Amount = get_or c.args.amounts.now c.loop-amount.amount-index no_amount in
    let known : a.edge < length c.args.network.now.graph.now.edges = c.requires.known c.loop-amount.amount-index no_amount c.loop-amount-test.true in
    let old : c.index.result.now ≡ get_or c.loop-amount.listed.items a.edge false = get_or_read c.loop-amount.listed.items a.edge c.index.result.now (let len = c.loop-amount.invariant.len in omega arith) c.index.ensures false in
    elim c.then-index.branch [
      | then-index-via-then-index w ↦
          fails_first (is_distinct (edges_of c.args.amounts.now)) (list_all (can_carry c.args.network.now.graph.now c.args.network.now.part.now) c.args.amounts.now)
          (edge_again c.args.network.now.graph.now c.args.network.now.part.now c.loop-amount.listed.items c.args.amounts.now c.loop-amount.amount-index a c.loop-amount-test.true refl c.loop-amount.invariant (sym old ∙ w.if-index.true))
      | then-index-via-else-index+then-not-can_carry w ↦
          fails_then (is_distinct (edges_of c.args.amounts.now)) (list_all (can_carry c.args.network.now.graph.now c.args.network.now.part.now) c.args.amounts.now)
          (list_all_at (can_carry c.args.network.now.graph.now c.args.network.now.part.now) c.args.amounts.now c.loop-amount.amount-index no_amount c.loop-amount-test.true (sym w.can_carry.ensures.passes ∙ w.if-not-can_carry.true))
    ]

pub loop-amount-preserved : goal.loop-amount-preserved
loop-amount-preserved c =
    let a : Amount = get_or c.args.amounts.now c.loop-amount.amount-index no_amount in
    let known : a.edge < length c.args.network.now.graph.now.edges = c.requires.known c.loop-amount.amount-index no_amount c.loop-amount-test.true in
    let old : c.index.result.now ≡ get_or c.loop-amount.listed.items a.edge false = get_or_read c.loop-amount.listed.items a.edge c.index.result.now (let len = c.loop-amount.invariant.len in omega arith) c.index.ensures false in
    edges_marked_more c.args.network.now.graph.now c.args.network.now.part.now c.loop-amount.listed.items c.args.amounts.now c.loop-amount.amount-index a c.loop-amount-test.true refl known
    (sym old ∙ c.if-index.false) (sym c.can_carry.ensures.passes ∙ c.if-not-can_carry.false) (c.can_carry.ensures.small c.if-not-can_carry.false) c.loop-amount.invariant
