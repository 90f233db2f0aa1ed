use Rattle.std.proofs.Common.{◌≡◌, ◌&&◌, true, List, sym, ◌∙◌}
use Rattle.std.specs.List.{list_all}
use Rattle.std.proofs.lemmas.Bool.{and_parts}
use Rattle.mono_graph.specs.declared.amount.Amount.{Amount}
use Rattle.mono_graph.specs.Digraph.{is_distinct}
use Rattle.mono_flows.specs.Listed.{edges_of, can_carry}
use Rattle.mono_flows.proofs.KeptFlows.{tested_flow}
use Rattle.mono_flows.proofs.kept_flow.value_in.Goals as goal

pub returns-clause-flow : goal.returns-clause-flow
returns-clause-flow c =
    let n = c.args.network.now in
    let xs : List Amount = c.args.amounts.now in
    let marked : (is_distinct (edges_of xs) && list_all (can_carry n.graph.now n.part.now) xs) ≡ true = sym c.mark_edges.ensures.passes ∙ c.if-not-mark_edges.false in
    let parts = and_parts (is_distinct (edges_of xs)) (list_all (can_carry n.graph.now n.part.now) xs) marked in
    tested_flow n.graph.now n.part.now n.source n.sink xs c.add_amounts.new.self.leaving.items c.add_amounts.new.self.entering.items c.in_ok-value.value c.requires.known parts.0 parts.1
    (record { leaving = c.add_amounts.ensures.listed.leaving; entering = c.add_amounts.ensures.listed.entering })
    (sym c.are_balanced.ensures ∙ c.if-not-are_balanced.false) c.in_ok-value.ensures (c.are_within.ensures c.if-not-are_within.false)
