use Rattle.std.proofs.Common.{◌≡◌, List, false, get_or, take, arith, subst}
use Rattle.std.proofs.lemmas.Bool.{both_ways, false_from_ne_true}
use Rattle.std.proofs.lemmas.List.{take_all}
use Rattle.mono_graph.specs.declared.amount.Amount.{Amount}
use Rattle.mono_graph.specs.Digraph.{has}
use Rattle.mono_graph.proofs.Prefixes.{Cleared, cleared_all}
use Rattle.mono_flows.specs.Listed.{edges_of}
use Rattle.mono_flows.proofs.listed_edges.unmark_edges.Goals as goal

pub returns-clause-clear : goal.returns-clause-clear
returns-clause-clear c =
    let whole : take c.loop-amount.amount-index c.args.amounts.now ≡ c.args.amounts.now = take_all c.loop-amount.amount-index c.args.amounts.now (omega arith) in
    let done = subst (λ (amounts : List Amount). Cleared false c.args.listed.now.items c.loop-amount.listed.items (edges_of amounts)) whole c.loop-amount.invariant in
    λ h k. cleared_all false c.args.listed.now.items c.loop-amount.listed.items (edges_of c.args.amounts.now) done k
    (λ off. false_from_ne_true (get_or c.args.listed.now.items k false) (λ t. both_ways (has (edges_of c.args.amounts.now) k) off (h k t)))
