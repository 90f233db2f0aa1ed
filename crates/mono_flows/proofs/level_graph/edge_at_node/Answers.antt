use Rattle.std.proofs.Common.{◌-◌, length, refl}
use Rattle.mono_flows.proofs.Searches.{places_from, places_to}
use Rattle.mono_flows.proofs.level_graph.edge_at_node.Goals as goal

pub returns-then-number-leaving-clause-start : goal.returns-then-number-leaving-clause-start
returns-then-number-leaving-clause-start c =
    (places_from c.args.graph.now c.args.node c.args.node c.leaving-leaving.result.now refl c.leaving-leaving.ensures.places c.args.number 0 c.if-number-leaving.true).1

pub returns-then-number-entering-clause-start : goal.returns-then-number-entering-clause-start
returns-then-number-entering-clause-start c =
    (places_to c.args.graph.now c.args.node c.args.node c.entering-entering.result.now refl c.entering-entering.ensures.places (c.args.number - length c.leaving-leaving.result.now) 0 c.if-number-entering.true).1
