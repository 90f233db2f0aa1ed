use Rattle.std.proofs.Common.{arith}
use Rattle.mono_trees.proofs.Spans.{spanning_is}
use Rattle.mono_trees.proofs.spanning.is_spanning.Goals as goal

pub returns-clause-spans : goal.returns-clause-spans
returns-clause-spans c =
    spanning_is c.args.graph.now c.args.edges.now c.join_all.new.components c.are_all_joined.result (omega arith) c.requires.places c.join_all.ensures.nodes c.in_ok-join_all.ensures.tells c.are_all_joined.ensures
