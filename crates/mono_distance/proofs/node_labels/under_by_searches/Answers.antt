use Rattle.std.proofs.Common.{false, arith}
use Rattle.mono_distance.proofs.ReadLabels.{searches_reach}
use Rattle.mono_distance.proofs.node_labels.under_by_searches.Goals as goal

pub returns-in-Some-clause-reached : goal.returns-in-Some-clause-reached
returns-in-Some-clause-reached c =
    let x = c.args.asked in
    let right = (rw c.in-Some.is at c.shown_witness.ensures.right) c.args.frame.now false c.requires.right.side in
    searches_reach c.args.frame.now c.args.place x.from x.to c.args.node c.number_of.result x.limit _ c.requires.asked c.if-node-asked.false c.number_of.ensures c.requires.kind right

pub shown_witness-requires : goal.shown_witness-requires
shown_witness-requires c = (let len = c.requires.right.side.stages_len in omega (arith, len, c.requires.place))
