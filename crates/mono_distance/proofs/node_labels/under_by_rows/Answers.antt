use Rattle.std.proofs.Common.{arith}
use Rattle.mono_theory.specs.Supports.{atom_at}
use Rattle.mono_theory.proofs.SureRowsStay.{row_held}
use Rattle.mono_distance.proofs.ReadLabels.{rows_reach, rows_read}
use Rattle.mono_distance.proofs.SureLabels.{node_held}
use Rattle.mono_distance.proofs.node_labels.under_by_rows.Goals as goal

pub row_label-label-requires-clause-place : goal.row_label-label-requires-clause-place
row_label-label-requires-clause-place c = (let len = c.requires.right.served.len in omega (arith, len, c.requires.place))

pub row_label-label-requires-clause-row : goal.row_label-label-requires-clause-row
row_label-label-requires-clause-row c = row_held c.args.place c.requires.place c.requires.right

pub row_label-label-requires-clause-node : goal.row_label-label-requires-clause-node
row_label-label-requires-clause-node c = node_held c.args.place c.args.node c.requires.place c.requires.node c.requires.right

pub returns-clause-value : goal.returns-clause-value
returns-clause-value c =
    let x = c.args.asked in
    rows_read c.args.rows.now c.args.place c.args.node x.from x.to c.row_label-label.result x.limit (atom_at c.args.frame.now.atoms c.args.place).predicate c.where_within.result c.requires.asked c.row_label-label.ensures c.where_within.ensures

pub returns-clause-reached : goal.returns-clause-reached
returns-clause-reached c =
    let x = c.args.asked in
    rows_reach c.args.place c.args.node c.where_within.result c.requires.place c.requires.node c.requires.looked c.requires.right
    (rows_read c.args.rows.now c.args.place c.args.node x.from x.to c.row_label-label.result x.limit (atom_at c.args.frame.now.atoms c.args.place).predicate c.where_within.result c.requires.asked c.row_label-label.ensures c.where_within.ensures)
