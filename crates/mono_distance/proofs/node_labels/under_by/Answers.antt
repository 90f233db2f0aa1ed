use Rattle.mono_distance.proofs.SureLabels.{labels_uncut}
use Rattle.mono_distance.proofs.node_labels.under_by.Goals as goal

pub under_by_rows-requires-clause-right : goal.under_by_rows-requires-clause-right
under_by_rows-requires-clause-right c =
    let h = rw c.in-Rows.is at c.requires.right in
    rw (c.looked.ensures, c.rows.ensures) (labels_uncut {f = c.args.frame.now} c.in-Rows.kept.looked h.looked h.rows)
