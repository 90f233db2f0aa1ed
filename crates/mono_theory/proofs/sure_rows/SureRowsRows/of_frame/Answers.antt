use Rattle.mono_theory.specs.Theories.{cut_to}
use Rattle.mono_theory.proofs.SureRowsStay.{sure_start}
use Rattle.mono_theory.proofs.sure_rows.SureRowsRows.of_frame.Goals as goal

pub returns : goal.returns
returns g c =
    let rows = rw (c.as_slice.ensures.value, c.nodes.ensures.count, c.graph-graph.ensures.graph) at c.in_ok-rows.ensures in
    rw rows (sure_start g.R.SourceRow.at_first g.met.R.ShowsWalks.starts (cut_to 0 c.args.frame.now) c.in_ok-sources.sources.rows.items c.in_ok-sources.sources.row_of.items c.in_ok-targets.targets.items c.requires c.in_ok-sources.ensures.known c.in_ok-sources.ensures.rows
    c.in_ok-targets.ensures.targets c.in_ok-targets.ensures.known)
