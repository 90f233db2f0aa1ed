use Rattle.mono_dynamic.proofs.RowLists.{mapped_more}
use Rattle.mono_dynamic.proofs.by_source.rows_of.Goals as goal

pub loop-source-preserved : goal.loop-source-preserved
loop-source-preserved g c =
    mapped_more (g.R.SourceRow.at_first c.args.nodes) c.args.sources.now c.loop-source.source-index _ c.loop-source.rows.items c.push.new.self.items c.in_ok-row.row c.loop-source-test.true
    c.loop-source.invariant c.in_ok-row.ensures c.in_ok-push.ensures.items
