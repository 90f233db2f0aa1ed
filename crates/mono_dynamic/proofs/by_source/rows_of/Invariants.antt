use Rattle.std.proofs.Common.{◌≡◌, map, take}
use Rattle.mono_dynamic.proofs.by_source.rows_of.Given as goal

abbrev pub invariant-loop-source : goal.invariant-loop-source
invariant-loop-source g l = l.rows.items ≡ map (g.R.SourceRow.at_first l.nodes) (take l.source-index l.sources)
