use Rattle.std.proofs.Common.{◌≡◌, map, take}
use Rattle.mono_dynamic.specs.Targets.{unsearched}
use Rattle.mono_dynamic.proofs.targets_by_source.rows_of.Given as goal

abbrev pub invariant-loop-source : goal.invariant-loop-source
invariant-loop-source l = l.rows.items ≡ map (unsearched l.nodes) (take l.source-index l.sources)
