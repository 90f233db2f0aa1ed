use Rattle.mono_dynamic.proofs.Lacking.{sized_new}
use Rattle.mono_dynamic.proofs.targets_by_source.TargetsBySource.new.Goals as goal

pub invariant_of-result : goal.invariant_of-result
invariant_of-result c = sized_new c.args.nodes c.in_ok-new.field-0 c.args.sources.now c.in_ok-rows.rows.items c.in_ok-rows.ensures c.in_ok-new.ensures
