use Rattle.mono_base.proofs.Worklists.{empty_is}
use Rattle.mono_base.proofs.worklist.Worklist.empty.Goals as goal

pub invariant_of-result : goal.invariant_of-result
invariant_of-result c = empty_is c.args.count c.in_ok-marks_off.field-0.items c.in_ok-with_capacity.field-0.items _ c.in_ok-marks_off.ensures c.in_ok-with_capacity.ensures.items c.in_ok-with_capacity.ensures.capacity
