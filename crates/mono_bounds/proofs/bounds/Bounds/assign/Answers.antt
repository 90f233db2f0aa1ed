use Rattle.mono_bounds.proofs.bounds.Bounds.assign.Goals as goal

pub assign_at-requires : goal.assign_at-requires
assign_at-requires c = rw c.var.ensures.value at c.find-span.ensures
