use Rattle.mono_bounds.proofs.seen_bounds.SeenBounds.assign.Goals as goal

pub assign_at-requires : goal.assign_at-requires
assign_at-requires c = rw (← c.self.view_is) at c.requires.span
