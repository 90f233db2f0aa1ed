use Rattle.mono_bounds.proofs.bounds.Bounds.undo.Goals as goal

pub undo_at-requires : goal.undo_at-requires
undo_at-requires c = rw c.var.ensures.value at c.find-span.ensures
