use Rattle.std.proofs.Common.{rules}
use Rattle.mono_bounds.proofs.seen_bounds.SeenBounds.undo_to.Goals as goal

pub undo_bounds_to-requires-clause-bounds : goal.undo_bounds_to-requires-clause-bounds
undo_bounds_to-requires-clause-bounds c = rw (← c.self.view_is) at c.requires.bound

pub undo_bounds_to-requires-clause-spans : goal.undo_bounds_to-requires-clause-spans
undo_bounds_to-requires-clause-spans c = rw c.as_slice.ensures.value (rw (← c.self.view_is) at c.requires.spans)

pub returns-clause-spans : goal.returns-clause-spans
returns-clause-spans c = search rules
