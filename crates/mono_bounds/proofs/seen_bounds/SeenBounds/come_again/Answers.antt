use Rattle.mono_bounds.proofs.seen_bounds.SeenBounds.come_again.Goals as goal

pub advance-requires-clause-bounds : goal.advance-requires-clause-bounds
advance-requires-clause-bounds c = rw (← c.self.view_is) at c.requires.bound

pub advance-requires-clause-spans : goal.advance-requires-clause-spans
advance-requires-clause-spans c = rw c.as_slice.ensures.value (rw (← c.self.view_is) at c.requires.spans)
