use Rattle.mono_bounds.proofs.SpansStay.{spans_of_none}
use Rattle.mono_bounds.proofs.seen_bounds.SeenBounds.new.Goals as goal

pub returns-clause-bounds : goal.returns-clause-bounds
returns-clause-bounds c = record { bound = c.in_ok-bounds.ensures; spans = rw c.in_ok-spans.ensures.items (spans_of_none c.in_ok-bounds.bounds) }
