use Rattle.std.proofs.Common.{arith}
use Rattle.mono_bounds.proofs.SpansStay.{seen_fits, seen_places}
use Rattle.mono_theory.proofs.frame.Frame.edges_at.Goals as goal

pub places-requires-clause-at : goal.places-requires-clause-at
places-requires-clause-at c = (let lt = rw (← c.self.view_is) at c.requires in omega (arith, lt, c.self.invariant.edges.spans.len))

pub places-requires-clause-fits : goal.places-requires-clause-fits
places-requires-clause-fits c = (let lt = rw (← c.self.view_is) at c.requires in seen_fits c.args.place lt c.self.invariant.edges)

pub returns : goal.returns
returns c = (let lt = rw (← c.self.view_is) at c.requires in rw (← c.self.view_is, c.places.ensures) (seen_places c.args.place lt c.self.invariant.edges))
