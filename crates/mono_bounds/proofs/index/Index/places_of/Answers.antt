use Rattle.mono_bounds.proofs.index.Index.places_of.Goals as goal

pub places_at-requires : goal.places_at-requires
places_at-requires c = c.find.ensures.fits

pub returns : goal.returns
returns c = rw c.places_at.ensures.places c.find.ensures.places
