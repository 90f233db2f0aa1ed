use Rattle.std.proofs.Common.{arith}
use Rattle.mono_bounds.proofs.Switches.{entries_len, places_are}
use Rattle.mono_bounds.proofs.index.Index.find.Goals as goal

pub span_in-requires : goal.span_in-requires
span_in-requires c = c.self.invariant.index.few

pub returns : goal.returns
returns c = rw (← c.self.view_is)
    (record {
      fits = (let fits = c.span_in.ensures.end_fits in omega (arith, fits, entries_len c.self.invariant));
      places = places_are c.self.inside.keys.items c.self.inside.entries c.self.inside.places.items c.args.key _ _ c.self.invariant c.span_in.ensures;
    })
