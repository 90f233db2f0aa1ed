use Rattle.std.proofs.Common.{sym}
use Rattle.mono_trail.proofs.Values.{open_read, set_read}
use Rattle.mono_trail.proofs.Places.{place_none, place_found}
use Rattle.mono_trail.proofs.trail.Trail.place_of.Goals as goal

pub returns-in-Unset : goal.returns-in-Unset
returns-in-Unset c =
    let in_range = rw (← c.self.view_is) at c.requires in
    let unset = open_read c.self.inside.vars c.self.inside.lits.items c.self.inside.values.items c.args.var c.index.result.now c.self.invariant.0.values_are in_range c.index.ensures c.in-Unset.is in
    rw (← c.self.view_is) (sym (place_none c.self.inside.lits.items c.args.var unset))

pub returns-in_default : goal.returns-in_default
returns-in_default c =
    let in_range = rw (← c.self.view_is) at c.requires in
    let has = set_read c.self.inside.vars c.self.inside.lits.items c.self.inside.values.items c.args.var c.index.result.now c.self.invariant.0.values_are in_range c.index.ensures c.in_default.not-Unset in
    rw (← c.self.view_is) (place_found c.self.inside.vars c.self.inside.lits.items c.self.inside.places.items c.args.var c.index-in_default.result.now c.self.invariant.0.places_are in_range.1 has c.index-in_default.ensures)
