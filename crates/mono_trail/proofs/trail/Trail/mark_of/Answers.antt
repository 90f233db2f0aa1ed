use Rattle.std.proofs.Common.{◌≡◌, ◌∙◌, sym, ap, arith}
use Rattle.std.specs.Prelude.{Some}
use Rattle.mono_trail.specs.Places.{place_in}
use Rattle.mono_trail.proofs.Places.{mark_within, mark_read}
use Rattle.mono_trail.proofs.trail.Trail.mark_of.Goals as goal
use Rattle.mono_trail.proofs.trail.Trail.mark_of.Goals.{After-self}

place_is : (c : After-self) → place_in c.self.inside.lits.items c.args.var ≡ Some c.in_ok-place.place
place_is c = rw (← c.self.view_is) at (sym c.place_of.ensures ∙ c.in_ok-place.was)

pub index-requires : goal.index-requires
index-requires c = let after : After-self = (goal.at.index-requires c).After-self in omega (arith, mark_within c.args.var c.in_ok-place.place c.self.invariant.0.sound (place_is after))

pub returns : goal.returns
returns c =
    let place : place_in c.self.inside.lits.items c.args.var ≡ Some c.in_ok-place.place = place_is (goal.at.returns c).After-self in
    rw (← c.self.view_is, place) (ap Some (mark_read c.args.var c.in_ok-place.place c.index.result.now c.self.invariant.0.sound place c.index.ensures))
