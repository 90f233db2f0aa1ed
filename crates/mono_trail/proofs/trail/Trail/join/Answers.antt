use Rattle.std.proofs.Common.{arith, ◌≡◌, refl, length}
use Rattle.mono_trail.proofs.Keeps.{HasRoom, has_room, kept_join}
use Rattle.mono_trail.proofs.trail.Trail.join.Goals as goal
use Rattle.mono_trail.proofs.trail.Trail.join.Goals.{After-self}
use Rattle.mono_trail.specs.TrailView.{TrailView}

abbrev before : After-self → TrailView
before c = record { vars = c.self.inside.vars; lits = c.self.inside.lits.items; marks = c.self.inside.marks.items; level = c.self.inside.level; given = c.self.inside.given }

room : (c : After-self) → HasRoom (before c)
room c = has_room (before c) c.args.lit c.self.invariant.0.sound (rw (← c.self.view_is) at c.requires.in_range) (rw (← c.self.view_is) at c.requires.is_open)

pub begin-level-requires-clause-fits : goal.begin-level-requires-clause-fits
begin-level-requires-clause-fits c =
    let after : After-self = (goal.at.begin-level-requires-clause-fits c).After-self in
    omega (arith, (room after).lits, (room after).level, c.self.invariant.0.sound.few)

pub begin-level-requires-clause-room : goal.begin-level-requires-clause-room
begin-level-requires-clause-room c =
    let after : After-self = (goal.at.begin-level-requires-clause-room c).After-self in
    omega (arith, (room after).lits, (room after).level, c.self.invariant.0.starts_are.levels, c.self.invariant.0.starts_fit)

pub put-requires : goal.put-requires
put-requires c =
    let after : After-self = (goal.at.put-requires c).After-self in
    omega (arith, (room after).lits, c.self.invariant.0.lits_fit)

pub put-requires-2 : goal.put-requires-2
put-requires-2 c =
    let after : After-self = (goal.at.put-requires-2 c).After-self in
    omega (arith, (room after).lits, c.self.invariant.0.marks_fit, c.self.invariant.0.sound.as_many)

pub invariant_of-self : goal.invariant_of-self
invariant_of-self c =
    let after : After-self = (goal.at.invariant_of-self c).After-self in
    let in_range = rw (← c.self.view_is) at c.requires.in_range in
    let is_open = rw (← c.self.view_is) at c.requires.is_open in
    let place : c.len-place.result ≡ length c.self.inside.lits.items = omega (arith, c.len-place.ensures) in (
      kept_join (before after) _ _ _ _ _ _ _ _ _ _ _ _ _ c.args.lit c.args.reason c.self.invariant.0 in_range is_open
          (rw (c.put.ensures.items, c.put-2.ensures.items, c.begin-level.ensures.level) refl)
          (rw (c.slot.ensures.value, c.slot-2.ensures.value, c.negated.ensures) refl)
          (rw (c.var.ensures.value, place) refl)
          (rw (c.begin-level.ensures.starts, place) refl)
          c.put.ensures.room c.put-2.ensures.room c.begin-level.ensures.room,
      c.self.invariant.1,
    )
