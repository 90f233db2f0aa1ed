use Rattle.std.proofs.Common.{arith, ◌≡◌}
use Rattle.mono_trail.specs.TrailView.{count_to}
use Rattle.mono_trail.proofs.Levels.{count_all, count_within, start_read}
use Rattle.mono_trail.proofs.trail.Trail.count_to.Goals as goal

pub returns-then-level-self-clause-within : goal.returns-then-level-self-clause-within
returns-then-level-self-clause-within c =
    let kept = c.self.invariant.0 in
    let start : c.index.result.now ≡ count_to c.args.level c.self.inside.marks.items = start_read c.self.inside.starts.items c.self.inside.marks.items c.self.inside.level c.args.level c.index.result.now kept.starts_are c.if-level-self.true c.index.ensures in
    rw (← c.self.view_is) (omega (arith, start, count_within c.args.level c.self.inside.marks.items, kept.sound.as_many))

pub returns-else-level-self-clause-count : goal.returns-else-level-self-clause-count
returns-else-level-self-clause-count c =
    let kept = c.self.invariant.0 in
    rw (← c.self.view_is) (omega (arith, c.len.ensures, kept.sound.as_many, count_all 0 c.self.inside.marks.items c.self.inside.level c.args.level kept.sound.climbs c.if-level-self.false))
