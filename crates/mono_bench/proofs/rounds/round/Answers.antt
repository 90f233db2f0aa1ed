use Rattle.std.proofs.Common.{◌<◌, ◌≤◌, arith, sym, subst}
use Rattle.mono_trail.specs.TrailView.{TrailView}
use Rattle.mono_clauses.specs.Propagation.{QuietFound, FalseFound}
use Rattle.mono_clauses.specs.Store.{Follows}
use Rattle.mono_bench.proofs.rounds.round.Goals as goal

pub returns-in-Some-clause-follows : goal.returns-in-Some-clause-follows
returns-in-Some-clause-follows c =
    let q : QuietFound c.propagate-found.new.self c.propagate-found.new.trail = c.in-Quiet.ensures.found in
    subst (λ (t : TrailView). Follows c.propagate-found.new.self t) (sym c.decide.ensures)
    (c.deciding_keeps.ensures c.propagate-found.new.self c.propagate-found.new.trail c.in-Some.lit c.level-level.ensures.sound q.all_given q.follows)

pub returns-else-level-eq0-clause-follows : goal.returns-else-level-eq0-clause-follows
returns-else-level-eq0-clause-follows c =
    let f : FalseFound c.propagate-found.new.self c.propagate-found.new.trail c.in-False.field-0 = c.in-False.ensures.found in
    let lt : c.back-to.result < c.propagate-found.new.trail.level = omega (arith, c.back-to.ensures, c.level-level.ensures.value) in
    subst (λ (t : TrailView). Follows c.propagate-found.new.self t) (sym c.backjump.ensures)
    (c.going_below_restores.ensures c.propagate-found.new.self c.propagate-found.new.trail c.back-to.result c.level-level.ensures.sound lt f.follows)

pub returns-else-level-eq0-2-clause-follows : goal.returns-else-level-eq0-2-clause-follows
returns-else-level-eq0-2-clause-follows c =
    let q : QuietFound c.propagate-found.new.self c.propagate-found.new.trail = c.in-Quiet.ensures.found in
    let le : c.back-to-in-Quiet.result ≤ c.propagate-found.new.trail.level = omega (arith, c.back-to-in-Quiet.ensures, c.level-level.ensures.value) in
    subst (λ (t : TrailView). Follows c.propagate-found.new.self t) (sym c.backjump-in-Quiet.ensures)
    (c.going_back_keeps.ensures c.propagate-found.new.self c.propagate-found.new.trail c.back-to-in-Quiet.result c.level-level.ensures.sound le q.follows)
