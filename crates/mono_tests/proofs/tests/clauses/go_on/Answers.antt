use Rattle.std.proofs.Common.{◌<◌, ◌≤◌, arith, sym, subst}
use Rattle.mono_trail.specs.TrailView.{TrailView}
use Rattle.mono_clauses.specs.Propagation.{FoundIs, QuietFound, FalseFound}
use Rattle.mono_clauses.specs.Store.{Follows}
use Rattle.mono_clauses.specs.declared.found.Found.{Found}
use Rattle.mono_tests.proofs.tests.clauses.go_on.Goals as goal

pub returns-else-level-eq0 : goal.returns-else-level-eq0
returns-else-level-eq0 c =
    let f : FalseFound c.args.store.now c.args.trail.now c.in-False.field-0 = subst (λ (o : Found). FoundIs c.args.store.now c.args.trail.now o) c.in-False.is c.requires in
    let lt : c.min.result < c.args.trail.now.level = omega (arith, c.min.ensures, c.level-level.ensures.value) in
    subst (λ (t : TrailView). Follows c.args.store.now t) (sym c.backjump.ensures)
    (c.going_below_restores.ensures c.args.store.now c.args.trail.now c.min.result c.level-level.ensures.sound lt f.follows)

pub returns-in_default : goal.returns-in_default
returns-in_default c =
    let q : QuietFound c.args.store.now c.args.trail.now = subst (λ (o : Found). FoundIs c.args.store.now c.args.trail.now o) c.in-Quiet.is c.requires in
    let le : c.min-in_default.result ≤ c.args.trail.now.level = omega (arith, c.min-in_default.ensures, c.level-level.ensures.value) in
    subst (λ (t : TrailView). Follows c.args.store.now t) (sym c.backjump-in_default.ensures)
    (c.going_back_keeps.ensures c.args.store.now c.args.trail.now c.min-in_default.result c.level-level.ensures.sound le q.follows)

pub returns-in-Some-open_literal : goal.returns-in-Some-open_literal
returns-in-Some-open_literal c =
    let q : QuietFound c.args.store.now c.args.trail.now = subst (λ (o : Found). FoundIs c.args.store.now c.args.trail.now o) c.in-Quiet.is c.requires in
    subst (λ (t : TrailView). Follows c.args.store.now t) (sym c.decide.ensures)
    (c.deciding_keeps.ensures c.args.store.now c.args.trail.now c.in-Some-open_literal.lit c.level-level.ensures.sound q.all_given q.follows)
