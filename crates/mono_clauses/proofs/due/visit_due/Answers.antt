use Rattle.std.proofs.Common.{◌≡◌, ◌∙◌, refl, sym, arith, get_or}
use Rattle.std.proofs.lemmas.List.{get_or_read}
use Rattle.mono_clauses.proofs.DueClauses.{tried_vars, dropped_done}
use Rattle.mono_clauses.proofs.Growth.{Grows-then}
use Rattle.mono_clauses.proofs.AllWatchers.{NoneBefore-same, NoneBefore-then, failed_from}
use Rattle.mono_clauses.specs.Propagation.{same}
use Rattle.mono_clauses.specs.Visits.{Tried, Failed}
use Rattle.mono_clauses.proofs.due.visit_due.Goals as goal

pub due-init : goal.due-init
due-init c = record { vars = c.requires.vars; following = c.requires.following; grows = same c.args.trail.now refl; before = NoneBefore-same c.args.watches.now.watched; kept = c.requires.due; done = λ j lt. absurd (omega (arith, lt)) }

pub returns-in-Some-clause-some : goal.returns-in-Some-clause-some
returns-in-Some-clause-some c =
    let f : Failed c.args.clauses.now.list c.due.watches c.try_due.new.watches c.due.trail c.try_due.new.trail c.in-Some.number = c.in-Some.ensures.some in
    failed_from c.args.clauses.now.list c.args.watches.now c.due.watches c.try_due.new.watches c.args.trail.now c.due.trail c.try_due.new.trail c.in-Some.number c.due.invariant.before c.due.invariant.grows f

pub due-preserved : goal.due-preserved
due-preserved c =
    let q : Tried c.args.clauses.now.list c.due.watches c.try_due.new.watches c.due.trail c.try_due.new.trail c.index-place.result.now = c.in_default.ensures.none in
    let here : c.index-place.result.now ≡ get_or c.due.due.items c.due.next 0 = get_or_read c.due.due.items c.due.next c.index-place.result.now (omega (arith, c.due-test.true, c.len.ensures)) c.index-place.ensures 0 in
    record {
      vars = c.due.invariant.vars ∙ sym (tried_vars c.args.clauses.now.list c.due.watches c.try_due.new.watches c.due.trail c.try_due.new.trail c.index-place.result.now c.due.invariant.following q);
      following = q.following;
      grows = Grows-then c.args.clauses.now.list c.args.trail.now c.due.trail c.try_due.new.trail c.due.invariant.grows q.grows;
      before = NoneBefore-then _ _ _ c.due.invariant.before q.before;
      kept = c.drop_watched-next.ensures.due;
      done = dropped_done c.args.clauses.now.list c.due.watches c.try_due.new.watches c.due.trail c.try_due.new.trail c.due.due.items c.drop_watched-next.new.due.items c.due.next c.drop_watched-next.result c.index-place.result.now here c.due.invariant.done q c.drop_watched-next.ensures;
    }
