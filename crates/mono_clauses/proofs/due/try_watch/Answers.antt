use Rattle.std.proofs.Common.{List, subst}
use Rattle.std.specs.Prelude.{ℤ}
use Rattle.mono_clauses.proofs.DueClauses.{second_idle, attach_watched}
use Rattle.mono_clauses.specs.ClauseValues.{IsAnotherUnfalse, IsUnfalse}
use Rattle.mono_clauses.specs.Store.{clause_at}
use Rattle.mono_clauses.proofs.due.try_watch.Goals as goal

pub attach_both-requires-clause-both : goal.attach_both-requires-clause-both
attach_both-requires-clause-both c = second_idle c.args.clauses.now.list c.args.watches.now.watched c.args.place c.requires.following.paired c.requires.idle

pub returns-clause-yes : goal.returns-clause-yes
returns-clause-yes c =
    let one : IsUnfalse c.args.trail.now.lits c.literals-clause.result.now c.in-Some.first = c.in-Some.ensures.some in
    let two : IsAnotherUnfalse c.args.trail.now.lits c.literals-clause.result.now c.in-Some.first c.in-Some-another_unfalse.second = c.in-Some-another_unfalse.ensures.some in
    let one_here : IsUnfalse c.args.trail.now.lits (clause_at c.args.clauses.now.list c.args.place).lits c.in-Some.first = subst (λ (d : List ℤ). IsUnfalse c.args.trail.now.lits d c.in-Some.first) c.literals-clause.ensures.value one in
    let two_here : IsAnotherUnfalse c.args.trail.now.lits (clause_at c.args.clauses.now.list c.args.place).lits c.in-Some.first c.in-Some-another_unfalse.second = subst (λ (d : List ℤ). IsAnotherUnfalse c.args.trail.now.lits d c.in-Some.first c.in-Some-another_unfalse.second) c.literals-clause.ensures.value two in
    attach_watched c.args.clauses.now.list c.args.watches.now c.attach_both.new.self c.args.trail.now c.args.place c.in-Some.first c.in-Some-another_unfalse.second c.known.ensures.sound c.requires.following c.requires.in_range one_here two_here c.attach_both.ensures
