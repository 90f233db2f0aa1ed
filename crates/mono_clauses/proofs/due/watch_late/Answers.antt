use Rattle.std.proofs.Common.{◌≡◌, ℕ, List, arith, ap, subst, ◌∙◌, Some}
use Rattle.std.specs.Prelude.{ℤ}
use Rattle.std.specs.Option.{option_map}
use Rattle.mono_base.specs.Literal.{var_of}
use Rattle.mono_clauses.proofs.DueClauses.{second_idle, tried_true}
use Rattle.mono_clauses.proofs.LateWatches.{attach_late, attach_alone}
use Rattle.mono_clauses.specs.Store.{clause_at}
use Rattle.mono_clauses.specs.Visits.{IsLate}
use Rattle.mono_trail.specs.Places.{place_in, level_at}
use Rattle.mono_clauses.proofs.due.watch_late.Goals as goal
use Rattle.mono_clauses.proofs.due.watch_late.Goals.{In-Some}

pub returns-in_default : goal.returns-in_default
returns-in_default c = tried_true c.args.clauses.now.list c.args.watches.now c.args.trail.now c.args.place c.args.first c.requires.following c.requires.has c.requires.holds

pub returns-then-level-gt0 : goal.returns-then-level-gt0
returns-then-level-gt0 c = tried_true c.args.clauses.now.list c.args.watches.now c.args.trail.now c.args.place c.args.first c.requires.following c.requires.has c.requires.holds

own : (c : In-Some) → Some c.in-Some.level ≡ option_map (level_at c.args.trail.now.marks) (place_in c.args.trail.now.lits (var_of c.args.first))
own c = c.in-Some.ensures ∙ ap (λ (n : ℕ). option_map (level_at c.args.trail.now.marks) (place_in c.args.trail.now.lits n)) c.var.ensures.value

pub attach_both-requires-clause-both : goal.attach_both-requires-clause-both
attach_both-requires-clause-both c = second_idle c.args.clauses.now.list c.args.watches.now.watched c.args.place c.requires.following.paired c.requires.idle

pub attach_both-requires-2-clause-both : goal.attach_both-requires-2-clause-both
attach_both-requires-2-clause-both c = second_idle c.args.clauses.now.list c.args.watches.now.watched c.args.place c.requires.following.paired c.requires.idle

pub returns-in_default-late : goal.returns-in_default-late
returns-in_default-late c =
    attach_alone c.args.clauses.now.list c.args.watches.now c.attach_both.new.self c.args.trail.now c.args.place c.in-Some.level c.args.first c.known.ensures.sound c.requires.following c.requires.in_range c.requires.has c.requires.holds (own (goal.at.returns-in_default-late c).In-Some) (omega arith) c.attach_both.ensures

pub returns : goal.returns
returns c =
    let l : IsLate c.args.trail.now c.literals-clause.result.now c.args.first c.in-Some.level c.in-Some-late.second = c.in-Some-late.ensures in
    let here : IsLate c.args.trail.now (clause_at c.args.clauses.now.list c.args.place).lits c.args.first c.in-Some.level c.in-Some-late.second = subst (λ (d : List ℤ). IsLate c.args.trail.now d c.args.first c.in-Some.level c.in-Some-late.second) c.literals-clause.ensures.value l in
    attach_late c.args.clauses.now.list c.args.watches.now c.attach_both-2.new.self c.args.trail.now c.args.place c.in-Some.level c.args.first c.in-Some-late.second c.known.ensures.sound c.requires.following c.requires.in_range c.requires.has c.requires.holds (own (goal.at.returns c).In-Some) here c.attach_both-2.ensures
