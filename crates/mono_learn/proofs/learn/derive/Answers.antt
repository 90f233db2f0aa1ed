use Rattle.std.proofs.Common.{◌≡◌, ◌<◌, ◌-◌, ◌∙◌, sym, ap, subst, ℕ, length, ◌≤◌}
use Rattle.mono_steps.specs.Steps.{clauses_after}
use Rattle.mono_trail.specs.TrailView.{TrailView, count_to}
use Rattle.mono_learn.specs.Resolving.{AllImplied, IsAtLast}
use Rattle.mono_learn.proofs.LevelsByPlace.{all_implied, begins_at, starts_same}
use Rattle.mono_learn.proofs.Asking.{asks_same}
use Rattle.mono_learn.proofs.Learning.{start_within}
use Rattle.std.proofs.lemmas.Result.{IfOk-weaker}
use Rattle.mono_learn.specs.FirstPoint.{IsTaught}
use Rattle.mono_learn.proofs.learn.derive.Goals as goal

pub returns-in_err-analysis-clause-asks : goal.returns-in_err-analysis-clause-asks
returns-in_err-analysis-clause-asks g c = asks_same c.args.problem.now c.args.trail.now c.new.new.trail c.args.journal.now c.new.ensures.same

pub begin-requires-clause-start : goal.begin-requires-clause-start
begin-requires-clause-start g c =
    let lt = start_within (clauses_after c.args.problem.now c.args.journal.now) c.args.trail.now c.count_to-start.result c.args.conflict c.requires.level (begins_at c.args.trail.now c.level.result c.count_to-start.result c.level.ensures.value c.count_to-start.ensures.count) c.requires.conflict in
    rw c.in_ok-analysis.ensures.start (subst (λ (t : TrailView). c.count_to-start.result < length t.lits) (sym c.new.ensures.same) lt)

pub returns-in_err-begin-clause-asks : goal.returns-in_err-begin-clause-asks
returns-in_err-begin-clause-asks g c = asks_same c.args.problem.now c.args.trail.now c.new.new.trail c.args.journal.now c.new.ensures.same

pub resolve_until_one-requires-clause-implied : goal.resolve_until_one-requires-clause-implied
resolve_until_one-requires-clause-implied g c = rw (c.begin.ensures.start, c.in_ok-analysis.ensures.start) (subst (λ (t : TrailView). AllImplied t c.count_to-start.result) (sym c.new.ensures.same) (all_implied c.args.trail.now c.count_to-start.result c.requires.sound c.requires.level (begins_at c.args.trail.now c.level.result c.count_to-start.result c.level.ensures.value c.count_to-start.ensures.count)))

pub finish-requires-clause-last : goal.finish-requires-clause-last
finish-requires-clause-last g c =
    let same : c.resolve_until_one.new.self.start ≡ count_to (c.resolve_until_one.new.trail.level - 1) c.resolve_until_one.new.trail.marks =
    c.resolve_until_one.ensures.start ∙ c.begin.ensures.start ∙ c.in_ok-analysis.ensures.start ∙ begins_at c.args.trail.now c.level.result c.count_to-start.result c.level.ensures.value c.count_to-start.ensures.count ∙ ap (λ (t : TrailView). count_to (t.level - 1) t.marks) (sym c.new.ensures.same) ∙ starts_same (clauses_after c.args.problem.now c.resolve_until_one.new.journal) c.new.new.trail c.resolve_until_one.new.trail c.resolve_until_one.ensures.asks.settles in
    subst (λ (n : ℕ). IsAtLast (clauses_after c.args.problem.now c.resolve_until_one.new.journal) c.resolve_until_one.new.trail.lits n c.in_ok-last.last c.resolve_until_one.new.self.resolvent c.resolve_until_one.new.self.used.items) same c.in_ok-last.ensures.last

pub resolve_until_one-requires-clause-level : goal.resolve_until_one-requires-clause-level
resolve_until_one-requires-clause-level g c = subst (λ (t : TrailView). 1 ≤ t.level) (sym c.new.ensures.same) c.requires.level

pub resolve_until_one-requires-clause-start : goal.resolve_until_one-requires-clause-start
resolve_until_one-requires-clause-start g c = c.begin.ensures.start ∙ c.in_ok-analysis.ensures.start ∙ begins_at c.args.trail.now c.level.result c.count_to-start.result c.level.ensures.value c.count_to-start.ensures.count ∙ ap (λ (t : TrailView). count_to (t.level - 1) t.marks) (sym c.new.ensures.same)

pub returns-clause-taught : goal.returns-clause-taught
returns-clause-taught g c = IfOk-weaker c.finish.result _ _ (λ d f. subst (λ (t : TrailView). IsTaught (clauses_after c.args.problem.now c.resolve_until_one.new.journal) t c.args.conflict d.lits.items) (sym c.finish.ensures.same) (f c.args.conflict (c.in_ok-last.ensures.leads c.args.conflict c.in_ok-begin.ensures.leads))) c.finish.ensures.taught
