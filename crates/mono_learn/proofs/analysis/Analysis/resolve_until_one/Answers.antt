use Rattle.std.proofs.Common.{◌≡◌, ◌<◌, ◌-◌, ◌+◌, ℕ, arith, sym, ◌∙◌, ap, subst, refl, length, true, false, List}
use Rattle.std.specs.Prelude.{ℤ}
use Rattle.std.proofs.lemmas.List.{get_or_read}
use Rattle.mono_steps.specs.Steps.{clauses_after}
use Rattle.mono_trail.specs.Seen.{is_marked}
use Rattle.mono_learn.specs.Resolving.{HasCome}
use Rattle.mono_learn.proofs.Asking.{asks_none, asks_more}
use Rattle.mono_learn.proofs.Settling.{decided_before}
use Rattle.mono_learn.proofs.LevelsByPlace.{starts_same}
use Rattle.mono_learn.proofs.Points.{leads_more}
use Rattle.mono_learn.proofs.ResolvingSteps.{start_below, other_left, come_at}
use Rattle.mono_learn.proofs.analysis.Analysis.resolve_until_one.Goals as goal

pub loop-place-init : goal.loop-place-init
loop-place-init g c = record {
  start = refl;
  by = refl;
  asks = asks_none c.args.problem.now c.args.trail.now c.args.journal.now;
  sound = c.requires.sound;
  reasons = c.requires.reasons;
  come = subst (λ (t : List ℤ). HasCome (clauses_after c.args.problem.now c.args.journal.now) c.args.trail.now.lits c.args.self.now.start (length t) c.args.self.now.resolvent c.args.self.now.used.items) (sym c.lits-place.ensures) c.requires.come;
  within = omega (arith, ap (λ (t : List ℤ). length t) c.lits-place.ensures);
  some = c.requires.some;
  leads = λ conflict w. w;
}

pub overflow_sub-place : goal.overflow_sub-place
overflow_sub-place g c =
    let low : c.loop-place.self.start < c.loop-place.place = start_below (clauses_after c.args.problem.now c.loop-place.journal) c.loop-place.trail.lits c.loop-place.self.start c.loop-place.place c.loop-place.self.resolvent c.loop-place.self.used.items c.loop-place.invariant.come c.loop-place.invariant.some in
    omega (arith, low)

pub returns-then-self-eq1-clause-last : goal.returns-then-self-eq1-clause-last
returns-then-self-eq1-clause-last g c =
    let low : c.loop-place.self.start < c.loop-place.place = start_below (clauses_after c.args.problem.now c.loop-place.journal) c.loop-place.trail.lits c.loop-place.self.start c.loop-place.place c.loop-place.self.resolvent c.loop-place.self.used.items c.loop-place.invariant.come c.loop-place.invariant.some in
    let come : HasCome (clauses_after c.args.problem.now c.loop-place.journal) c.loop-place.trail.lits c.loop-place.self.start (c.loop-place.place - 1 + 1) c.loop-place.self.resolvent c.loop-place.self.used.items = come_at (clauses_after c.args.problem.now c.loop-place.journal) c.loop-place.trail.lits c.loop-place.self.start c.loop-place.place c.loop-place.self.resolvent c.loop-place.self.used.items low c.loop-place.invariant.come in
    let marked : is_marked c.loop-place.self.resolvent.seen.items (c.loop-place.place - 1) ≡ true = sym (get_or_read c.loop-place.self.resolvent.seen.items (c.loop-place.place - 1) c.index.result.now (omega (arith, low, c.loop-place.invariant.within, c.loop-place.invariant.come.resolvent.marks.slots)) c.index.ensures false) ∙ c.if-index.true in
    record {
      come = come;
      marked = marked;
      high = omega (arith, low);
      within = omega (arith, low, c.loop-place.invariant.within);
      one = c.if-self-eq1.true;
    }

pub resolve_next-requires-clause-high : goal.resolve_next-requires-clause-high
resolve_next-requires-clause-high g c =
    let low : c.loop-place.self.start < c.loop-place.place = start_below (clauses_after c.args.problem.now c.loop-place.journal) c.loop-place.trail.lits c.loop-place.self.start c.loop-place.place c.loop-place.self.resolvent c.loop-place.self.used.items c.loop-place.invariant.come c.loop-place.invariant.some in
    omega (arith, low)

pub resolve_next-requires-clause-implied : goal.resolve_next-requires-clause-implied
resolve_next-requires-clause-implied g c = λ e.
    let low : c.loop-place.self.start < c.loop-place.place = start_below (clauses_after c.args.problem.now c.loop-place.journal) c.loop-place.trail.lits c.loop-place.self.start c.loop-place.place c.loop-place.self.resolvent c.loop-place.self.used.items c.loop-place.invariant.come c.loop-place.invariant.some in
    let come : HasCome (clauses_after c.args.problem.now c.loop-place.journal) c.loop-place.trail.lits c.loop-place.self.start (c.loop-place.place - 1 + 1) c.loop-place.self.resolvent c.loop-place.self.used.items = come_at (clauses_after c.args.problem.now c.loop-place.journal) c.loop-place.trail.lits c.loop-place.self.start c.loop-place.place c.loop-place.self.resolvent c.loop-place.self.used.items low c.loop-place.invariant.come in
    let marked : is_marked c.loop-place.self.resolvent.seen.items (c.loop-place.place - 1) ≡ true = sym (get_or_read c.loop-place.self.resolvent.seen.items (c.loop-place.place - 1) c.index.result.now (omega (arith, low, c.loop-place.invariant.within, c.loop-place.invariant.come.resolvent.marks.slots)) c.index.ensures false) ∙ c.if-index.true in
    c.requires.implied.at (c.loop-place.place - 1)
    (subst (λ (s : ℕ). s < c.loop-place.place - 1) c.loop-place.invariant.start (other_left (clauses_after c.args.problem.now c.loop-place.journal) c.loop-place.trail.lits c.loop-place.self.start (c.loop-place.place - 1) c.loop-place.self.resolvent c.loop-place.self.used.items come marked (omega (arith, c.loop-place.invariant.some, c.if-self-eq1.false))))
    (omega (arith, low, c.loop-place.invariant.within, ap (λ (t : List ℤ). length t) c.loop-place.invariant.asks.settles.lits))
    (decided_before (clauses_after c.args.problem.now c.loop-place.journal) c.args.trail.now c.loop-place.trail (c.loop-place.place - 1) c.loop-place.invariant.asks.settles (omega (arith, low, c.loop-place.invariant.within, ap (λ (t : List ℤ). length t) c.loop-place.invariant.asks.settles.lits)) e)

pub resolve_next-requires-clause-come : goal.resolve_next-requires-clause-come
resolve_next-requires-clause-come g c =
    let low : c.loop-place.self.start < c.loop-place.place = start_below (clauses_after c.args.problem.now c.loop-place.journal) c.loop-place.trail.lits c.loop-place.self.start c.loop-place.place c.loop-place.self.resolvent c.loop-place.self.used.items c.loop-place.invariant.come c.loop-place.invariant.some in
    let come : HasCome (clauses_after c.args.problem.now c.loop-place.journal) c.loop-place.trail.lits c.loop-place.self.start (c.loop-place.place - 1 + 1) c.loop-place.self.resolvent c.loop-place.self.used.items = come_at (clauses_after c.args.problem.now c.loop-place.journal) c.loop-place.trail.lits c.loop-place.self.start c.loop-place.place c.loop-place.self.resolvent c.loop-place.self.used.items low c.loop-place.invariant.come in
    come

pub resolve_next-requires-clause-marked : goal.resolve_next-requires-clause-marked
resolve_next-requires-clause-marked g c =
    let low : c.loop-place.self.start < c.loop-place.place = start_below (clauses_after c.args.problem.now c.loop-place.journal) c.loop-place.trail.lits c.loop-place.self.start c.loop-place.place c.loop-place.self.resolvent c.loop-place.self.used.items c.loop-place.invariant.come c.loop-place.invariant.some in
    let marked : is_marked c.loop-place.self.resolvent.seen.items (c.loop-place.place - 1) ≡ true = sym (get_or_read c.loop-place.self.resolvent.seen.items (c.loop-place.place - 1) c.index.result.now (omega (arith, low, c.loop-place.invariant.within, c.loop-place.invariant.come.resolvent.marks.slots)) c.index.ensures false) ∙ c.if-index.true in
    marked

pub resolve_next-requires-clause-place : goal.resolve_next-requires-clause-place
resolve_next-requires-clause-place g c =
    let low : c.loop-place.self.start < c.loop-place.place = start_below (clauses_after c.args.problem.now c.loop-place.journal) c.loop-place.trail.lits c.loop-place.self.start c.loop-place.place c.loop-place.self.resolvent c.loop-place.self.used.items c.loop-place.invariant.come c.loop-place.invariant.some in
    omega (arith, low, c.loop-place.invariant.within)

pub loop-place-smaller : goal.loop-place-smaller
loop-place-smaller g c =
    let low : c.loop-place.self.start < c.loop-place.place = start_below (clauses_after c.args.problem.now c.loop-place.journal) c.loop-place.trail.lits c.loop-place.self.start c.loop-place.place c.loop-place.self.resolvent c.loop-place.self.used.items c.loop-place.invariant.come c.loop-place.invariant.some in
    omega (arith, low)

pub loop-place-preserved-in-Continue-1 : goal.loop-place-preserved-in-Continue-1
loop-place-preserved-in-Continue-1 g c =
    let low : c.loop-place.self.start < c.loop-place.place = start_below (clauses_after c.args.problem.now c.loop-place.journal) c.loop-place.trail.lits c.loop-place.self.start c.loop-place.place c.loop-place.self.resolvent c.loop-place.self.used.items c.loop-place.invariant.come c.loop-place.invariant.some in
    record {
      start = c.resolve_next.ensures.start ∙ c.loop-place.invariant.start;
      by = c.resolve_next.ensures.by ∙ c.loop-place.invariant.by;
      asks = asks_more c.args.problem.now c.args.trail.now c.loop-place.trail c.resolve_next.new.trail c.args.journal.now c.loop-place.journal c.resolve_next.new.journal c.loop-place.invariant.asks c.resolve_next.ensures.asks;
      sound = c.resolve_next.ensures.sound;
      reasons = rw c.loop-place.invariant.by at c.resolve_next.ensures.reasons;
      come = c.in_ok-resolve_next.ensures.come;
      within = omega (arith, low, c.loop-place.invariant.within, ap (λ (t : List ℤ). length t) c.resolve_next.ensures.asks.settles.lits);
      some = omega (arith, c.in_ok-resolve_next.ensures.grows, c.loop-place.invariant.some, c.if-self-eq1.false);
      leads = λ conflict w.
          let come : HasCome (clauses_after c.args.problem.now c.loop-place.journal) c.loop-place.trail.lits c.loop-place.self.start (c.loop-place.place - 1 + 1) c.loop-place.self.resolvent c.loop-place.self.used.items = come_at (clauses_after c.args.problem.now c.loop-place.journal) c.loop-place.trail.lits c.loop-place.self.start c.loop-place.place c.loop-place.self.resolvent c.loop-place.self.used.items low c.loop-place.invariant.come in
          let marked : is_marked c.loop-place.self.resolvent.seen.items (c.loop-place.place - 1) ≡ true = sym (get_or_read c.loop-place.self.resolvent.seen.items (c.loop-place.place - 1) c.index.result.now (omega (arith, low, c.loop-place.invariant.within, c.loop-place.invariant.come.resolvent.marks.slots)) c.index.ensures false) ∙ c.if-index.true in
          let all = asks_more c.args.problem.now c.args.trail.now c.loop-place.trail c.resolve_next.new.trail c.args.journal.now c.loop-place.journal c.resolve_next.new.journal c.loop-place.invariant.asks c.resolve_next.ensures.asks in
          leads_more c.args.problem.now c.loop-place.trail c.resolve_next.new.trail c.loop-place.journal c.resolve_next.new.journal c.loop-place.self.start (c.loop-place.place - 1) conflict c.loop-place.self.resolvent c.loop-place.self.used.items c.resolve_next.new.self.used.items c.resolve_next.ensures.sound
          (omega (arith, c.requires.level, all.settles.level)) (c.loop-place.invariant.start ∙ c.requires.start ∙ starts_same (clauses_after c.args.problem.now c.resolve_next.new.journal) c.args.trail.now c.resolve_next.new.trail all.settles)
          c.resolve_next.ensures.asks come marked (omega (arith, c.loop-place.invariant.some, c.if-self-eq1.false)) (c.loop-place.invariant.leads conflict w) c.in_ok-resolve_next.ensures.goes_on;
    }

pub returns-in_err-resolve_next-clause-asks : goal.returns-in_err-resolve_next-clause-asks
returns-in_err-resolve_next-clause-asks g c = asks_more c.args.problem.now c.args.trail.now c.loop-place.trail c.resolve_next.new.trail c.args.journal.now c.loop-place.journal c.resolve_next.new.journal c.loop-place.invariant.asks c.resolve_next.ensures.asks
