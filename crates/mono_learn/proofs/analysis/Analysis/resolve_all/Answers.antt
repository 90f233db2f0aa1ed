use Rattle.std.proofs.Common.{◌<◌, ◌-◌, arith, sym, ◌∙◌, ap, subst, refl, length, List}
use Rattle.std.specs.Prelude.{ℤ}
use Rattle.mono_steps.specs.Steps.{clauses_after}
use Rattle.mono_learn.specs.Resolving.{HasCome}
use Rattle.mono_learn.proofs.LevelsByPlace.{none_decided}
use Rattle.mono_learn.proofs.Asking.{asks_none, asks_more}
use Rattle.mono_learn.proofs.Settling.{decided_before}
use Rattle.mono_learn.proofs.analysis.Analysis.resolve_all.Goals as goal

pub loop-place-init : goal.loop-place-init
loop-place-init g c = record {
  start = refl;
  by = refl;
  asks = asks_none c.args.problem.now c.args.trail.now c.args.journal.now;
  sound = c.requires.sound;
  reasons = c.requires.reasons;
  come = subst (λ (t : List ℤ). HasCome (clauses_after c.args.problem.now c.args.journal.now) c.args.trail.now.lits c.args.self.now.start (length t) c.args.self.now.resolvent c.args.self.now.used.items) (sym c.lits-place.ensures) c.requires.come;
  within = omega (arith, ap (λ (t : List ℤ). length t) c.lits-place.ensures);
}

pub resolve_next-requires-clause-implied : goal.resolve_next-requires-clause-implied
resolve_next-requires-clause-implied g c = λ e.
    let lt : c.loop-place.place - 1 < length c.args.trail.now.lits = omega (arith, c.loop-place-test.true, c.loop-place.invariant.within, ap (λ (t : List ℤ). length t) c.loop-place.invariant.asks.settles.lits) in
    none_decided c.args.trail.now (c.loop-place.place - 1) c.requires.sound c.requires.level lt
    (decided_before (clauses_after c.args.problem.now c.loop-place.journal) c.args.trail.now c.loop-place.trail (c.loop-place.place - 1) c.loop-place.invariant.asks.settles lt e)

pub loop-place-preserved-in-Continue-1 : goal.loop-place-preserved-in-Continue-1
loop-place-preserved-in-Continue-1 g c =
    record {
      start = c.resolve_next.ensures.start ∙ c.loop-place.invariant.start;
      by = c.resolve_next.ensures.by ∙ c.loop-place.invariant.by;
      asks = asks_more c.args.problem.now c.args.trail.now c.loop-place.trail c.resolve_next.new.trail c.args.journal.now c.loop-place.journal c.resolve_next.new.journal c.loop-place.invariant.asks c.resolve_next.ensures.asks;
      sound = c.resolve_next.ensures.sound;
      reasons = rw c.loop-place.invariant.by at c.resolve_next.ensures.reasons;
      come = c.in_ok-resolve_next.ensures.come;
      within = omega (arith, c.loop-place-test.true, c.loop-place.invariant.within, ap (λ (t : List ℤ). length t) c.resolve_next.ensures.asks.settles.lits);
    }

pub returns-in_err-resolve_next-clause-asks : goal.returns-in_err-resolve_next-clause-asks
returns-in_err-resolve_next-clause-asks g c = asks_more c.args.problem.now c.args.trail.now c.loop-place.trail c.resolve_next.new.trail c.args.journal.now c.loop-place.journal c.resolve_next.new.journal c.loop-place.invariant.asks c.resolve_next.ensures.asks
