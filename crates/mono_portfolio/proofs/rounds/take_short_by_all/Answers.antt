use Rattle.std.proofs.Common.{◌≡◌, ◌≤◌, ◌<◌, ◌+◌, ◌-◌, ℕ, suc, length, All, sym, ap, subst, ◌∙◌, arith}
use Rattle.mono_portfolio.specs.TeamView.{WorkerView, TeamView}
use Rattle.mono_portfolio.specs.Turns.{even, taken_after}
use Rattle.mono_portfolio.proofs.RoundsLaws.{TookSome, took_by_none, took_by_next, took_by_all, next_worker, next_at, part_len}
use Rattle.mono_portfolio.proofs.rounds.take_short_by_all.Goals as goal

pub loop-worker-init : goal.loop-worker-init
loop-worker-init c = took_by_none c.args.team.now c.args.from

pub take_short-requires : goal.take_short-requires
take_short-requires c =
    let s = c.args.team.now in
    let lt : c.loop-worker.worker < length s.workers = omega arith in
    let e = next_worker s c.loop-worker.team c.args.from c.loop-worker.worker c.requires.even.taken c.requires.even.is lt c.loop-worker.invariant in
    let x = next_at s c.loop-worker.team c.args.from c.loop-worker.worker c.requires.even.taken c.requires.even.is lt c.loop-worker.invariant in
    let len : length c.loop-worker.team.workers ≡ c.loop-worker.worker + suc (length s.workers - (c.loop-worker.worker + 1)) =
    ap (λ (y : TeamView). length y.workers) e ∙ part_len s.problem s.board c.loop-worker.worker (suc (length s.workers - (c.loop-worker.worker + 1))) (taken_after s.problem s.board c.args.from c.requires.even.taken) c.requires.even.taken in
    let count : length s.problem.clauses ≡ length c.loop-worker.team.problem.clauses = sym (ap (λ (y : TeamView). length y.problem.clauses) e) in
    let size : length c.loop-worker.team.board ≡ length s.board = ap (λ (y : TeamView). length y.board) e in
    record {
      worker = omega arith;
      idle = ap (λ (y : WorkerView). y.made) x;
      low = subst (λ (y : WorkerView). All (λ n. n ≤ length c.loop-worker.team.problem.clauses + c.args.from) y.taken) (sym x)
          (subst (λ (m : ℕ). All (λ n. n ≤ m + c.args.from) c.requires.even.taken) count c.requires.even.low);
      within = omega (arith, size, c.requires.within);
    }

pub loop-worker-preserved : goal.loop-worker-preserved
loop-worker-preserved c =
    took_by_next c.args.team.now c.loop-worker.team c.take_short.new.team c.args.from c.loop-worker.worker (omega arith) c.loop-worker.invariant c.in_ok-take_short.ensures

pub returns : goal.returns
returns c = λ taken is.
    let s = c.args.team.now in
    let k : c.loop-worker.worker ≡ length s.workers = omega arith in
    let n : c.args.workers ≡ length s.workers = c.requires.workers in
    took_by_all s c.loop-worker.team c.args.from (subst (λ (w : ℕ). TookSome s c.args.from w c.loop-worker.team) k c.loop-worker.invariant) taken (is ∙ ap (λ (m : ℕ). even s.problem m taken s.board) n)
    ∙ ap (λ (m : ℕ). even s.problem m (taken_after s.problem s.board c.args.from taken) s.board) (sym n)
