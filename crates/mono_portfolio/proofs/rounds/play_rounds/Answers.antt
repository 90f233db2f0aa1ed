use Rattle.std.proofs.Common.{◌≡◌, ℕ, List, length, sym, ap, subst, ◌∙◌, arith}
use Rattle.mono_problem.specs.Instance.{Instance}
use Rattle.std.specs.Prelude.{IsTrue}
use Rattle.mono_steps.specs.declared.step.Step.{Step}
use Rattle.mono_steps.specs.Steps.{are_justified}
use Rattle.mono_portfolio.specs.declared.rounds.Turn.{Turn}
use Rattle.mono_portfolio.specs.TeamView.{TeamView}
use Rattle.mono_portfolio.specs.Turns.{even, taken_after, RoundsTo, IsRounded}
use Rattle.mono_portfolio.proofs.RoundsLaws.{RoundsSoFar, no_rounds, rounded, rounds_more, rounds_done, rounds_stop, grown}
use Rattle.mono_portfolio.proofs.rounds.play_rounds.Goals as goal

pub loop-init : goal.loop-init
loop-init g c = no_rounds c.args.team.now.problem c.args.workers c.args.team.now c.requires.new

pub returns-in_default : goal.returns-in_default
returns-in_default g c =
    rounds_stop c.args.team.now.problem c.args.workers c.args.rounds c.loop.counter c.loop.team c.take_turns.new.team c.in_ok-end.end (omega arith) c.loop.invariant c.in_ok-end.ensures c.in_default.not-Gave

pub take_short_by_all-requires-clause-within : goal.take_short_by_all-requires-clause-within
take_short_by_all-requires-clause-within g c =
    let r : IsRounded c.loop.team c.args.workers c.take_turns.new.team = subst (λ (x : Turn). RoundsTo c.loop.team c.args.workers c.take_turns.new.team x) c.in-Gave.is c.in_ok-end.ensures in
    let a = rounded c.args.team.now.problem c.args.workers c.loop.counter c.loop.team c.take_turns.new.team c.loop.invariant r in
    let size = ap (λ (b : List Step). length b) c.board-from.ensures.board in
    omega (arith, size, grown c.args.team.now.problem c.args.workers c.loop.invariant.taken c.loop.team.board c.take_turns.new.team.board a.1)

pub loop-preserved : goal.loop-preserved
loop-preserved g c =
    let p = c.args.team.now.problem in
    let u = c.take_turns.new.team in
    let t = c.take_short_by_all.new.team in
    let r : IsRounded c.loop.team c.args.workers u = subst (λ (x : Turn). RoundsTo c.loop.team c.args.workers u x) c.in-Gave.is c.in_ok-end.ensures in
    let a = rounded p c.args.workers c.loop.counter c.loop.team u c.loop.invariant r in
    let problem : u.problem ≡ p = ap (λ (x : TeamView). x.problem) a.0 in
    let from : length c.board-from.result.now ≡ length c.loop.team.board = ap (λ (b : List Step). length b) c.board-from.ensures.board in
    rounds_more p c.args.workers c.loop.counter c.loop.team u t c.loop.invariant r
    (λ taken is.
    c.in_ok-take_short_by_all.ensures taken (is ∙ ap (λ (q : Instance). even q c.args.workers taken u.board) (sym problem))
    ∙ ap (λ (q : Instance). even q c.args.workers (taken_after q u.board (length c.board-from.result.now) taken) u.board) problem
    ∙ ap (λ (n : ℕ). even p c.args.workers (taken_after p u.board n taken) u.board) from)

pub returns : goal.returns
returns g c =
    let e : c.loop.counter ≡ c.args.rounds = omega arith in
    let h : RoundsSoFar c.args.team.now.problem c.args.workers c.args.rounds c.loop.team = subst (λ (n : ℕ). RoundsSoFar c.args.team.now.problem c.args.workers n c.loop.team) e c.loop.invariant in
    let problem : c.loop.team.problem ≡ c.args.team.now.problem = ap (λ (x : TeamView). x.problem) h.is in
    let justified : IsTrue (are_justified c.args.team.now.problem c.loop.team.board) = subst (λ (q : Instance). IsTrue (are_justified q c.loop.team.board)) problem c.known.ensures.team.justified in
    (justified, rounds_done c.args.team.now.problem c.args.workers c.args.rounds c.loop.team h, h.few)
