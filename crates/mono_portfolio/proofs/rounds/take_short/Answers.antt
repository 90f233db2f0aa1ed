use Rattle.std.proofs.Common.{◌≡◌, ◌<◌, ◌+◌, ℕ, length, get_or, sym, ap, subst, ◌∙◌, arith, List}
use Rattle.mono_steps.specs.declared.step.Step.{Step}
use Rattle.mono_portfolio.specs.declared.event.Event.TheVariants as event
use Rattle.mono_portfolio.specs.TeamView.{TeamView}
use Rattle.mono_portfolio.specs.Plays.{Answers}
use Rattle.mono_portfolio.specs.Rounds.{is_short as is_short_step}
use Rattle.mono_portfolio.proofs.TakeLaws.{TookBelow, took_none, took_long, took_short}
use Rattle.mono_portfolio.proofs.rounds.take_short.Goals as goal
use Rattle.mono_portfolio.proofs.rounds.take_short.Goals.{then-is_short+in_ok-take+in-Model-1, then-is_short+in_ok-take+in-Unsat-1, else-is_short}

pub loop-place-init : goal.loop-place-init
loop-place-init c = took_none c.args.team.now c.args.worker c.args.from c.requires.idle c.requires.low

pub loop-place-preserved : goal.loop-place-preserved
loop-place-preserved c =
    let s = c.args.team.now in
    let i = c.loop-place.place in
    let d = c.index-board-place.result in
    let board : c.board.result.now ≡ s.board = c.board.ensures.board ∙ ap (λ (x : TeamView). x.board) c.loop-place.invariant.after in
    let size : c.board-place-end.result.now ≡ s.board = c.board-place-end.ensures.board in
    let lt : i < length s.board = omega (arith, ap (λ (b : List Step). length b) size, c.loop-place-test.true) in
    let at : get_or s.board i d ≡ d = ap (λ (b : List Step). get_or b i d) (sym board) ∙ sym c.index-board-place.is in
    let count : c.clause_count-count.result + i + 1 ≡ length s.problem.clauses + i + 1 = ap (λ (n : ℕ). n + i + 1) c.clause_count-count.ensures in
    elim c.if-is_short.branch [
      | then-is_short+in_ok-take+in-Model-1 w ↦ subst (λ (t : TeamView). TookBelow s c.args.worker c.args.from (i + 1) t) (sym w.team-is)
          (took_short s c.loop-place.team w.take.new.self c.args.worker c.args.from i d w.in_ok-take.field-0 c.requires.worker c.loop-place.invariant lt (ap is_short_step at ∙ sym c.is_short.ensures ∙ w.if-is_short.true)
          (subst (λ (n : ℕ). Answers c.loop-place.team (event.Take c.args.worker n) w.in_ok-take.field-0 w.take.new.self) count w.in_ok-take.ensures.ok))
      | then-is_short+in_ok-take+in-Unsat-1 w ↦ subst (λ (t : TeamView). TookBelow s c.args.worker c.args.from (i + 1) t) (sym w.team-is)
          (took_short s c.loop-place.team w.take.new.self c.args.worker c.args.from i d w.in_ok-take.field-0 c.requires.worker c.loop-place.invariant lt (ap is_short_step at ∙ sym c.is_short.ensures ∙ w.if-is_short.true)
          (subst (λ (n : ℕ). Answers c.loop-place.team (event.Take c.args.worker n) w.in_ok-take.field-0 w.take.new.self) count w.in_ok-take.ensures.ok))
      | else-is_short w ↦ subst (λ (t : TeamView). TookBelow s c.args.worker c.args.from (i + 1) t) (sym w.team-is)
          (took_long s c.args.worker c.args.from i d c.loop-place.team c.loop-place.invariant lt (ap is_short_step at ∙ sym c.is_short.ensures ∙ w.if-is_short.false))
    ]
