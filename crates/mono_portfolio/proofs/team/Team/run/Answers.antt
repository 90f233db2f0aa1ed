use Rattle.std.proofs.Common.{◌≡◌, ◌<◌, ◌∙◌, false, length, set, ap, subst, arith, List}
use Rattle.std.specs.Prelude.{◌==◌}
use Rattle.std.proofs.lemmas.Bool.{ne_eqb}
use Rattle.std.proofs.lemmas.Result.{IfOk-weaker}
use Rattle.mono_problem.specs.Instance.{Instance}
use Rattle.mono_steps.specs.declared.step.Step.{Step}
use Rattle.mono_portfolio.specs.declared.event.Event.TheVariants as event
use Rattle.mono_portfolio.specs.Extended.{extended as extended_by}
use Rattle.mono_portfolio.specs.Plays.{Answers}
use Rattle.mono_portfolio.specs.Searched.{Tells}
use Rattle.mono_portfolio.specs.TeamView.{TeamView}
use Rattle.mono_portfolio.specs.Workers.{WorkerState, SearchesOver, taken_at, shown_team}
use Rattle.mono_portfolio.proofs.Kept.{searches, run_answers}
use Rattle.mono_portfolio.proofs.team.Team.run.Goals as goal

pub returns-clause-ok : goal.returns-clause-ok
returns-clause-ok g c =
    let p = c.self.inside.problem.now in
    let b = c.self.inside.board.items in
    let xs = c.self.inside.workers.items in
    let x = c.index_mut.result.now in
    let y = c.run.new.self in
    let q = c.problem_of-over.result.now in
    let there : c.args.worker < length xs = omega arith in
    let some : (c.args.slice == 0) ≡ false = ne_eqb c.args.slice 0 (λ e. omega arith) in
    let over : q ≡ extended_by p b (taken_at xs c.args.worker) =
    c.problem_of-over.ensures ∙ c.in_ok-build_for.ensures.ok ∙ ap (λ (ss : List Step). extended_by p ss (taken_at c.as_slice-workers.result.now c.args.worker)) c.as_slice.ensures.value
    ∙ ap (λ (ws : List WorkerState). extended_by p b (taken_at ws c.args.worker)) c.as_slice-workers.ensures.value in
    let h : SearchesOver p b x q = searches p b xs c.self.inside.built c.args.worker x q c.self.invariant there c.index_mut.ensures.value over in
    IfOk-weaker c.run.result _ _
    (λ r tells.
    let told : Tells p (extended_by p b x.taken) c.args.slice r y.made = subst (λ (i : Instance). Tells p i c.args.slice r y.made) h.over tells in
    subst (λ (s : TeamView). Answers s (event.Run c.args.worker c.args.slice) r (shown_team p b (set xs c.args.worker y))) c.self.view_is
    (run_answers p b xs c.args.worker c.args.slice r x y there c.index_mut.ensures.value some told c.run.ensures.taken))
    (c.run.ensures.ok p b h)
