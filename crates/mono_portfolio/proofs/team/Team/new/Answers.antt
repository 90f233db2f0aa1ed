use Rattle.std.proofs.Common.{◌∙◌, ap, sym, subst, replicate, [], List, None}
use Rattle.mono_steps.specs.declared.step.Step.{Step}
use Rattle.mono_portfolio.specs.TeamView.{WorkerView}
use Rattle.mono_portfolio.specs.Workers.{WorkerState, idle_over, shown_team, IsKeptTeam}
use Rattle.mono_portfolio.proofs.Kept.{team_new, shown_replicate}
use Rattle.mono_portfolio.proofs.team.Team.new.Goals as goal

pub invariant_of-result : goal.invariant_of-result
invariant_of-result c =
    let p = c.args.problem.now in
    subst (λ (xs : List WorkerState). IsKeptTeam p c.new-board.result.items xs None) (sym c.in_ok-idle.ensures)
    (subst (λ (ss : List Step). IsKeptTeam p ss (replicate c.args.workers (idle_over p)) None) (sym c.new-board.ensures.items) (team_new p c.args.workers c.known.ensures.problem))

pub returns : goal.returns
returns c =
    let p = c.args.problem.now in
    ap (λ (xs : List WorkerState). shown_team p c.new-board.result.items xs) c.in_ok-idle.ensures
    ∙ ap (λ (ss : List Step). shown_team p ss (replicate c.args.workers (idle_over p))) c.new-board.ensures.items
    ∙ ap (λ (ws : List WorkerView). record { problem = p; board = []; workers = ws }) (shown_replicate c.args.workers (idle_over p))
