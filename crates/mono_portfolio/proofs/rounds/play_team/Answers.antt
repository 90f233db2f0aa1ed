use Rattle.std.proofs.Common.{◌≡◌, ◌∙◌, ◌<◌, ◌^◌, ap, sym, subst, arith, List, length}
use Rattle.mono_steps.specs.declared.step.Step.{Step}
use Rattle.mono_portfolio.specs.declared.rounds.Turn.{Turn}
use Rattle.mono_portfolio.specs.declared.rounds.Turn.TheVariants as turn
use Rattle.mono_portfolio.specs.TeamView.{TeamView, start}
use Rattle.mono_portfolio.specs.Ends.{IsModelOfTurn, IsRefutationOfTurn}
use Rattle.mono_portfolio.specs.Turns.{EndsBy}
use Rattle.mono_portfolio.proofs.rounds.play_team.Goals as goal

pub play_rounds-requires-clause-new : goal.play_rounds-requires-clause-new
play_rounds-requires-clause-new g c = c.in_ok-team.ensures ∙ ap (λ (s : TeamView). start s.problem c.args.workers) (sym c.in_ok-team.ensures)

pub returns-in-Model : goal.returns-in-Model
returns-in-Model g c =
    let p = c.in_ok-team.team.problem in
    let b = c.play_rounds.new.team.board in
    let board : c.from_vec-board.result ≡ b = c.from_vec-board.ensures ∙ c.into_board.ensures in
    let ended : IsModelOfTurn p c.args.workers c.args.rounds c.in-Model.values b = subst (λ (x : Turn). EndsBy p c.args.workers c.args.rounds b x) c.in-Model.is c.in_ok-end.ensures in
    subst (λ (ss : List Step). IsModelOfTurn c.args.problem.now c.args.workers c.args.rounds c.in-Model.values ss) (sym board)
    (subst (λ (s : TeamView). IsModelOfTurn s.problem c.args.workers c.args.rounds c.in-Model.values b) c.in_ok-team.ensures ended)

pub returns-in-Refuted : goal.returns-in-Refuted
returns-in-Refuted g c =
    let p = c.in_ok-team.team.problem in
    let b = c.play_rounds.new.team.board in
    let board : c.from_vec-board.result ≡ b = c.from_vec-board.ensures ∙ c.into_board.ensures in
    let ended : IsRefutationOfTurn p c.args.workers c.args.rounds b = subst (λ (x : Turn). EndsBy p c.args.workers c.args.rounds b x) c.in-Refuted.is c.in_ok-end.ensures in
    subst (λ (ss : List Step). IsRefutationOfTurn c.args.problem.now c.args.workers c.args.rounds ss) (sym board)
    (subst (λ (s : TeamView). IsRefutationOfTurn s.problem c.args.workers c.args.rounds b) c.in_ok-team.ensures ended)

pub returns-in-Gave : goal.returns-in-Gave
returns-in-Gave g c =
    let p = c.in_ok-team.team.problem in
    let b = c.play_rounds.new.team.board in
    let board : c.from_vec-board.result ≡ b = c.from_vec-board.ensures ∙ c.into_board.ensures in
    let played : EndsBy p c.args.workers c.args.rounds b turn.Gave = subst (λ (x : Turn). EndsBy p c.args.workers c.args.rounds b x) c.in-Gave.is c.in_ok-end.ensures in
    let all : EndsBy c.args.problem.now c.args.workers c.args.rounds c.from_vec-board.result turn.Gave =
    subst (λ (ss : List Step). EndsBy c.args.problem.now c.args.workers c.args.rounds ss turn.Gave) (sym board) (subst (λ (s : TeamView). EndsBy s.problem c.args.workers c.args.rounds b turn.Gave) c.in_ok-team.ensures played) in
    record {
      justified = all.0;
      rounds_are = all.1;
      few = all.2 (omega (arith, c.requires.rounds)) (omega (arith, c.requires.low));
      short = subst (λ (ss : List Step). length ss < 2 ^ 63) (sym c.from_vec-board.ensures) (omega (arith, c.into_board.result.small));
    }
