use Rattle.std.proofs.Common.{sym, subst, List}
use Rattle.std.specs.Prelude.{IsTrue}
use Rattle.mono_steps.specs.declared.step.Step.{Step}
use Rattle.mono_steps.specs.Steps.{is_refutation}
use Rattle.mono_portfolio.specs.Ends.{IsRefutationOfTurn}
use Rattle.mono_portfolio.specs.Outcomes.{IsTeamOutcome}
use Rattle.mono_forms.proofs.TeamSolutions.{team_model_solves, team_board_solves}
use Rattle.mono_forms.proofs.teaming.answer_of.Goals as goal
use Rattle.mono_forms.proofs.teaming.answer_of.Goals.{In-Refutation}

pub returns-in-Model : goal.returns-in-Model
returns-in-Model c =
    team_model_solves c.args.problem.now c.args.workers c.args.rounds c.in-Model.values c.in-Model.board c.requires.problem
    (subst (IsTeamOutcome c.args.problem.now c.args.workers c.args.rounds) c.in-Model.is c.requires.outcome)

-- the board's steps
refuted : (c : In-Refutation) → IsRefutationOfTurn c.args.problem.now c.args.workers c.args.rounds c.in-Refutation.steps
refuted c = subst (IsTeamOutcome c.args.problem.now c.args.workers c.args.rounds) c.in-Refutation.is c.requires.outcome

pub refutation-requires-clause-refutes : goal.refutation-requires-clause-refutes
refutation-requires-clause-refutes c =
    subst (λ (steps : List Step). IsTrue (is_refutation c.args.problem.now steps)) (sym c.as_slice.ensures) (refuted (goal.at.refutation-requires-clause-refutes c).In-Refutation).refuted.refutes

pub returns-in-Refutation : goal.returns-in-Refutation
returns-in-Refutation c =
    c.refutation.ensures c.args.workers c.args.rounds
    (subst (λ (steps : List Step). IsRefutationOfTurn c.args.problem.now c.args.workers c.args.rounds steps) (sym c.as_slice.ensures) (refuted (goal.at.returns-in-Refutation c).In-Refutation))

pub returns : goal.returns
returns c =
    team_board_solves c.args.problem.now c.args.workers c.args.rounds c.in-Board.board c.requires.problem
    (subst (IsTeamOutcome c.args.problem.now c.args.workers c.args.rounds) c.in-Board.is c.requires.outcome)
