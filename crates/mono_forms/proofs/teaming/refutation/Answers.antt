use Rattle.std.proofs.Common.{sym, subst, List}
use Rattle.mono_steps.specs.declared.step.Step.{Step}
use Rattle.mono_answer.specs.declared.answer.Answer.TheVariants as answer
use Rattle.mono_forms.specs.Teams.{IsTeamSolution}
use Rattle.mono_forms.proofs.TeamSolutions.{team_refutation_solves}
use Rattle.mono_forms.proofs.teaming.refutation.Goals as goal

pub returns : goal.returns
returns c = λ workers rounds refuted.
    subst (λ (steps : List Step). IsTeamSolution c.args.problem.now workers rounds (answer.Refutation steps)) (sym c.from_vec.ensures)
    (team_refutation_solves c.args.problem.now workers rounds c.args.steps.now c.in_ok-steps.steps.items c.requires.problem refuted c.in_ok-steps.ensures)
