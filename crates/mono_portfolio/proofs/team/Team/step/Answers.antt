use Rattle.std.proofs.Common.{subst, sym}
use Rattle.std.proofs.lemmas.Result.{IfOk-weaker}
use Rattle.mono_problem.specs.WellFormed.{IsInstance}
use Rattle.mono_portfolio.specs.declared.event.Event.{Event}
use Rattle.mono_portfolio.specs.TeamView.{TeamView}
use Rattle.mono_portfolio.specs.Plays.{Answers}
use Rattle.mono_portfolio.proofs.Playing.{sound_after}
use Rattle.mono_portfolio.proofs.team.Team.step.Goals as goal

pub returns-in-Run-clause-sound : goal.returns-in-Run-clause-sound
returns-in-Run-clause-sound g c =
    let s = c.args.self.now in
    let ok : IsInstance s.problem = subst (λ (x : TeamView). IsInstance x.problem) c.self.view_is c.self.invariant.problem in
    IfOk-weaker c.run.result _ _ (λ r a. sound_after s c.args.event r c.run.new.self ok (subst (λ (e : Event). Answers s e r c.run.new.self) (sym c.in-Run.is) a)) c.run.ensures.ok

pub returns-in-Give-clause-sound : goal.returns-in-Give-clause-sound
returns-in-Give-clause-sound g c =
    let s = c.args.self.now in
    let ok : IsInstance s.problem = subst (λ (x : TeamView). IsInstance x.problem) c.self.view_is c.self.invariant.problem in
    IfOk-weaker c.give.result _ _ (λ r a. sound_after s c.args.event r c.give.new.self ok (subst (λ (e : Event). Answers s e r c.give.new.self) (sym c.in-Give.is) a)) c.give.ensures.ok

pub returns-in-Take-clause-sound : goal.returns-in-Take-clause-sound
returns-in-Take-clause-sound g c =
    let s = c.args.self.now in
    let ok : IsInstance s.problem = subst (λ (x : TeamView). IsInstance x.problem) c.self.view_is c.self.invariant.problem in
    IfOk-weaker c.take.result _ _ (λ r a. sound_after s c.args.event r c.take.new.self ok (subst (λ (e : Event). Answers s e r c.take.new.self) (sym c.in-Take.is) a)) c.take.ensures.ok
