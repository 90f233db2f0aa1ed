use Rattle.std.proofs.Common.{◌++◌, ◌∷◌, [], List, sym, subst}
use Rattle.std.specs.Prelude.{IsTrue}
use Rattle.mono_steps.specs.declared.step.Step.{Step}
use Rattle.mono_steps.proofs.StepLists.{justified_more}
use Rattle.mono_steps.specs.Steps.{are_justified}
use Rattle.mono_steps.proofs.journal.Journal.push.Goals as goal

pub returns-clause-keeps : goal.returns-clause-keeps
returns-clause-keeps c = λ all. subst (λ (ss : List Step). IsTrue (are_justified c.args.problem.now ss)) (sym c.in_ok-push.ensures.items)
    (subst (λ (ss : List Step). IsTrue (are_justified c.args.problem.now (ss ++ c.args.step ∷ []))) (sym c.self.view_is) (justified_more c.args.problem.now c.args.problem.now.clauses c.args.self.now c.args.step c.requires all))
