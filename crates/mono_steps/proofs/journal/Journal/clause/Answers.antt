use Rattle.std.proofs.Common.{◌≡◌, ◌-◌, List, get_or, sym, subst, ap, ◌∙◌, arith, Some}
use Rattle.mono_steps.specs.declared.step.Step.{Step}
use Rattle.mono_steps.proofs.StepLists.{step_clause}
use Rattle.mono_steps.proofs.journal.Journal.clause.Goals as goal

pub returns-else-number-count : goal.returns-else-number-count
returns-else-number-count c =
    let is : c.index.result.now ≡ get_or c.args.self.now (c.args.number - c.from-count.result - 1) c.index.result.now = subst (λ (ss : List Step). c.index.result.now ≡ get_or ss (c.args.number - c.from-count.result - 1) c.index.result.now) c.self.view_is c.index.ensures in
    step_clause c.args.problem.now c.args.self.now c.args.number c.from-count.result c.index.result.now (omega (arith, c.from-count.ensures, c.clause_count.ensures)) c.if-number-count.false c.requires.high is ∙ ap Some (sym (c.lits.ensures ∙ c.clause-else-number-count.ensures))
