use Rattle.std.proofs.Common.{◌≡◌, subst}
use Rattle.mono_words.specs.declared.command.TheConstants.{DEFAULT_BUDGET}
use Rattle.mono_forms.specs.declared.ending.Ending.TheVariants as ending
use Rattle.mono_forms.specs.declared.summary.Summary.{Summary}
use Rattle.mono_forms.specs.Solved.{IsSummary}
use Rattle.mono_cmd.proofs.worked_orders.worked_comings.Goals as goal

pub returns-clause-judged : goal.returns-clause-judged
returns-clause-judged c = λ p text h. h

pub returns-clause-migrated : goal.returns-clause-migrated
returns-clause-migrated c = λ p text other v h. h

pub returns-clause-rejected : goal.returns-clause-rejected
returns-clause-rejected c = λ p text v h. h

pub returns-clause-accepted_but_not_migrated : goal.returns-clause-accepted_but_not_migrated
returns-clause-accepted_but_not_migrated c = λ p text v h. h

pub returns-clause-solved : goal.returns-clause-solved
returns-clause-solved c = λ p budget a h. h

pub returns-clause-generated_text : goal.returns-clause-generated_text
returns-clause-generated_text c = λ k size seed e h. h

same_summary : (s t : Summary) → ending.Summed s ≡ ending.Summed t → t ≡ s
same_summary s t is = cc

pub returns-clause-summed : goal.returns-clause-summed
returns-clause-summed c = λ k size seed s h.
    (h.problem, h.stands, subst (λ (t : Summary). IsSummary h.problem DEFAULT_BUDGET t) (same_summary s h.summary h.is) h.right)

pub returns-clause-judged_with : goal.returns-clause-judged_with
returns-clause-judged_with c = λ p lits file read new e h. h

pub returns-clause-bounded : goal.returns-clause-bounded
returns-clause-bounded c = λ p n o h. h

pub returns-clause-asked : goal.returns-clause-asked
returns-clause-asked c = λ p n b text h. h
