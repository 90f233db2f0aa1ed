use Rattle.std.proofs.Common.{[], ap, subst}
use Rattle.mono_answer.specs.declared.answer.Answer.{Answer}
use Rattle.mono_answer.specs.declared.answer.Answer.TheVariants as answer
use Rattle.mono_forms.specs.Endings.{answer_status}
use Rattle.mono_forms.specs.Runs.{AreConsistent}
use Rattle.mono_cmd.proofs.worked_written.worked_alike.Goals as goal

pub returns-clause-contradict_too : goal.returns-clause-contradict_too
returns-clause-contradict_too c = λ h. h

pub returns-clause-summaries_contradict : goal.returns-clause-summaries_contradict
returns-clause-summaries_contradict c = λ s t model refuted h.
    subst (λ (b : Answer). AreConsistent (answer.Model []) b) refuted (subst (λ (a : Answer). AreConsistent a t.answer) model h)

pub returns-clause-summed : goal.returns-clause-summed
returns-clause-summed c = λ s is. ap answer_status is
