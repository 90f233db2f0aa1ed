-- What a run came to before it writes: its status, and the text that is due.
use Rattle.std.specs.Prelude.{ℕ, List, [], ◌∷◌, ◌++◌, codes, decimal}
use Rattle.mono_text.specs.Text.{spaced}
use Rattle.mono_answer.specs.declared.answer.Answer.{Answer}
use Rattle.mono_answer.specs.declared.answer.Answer.TheVariants as answer
use Rattle.mono_answer.specs.Printed.{answer_text}
use Rattle.mono_io.specs.declared.refusal.ReadRefusal.{ReadRefusal}
use Rattle.mono_io.specs.declared.refusal.ReadRefusal.TheVariants as reading
use Rattle.mono_gnf.specs.Names.{fault_name}
use Rattle.mono_gnf.specs.declared.refusal.GnfRefusal.{GnfRefusal}
use Rattle.mono_gnf.specs.declared.refusal.GnfRefusal.TheVariants as form
use Rattle.mono_check.specs.declared.refusal.CheckRefusal.{CheckRefusal}
use Rattle.mono_check.specs.declared.refusal.CheckRefusal.TheVariants as judging
use Rattle.mono_check.specs.Names.{reason_name}
use Rattle.mono_check.specs.declared.reason.Reason.{Reason}
use Rattle.mono_check.specs.declared.reason.Reason.TheVariants as reason
use Rattle.mono_check.specs.declared.verdict.Verdict.{Verdict}
use Rattle.mono_check.specs.declared.verdict.Verdict.TheVariants as verdict
use Rattle.mono_core.specs.declared.outcome.CoreOutcome.{CoreOutcome}
use Rattle.mono_core.specs.declared.outcome.CoreOutcome.TheVariants as outcome
use Rattle.mono_forms.specs.CoreTexts.{outcome_text}
use Rattle.mono_best.specs.declared.outcome.BestOutcome.{BestOutcome}
use Rattle.mono_best.specs.declared.outcome.BestOutcome.TheVariants as bounded
use Rattle.mono_forms.specs.BestTexts.{best_text, refusal_text}
use Rattle.mono_forms.specs.declared.status.Status.{Status}
use Rattle.mono_forms.specs.declared.status.Status.TheVariants as status
use Rattle.mono_forms.specs.declared.summary.Summary.{Summary}
use Rattle.mono_forms.specs.declared.ending.Ending.{Ending}
use Rattle.mono_forms.specs.declared.ending.Ending.TheVariants as ending

abbrev pub answer_status : Answer → Status
answer_status (answer.Model values) = status.Satisfiable
answer_status (answer.Refutation steps) = status.Unsatisfiable
answer_status (answer.Progress steps) = status.Unknown

abbrev pub verdict_status : Verdict → Status
verdict_status verdict.Model = status.Accepted
verdict_status verdict.Refutation = status.Accepted
verdict_status (verdict.Progress n) = status.Accepted
verdict_status (verdict.Rejected line r) = status.Rejected

abbrev pub outcome_status : CoreOutcome → Status
outcome_status (outcome.Model values) = status.Satisfiable
outcome_status (outcome.Core lits steps needs) = status.Unsatisfiable
outcome_status (outcome.Unknown steps) = status.Unknown

abbrev pub best_status : BestOutcome → Status
best_status (bounded.Best b model steps) = status.Satisfiable
best_status (bounded.Never steps) = status.Unsatisfiable
best_status (bounded.Beyond model) = status.Satisfiable
best_status (bounded.Unknown b steps) = status.Unknown

abbrev pub status_of : Ending → Status
status_of ending.Words = status.Words
status_of ending.ReadFault = status.ReadFault
status_of ending.Memory = status.Memory
status_of ending.TooLong = status.TooLong
status_of (ending.Refused line fault) = status.Refused
status_of (ending.Solved a) = answer_status a
status_of (ending.Judged v) = verdict_status v
status_of (ending.Summed s) = answer_status s.answer
status_of (ending.Printed text) = status.Printed
status_of (ending.Narrowed o) = outcome_status o
status_of (ending.Bounded o) = best_status o
status_of (ending.Unasked r) = status.Refused

-- the name of a reason, and the number that it carries, if it carries one
abbrev pub reason_words : Reason → List (List ℕ)
reason_words (reason.ClauseFalse n) = reason_name (reason.ClauseFalse n) ∷ decimal n ∷ []
reason_words (reason.AtomWrong n) = reason_name (reason.AtomWrong n) ∷ decimal n ∷ []
reason_words r = reason_name r ∷ []

abbrev pub verdict_text : Verdict → List ℕ
verdict_text verdict.Model = codes "accepted model\n"
verdict_text verdict.Refutation = codes "accepted refutation\n"
verdict_text (verdict.Progress n) = spaced (codes "accepted" ∷ codes "progress" ∷ decimal n ∷ [])
verdict_text (verdict.Rejected line r) = spaced (codes "rejected" ∷ decimal line ∷ reason_words r)

-- the six lines of a summary. The verdict's text ends its line itself
abbrev pub summary_lines : ℕ → ℕ → ℕ → ℕ → List ℕ → List ℕ → List ℕ
summary_lines vars clauses edges predicates result verdict =
    spaced (codes "variables" ∷ decimal vars ∷ [])
    ++ spaced (codes "clauses" ∷ decimal clauses ∷ [])
    ++ spaced (codes "edges" ∷ decimal edges ∷ [])
    ++ spaced (codes "predicates" ∷ decimal predicates ∷ [])
    ++ spaced (codes "result" ∷ result ∷ [])
    ++ (codes "verdict " ++ verdict)

abbrev pub result_word : Answer → List ℕ
result_word (answer.Model values) = codes "satisfiable"
result_word (answer.Refutation steps) = codes "unsatisfiable"
result_word (answer.Progress steps) = codes "unknown"

-- what is printed behind the six lines: progress, whole
abbrev pub progress_text : Answer → List ℕ
progress_text (answer.Model values) = []
progress_text (answer.Refutation steps) = []
progress_text (answer.Progress steps) = answer_text (answer.Progress steps)

abbrev pub summary_text : Summary → List ℕ
summary_text s = summary_lines s.vars s.clauses s.edges s.predicates (result_word s.answer) (verdict_text s.verdict) ++ s.progress

-- the one line that names all commands
abbrev pub usage : List ℕ
usage =
    codes "usage: solve FILE [--conflicts N] | check FILE ANSWER | print FILE | gen KIND SIZE SEED [--solve]"
    ++ codes " | migrate FILE ANSWER VERSION | core FILE LIT.. | check-with FILE ANSWER LIT.. | best FILE ATOM | ask FILE ATOM B | team FILE K R\n"

abbrev pub text_of : Ending → List ℕ
text_of ending.Words = usage
text_of ending.ReadFault = codes "read fault\n"
text_of ending.Memory = []
text_of ending.TooLong = codes "too long\n"
text_of (ending.Refused line fault) = spaced (codes "refused" ∷ decimal line ∷ fault_name fault ∷ [])
text_of (ending.Solved a) = answer_text a
text_of (ending.Judged v) = verdict_text v
text_of (ending.Summed s) = summary_text s
text_of (ending.Printed text) = text
text_of (ending.Narrowed o) = outcome_text o
text_of (ending.Bounded o) = best_text o
text_of (ending.Unasked r) = refusal_text r

-- Memory may be wanting for the text of this ending, or was wanting on the way to it. A text of constants takes none, nor does one of a
-- single line, nor one that is there already.
abbrev pub TakesMemory : Ending → Type 0
TakesMemory ending.Words = ⊥
TakesMemory ending.ReadFault = ⊥
TakesMemory ending.TooLong = ⊥
TakesMemory (ending.Refused line fault) = ⊥
TakesMemory (ending.Judged v) = ⊥
TakesMemory (ending.Printed text) = ⊥
TakesMemory (ending.Unasked r) = ⊥
TakesMemory e = Unit {0}

-- ---- the ending where a step of the run ends it

abbrev pub unread_ending : ReadRefusal → Ending
unread_ending reading.Memory = ending.Memory
unread_ending reading.Fault = ending.ReadFault
unread_ending reading.TooLong = ending.TooLong

abbrev pub unjudged_ending : CheckRefusal → Ending
unjudged_ending judging.Memory = ending.Memory
unjudged_ending judging.Fault = ending.ReadFault
unjudged_ending judging.TooLong = ending.TooLong

abbrev pub refused_ending : GnfRefusal → Ending
refused_ending form.Memory = ending.Memory
refused_ending (form.At line fault) = ending.Refused line fault
