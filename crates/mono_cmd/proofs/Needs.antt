-- Over a steady shelf that holds what the command comes to, no read fault is answered, and the command is carried out.
use Rattle.std.proofs.Common.{◌≡◌, ◌≢◌, ◌<◌, ◌≤◌, ◌⊎◌, ℕ, true, false, List, Option, Some, None, IsSome, IsNone, IsTrue, IfSome, length, refl, sym, ap, subst, ◌∙◌, inl, inr, arith, ℤ}
use Rattle.std.specs.Prelude.{IsSomeAnd}
use Rattle.mono_base.specs.declared.limits.TheConstants.{MAX_INPUT_BYTES}
use Rattle.mono_problem.specs.Instance.{Instance}
use Rattle.mono_problem.specs.Assuming.{HasRoom}
use Rattle.mono_answer.specs.declared.answer.Answer.{Answer}
use Rattle.mono_answer.specs.declared.answer.Answer.TheVariants as answer
use Rattle.mono_check.specs.declared.verdict.Verdict.{Verdict}
use Rattle.mono_check.specs.declared.verdict.Verdict.TheVariants as verdict
use Rattle.mono_best.specs.declared.outcome.BestOutcome.{BestOutcome}
use Rattle.mono_best.specs.declared.outcome.BestOutcome.TheVariants as bounded
use Rattle.mono_core.specs.declared.outcome.CoreOutcome.{CoreOutcome}
use Rattle.mono_core.specs.declared.outcome.CoreOutcome.TheVariants as outcome
use Rattle.mono_io.specs.Shelf.{Texts, ShelfView, text_named, told_text, Lacks}
use Rattle.mono_words.specs.declared.command.Command.{Command}
use Rattle.mono_words.specs.declared.command.Command.TheVariants as command
use Rattle.mono_forms.specs.declared.status.Status.{Status}
use Rattle.mono_forms.specs.declared.status.Status.TheVariants as status
use Rattle.mono_forms.specs.declared.ending.Ending.{Ending}
use Rattle.mono_forms.specs.declared.ending.Ending.TheVariants as ending
use Rattle.mono_forms.specs.Endings.{status_of, TakesMemory, answer_status, verdict_status, outcome_status, best_status}
use Rattle.mono_forms.specs.Runs.{EndsAtFile, EndsAtText, ComesTo, Ends, Writes, HasProblem, HasNoFault, HasNoFaultWith, EachReached, IsHeld, IsHeldWithin, IsCarriedOut}
use Rattle.mono_forms.proofs.Stages.{ends_else, HasFile, HasAnswer, GoesOn, IsOwn, file_of, answer_of, limit_of, Stage, unread, at_file, behind_file, at_answer, behind_answer, stage_of}
use Rattle.mono_forms.proofs.Replies.{ending_by}

-- ---- one file

held_not_lacking : (texts : Option Texts) (file : List ℕ) (limit : ℕ) → IsHeld texts file limit → Lacks texts file → ⊥
held_not_lacking None file limit held lacks = lacks
held_not_lacking (Some entries) file limit held lacks = by_text (text_named file entries) held lacks
  where
    by_text : (o : Option (List ℕ)) → IsSome o → IsNone o → ⊥
    by_text None some none = absurd cc
    by_text (Some t) some none = absurd cc

within_not_longer : (texts : Option Texts) (file : List ℕ) (limit : ℕ) → IsHeldWithin texts file limit → IfSome texts (λ held. IsSomeAnd (text_named file held) (λ text. limit < length text)) → ⊥
within_not_longer None file limit within longer = within
within_not_longer (Some entries) file limit within longer = by_text (text_named file entries) within longer
  where
    by_text : (o : Option (List ℕ)) → IsSomeAnd o (λ text. length text ≤ limit) → IsSomeAnd o (λ text. limit < length text) → ⊥
    by_text None w l = w
    by_text (Some t) w l = absurd (omega (arith, w, l))

within_held : (texts : Option Texts) (file : List ℕ) (limit : ℕ) → IsHeldWithin texts file limit → IsHeld texts file limit
within_held texts file limit within = by_text (told_text texts file) within
  where
    by_text : (o : Option (List ℕ)) → IsSomeAnd o (λ text. length text ≤ limit) → IsSome o
    by_text None w = absurd w
    by_text (Some t) w = refl

-- a told FILE that stands for a problem has no fault
no_fault : (file : List ℕ) (old read : ShelfView) (p : Instance) → IsHeld old.texts file MAX_INPUT_BYTES → HasProblem file old read p → HasNoFault old.texts file
no_fault file old read p held has = by_texts old.texts held has.read.whole
  where
    by_texts : (texts : Option Texts) → IsHeld texts file MAX_INPUT_BYTES → IfSome texts (λ entries. text_named file entries ≡ Some has.text) → HasNoFault texts file
    by_texts None h whole = absurd cc
    by_texts (Some entries) h whole = rw whole (has.read.within, has.stands.0)

-- and there is room for the assumptions
no_fault_with : (file : List ℕ) (lits : List ℤ) (old read : ShelfView) (p : Instance) → IsHeld old.texts file MAX_INPUT_BYTES → HasProblem file old read p → HasRoom p lits → HasNoFaultWith old.texts file lits
no_fault_with file lits old read p held has room = by_texts old.texts held has.read.whole
  where
    by_texts : (texts : Option Texts) → IsHeld texts file MAX_INPUT_BYTES → IfSome texts (λ entries. text_named file entries ≡ Some has.text) → HasNoFaultWith texts file lits
    by_texts None h whole = absurd cc
    by_texts (Some entries) h whole = rw whole (has.read.within, (p, has.stands, room))

-- ---- commands

-- FILE meets the condition
reached_file : (Holds : List ℕ → ℕ → Type 0) (texts : Option Texts) (found : Option Command) → HasFile found → IsSomeAnd found (EachReached Holds texts) → Holds (file_of found) MAX_INPUT_BYTES
reached_file Holds texts None reads holds = absurd reads
reached_file Holds texts (Some (command.Gen k size seed solve)) reads holds = absurd reads
reached_file Holds texts (Some (command.Check file answer)) reads holds = holds.0
reached_file Holds texts (Some (command.Migrate file answer v)) reads holds = holds.0
reached_file Holds texts (Some (command.CheckWith file answer lits)) reads holds = holds.0
reached_file Holds texts found reads holds = holds

-- and ANSWER does where the run goes on to it
reached_answer : (Holds : List ℕ → ℕ → Type 0) (found : Option Command) (old read : ShelfView) (p : Instance) → HasAnswer found → HasProblem (file_of found) old read p → GoesOn found p
    → IsHeld old.texts (file_of found) MAX_INPUT_BYTES → IsSomeAnd found (EachReached Holds old.texts) → Holds (answer_of found) (limit_of found)
reached_answer Holds (Some (command.Check file answer)) old read p reads has goes held holds = holds.1 (no_fault file old read p held has)
reached_answer Holds (Some (command.Migrate file answer v)) old read p reads has goes held holds = holds.1 (no_fault file old read p held has)
reached_answer Holds (Some (command.CheckWith file answer lits)) old read p reads has goes held holds = holds.1 (no_fault_with file lits old read p held has goes)
reached_answer Holds found old read p reads has goes held holds = absurd reads

-- a command that reads ANSWER reads FILE
has_file : (found : Option Command) → HasAnswer found → HasFile found
has_file (Some (command.Check file answer)) reads = tt
has_file (Some (command.Migrate file answer v)) reads = tt
has_file (Some (command.CheckWith file answer lits)) reads = tt
has_file found reads = absurd reads

module _ (Holds : List ℕ → ℕ → Type 0) (found : Option Command) (old new : ShelfView) (weaker : (file : List ℕ) (limit : ℕ) → Holds file limit → IsHeld old.texts file limit) (holds : IsSomeAnd found (EachReached Holds old.texts)) where
  never_read_fault : IsTrue old.steady → Stage found old new ending.ReadFault → ⊥
  never_read_fault steady (unread none own same) = own
  never_read_fault steady (at_file reads ends) =
      held_not_lacking old.texts (file_of found) MAX_INPUT_BYTES (weaker (file_of found) MAX_INPUT_BYTES (reached_file Holds old.texts found reads holds)) (ends.lacking steady)
  never_read_fault steady (behind_file reads own p has) = own
  never_read_fault steady (at_answer p read behind ends) =
      let held = weaker (file_of found) MAX_INPUT_BYTES (reached_file Holds old.texts found (has_file found behind.reads) holds) in
      let reached = reached_answer Holds found old read p behind.reads behind.has behind.goes held holds in
      let lacks = subst (λ (texts : Option Texts). Lacks texts (answer_of found)) behind.has.read.once.texts (ends.lacking (behind.has.read.once.steady steady)) in
      held_not_lacking old.texts (answer_of found) (limit_of found) (weaker (answer_of found) (limit_of found) reached) lacks
  never_read_fault steady (behind_answer p read text behind own given) = own

never_too_long : (found : Option Command) (old new : ShelfView) → IsSomeAnd found (EachReached (IsHeldWithin old.texts) old.texts) → Stage found old new ending.TooLong → ⊥
never_too_long found old new holds (unread none own same) = own
never_too_long found old new holds (at_file reads ends) = within_not_longer old.texts (file_of found) MAX_INPUT_BYTES (reached_file (IsHeldWithin old.texts) old.texts found reads holds) ends.longer
never_too_long found old new holds (behind_file reads own p has) = own
never_too_long found old new holds (at_answer p read behind ends) =
    let held = within_held old.texts (file_of found) MAX_INPUT_BYTES (reached_file (IsHeldWithin old.texts) old.texts found (has_file found behind.reads) holds) in
    let reached = reached_answer (IsHeldWithin old.texts) found old read p behind.reads behind.has behind.goes held holds in
    let longer = subst (λ (texts : Option Texts). IfSome texts (λ entries. IsSomeAnd (text_named (answer_of found) entries) (λ text. limit_of found < length text))) behind.has.read.once.texts ends.longer in
    within_not_longer old.texts (answer_of found) (limit_of found) reached longer
never_too_long found old new holds (behind_answer p read text behind own given) = own

-- ---- statuses

-- where neither a write failed nor memory was wanting, the status is the ending's
its_status : (e : Ending) (s : Status) (before now : Option (List ℕ)) → Writes e s before now → s ≢ status.WriteFault → s ≢ status.Memory → s ≡ status_of e
its_status e status.WriteFault before now w no_fault found = absurd (no_fault refl)
its_status e status.Memory before now w no_fault found = absurd (found refl)
its_status e s before now w no_fault found = w.0

-- a read fault isn't hidden behind another status
pub no_read_fault : (e : Ending) (s : Status) (before now : Option (List ℕ)) → Writes e s before now → s ≢ status.ReadFault → s ≢ status.WriteFault → e ≢ ending.ReadFault
no_read_fault e status.WriteFault before now w other no_fault = absurd (no_fault refl)
no_read_fault e status.ReadFault before now w other no_fault = absurd (other refl)
no_read_fault e status.Memory before now w other no_fault = λ same. subst TakesMemory same w.1
no_read_fault e s before now w other no_fault = λ same. absurd (let is = w.0 ∙ ap status_of same in cc)

pub steady : (found : Option Command) (old new : ShelfView) (e : Ending) (s : Status) (before now : Option (List ℕ)) → Ends found old new e → Writes e s before now
    → IsTrue old.steady → IsSomeAnd found (EachReached (IsHeld old.texts) old.texts) → s ≢ status.ReadFault
steady found old new e s before now ends writes is_steady holds = λ same.
    let here : Writes e status.ReadFault before now = subst (λ (t : Status). Writes e t before now) same writes in
    let comes : ComesTo found old new ending.ReadFault = subst (Ends found old new) (ending_by status.ReadFault e here.0) ends in
    never_read_fault (IsHeld old.texts) found old new (λ file limit held. held) holds is_steady (stage_of found old new ending.ReadFault comes)

-- ---- what is carried out

-- the run doesn't end at a file that it can't go on behind
record IsOver (e : Ending) : Type 0 where
  read : e ≢ ending.ReadFault
  found : e ≢ ending.Memory
  short : e ≢ ending.TooLong

-- a satisfiable, unsatisfiable, unknown or refused input
abbrev IsDecided : Status → Type 0
IsDecided s = (s ≡ status.Satisfiable) ⊎ (s ≡ status.Unsatisfiable) ⊎ (s ≡ status.Unknown) ⊎ (s ≡ status.Refused)

answer_decided : (a : Answer) → IsDecided (answer_status a)
answer_decided (answer.Model values) = inl refl
answer_decided (answer.Refutation steps) = inr (inl refl)
answer_decided (answer.Progress steps) = inr (inr (inl refl))

outcome_decided : (o : CoreOutcome) → IsDecided (outcome_status o)
outcome_decided (outcome.Model values) = inl refl
outcome_decided (outcome.Core lits steps needs) = inr (inl refl)
outcome_decided (outcome.Unknown steps) = inr (inr (inl refl))

best_decided : (o : BestOutcome) → IsDecided (best_status o)
best_decided (bounded.Best b model steps) = inl refl
best_decided (bounded.Never steps) = inr (inl refl)
best_decided (bounded.Beyond model) = inl refl
best_decided (bounded.Unknown b steps) = inr (inr (inl refl))

abbrev IsConcluded : Status → Type 0
IsConcluded s = (s ≡ status.Accepted) ⊎ (s ≡ status.Rejected) ⊎ (s ≡ status.Refused)

verdict_concluded : (v : Verdict) → IsConcluded (verdict_status v)
verdict_concluded (verdict.Rejected line r) = inr (inl refl)
verdict_concluded verdict.Model = inl refl
verdict_concluded verdict.Refutation = inl refl
verdict_concluded (verdict.Progress n) = inl refl

-- a generated input was read without a fault
abbrev IsSummed : Status → Type 0
IsSummed s = (s ≡ status.Satisfiable) ⊎ (s ≡ status.Unsatisfiable) ⊎ (s ≡ status.Unknown)

answer_summed : (a : Answer) → IsSummed (answer_status a)
answer_summed (answer.Model values) = inl refl
answer_summed (answer.Refutation steps) = inr (inl refl)
answer_summed (answer.Progress steps) = inr (inr refl)

-- an ending of its own carries a command out
own_done : (e : Ending) (c : Command) → IsOwn e (Some c) → IsCarriedOut c (status_of e)
own_done (ending.Solved a) (command.Solve file budget) own = answer_decided a
own_done (ending.Solved a) (command.Team file workers rounds) own = answer_decided a
own_done (ending.Judged v) (command.Check file answer) own = verdict_concluded v
own_done (ending.Judged v) (command.CheckWith file answer lits) own = verdict_concluded v
own_done (ending.Judged (verdict.Rejected line r)) (command.Migrate file answer v) own = inr (inl refl)
own_done (ending.Printed text) (command.Migrate file answer v) own = inl refl
own_done (ending.Printed text) (command.Print file) own = inl refl
own_done (ending.Printed text) (command.Ask file n b) own = inl refl
own_done (ending.Printed text) (command.Gen k size seed false) own = refl
own_done (ending.Summed s) (command.Gen k size seed true) own = answer_summed s.answer
own_done (ending.Refused line fault) (command.Core file lits) own = inr (inr (inr refl))
own_done (ending.Refused line fault) (command.CheckWith file answer lits) own = inr (inr refl)
own_done (ending.Narrowed o) (command.Core file lits) own = outcome_decided o
own_done (ending.Bounded o) (command.Best file n) own = best_decided o
own_done (ending.Unasked r) (command.Best file n) own = inr (inr (inr refl))
own_done (ending.Unasked r) (command.Ask file n b) own = inr refl
own_done e c own = absurd own

-- and so does a first fault of FILE
refused_done : (c : Command) → HasFile (Some c) → IsCarriedOut c status.Refused
refused_done (command.Gen k size seed solve) reads = absurd reads
refused_done (command.Print file) reads = inr refl
refused_done (command.Ask file n b) reads = inr refl
refused_done (command.Check file answer) reads = inr (inr refl)
refused_done (command.Migrate file answer v) reads = inr (inr refl)
refused_done (command.CheckWith file answer lits) reads = inr (inr refl)
refused_done c reads = inr (inr (inr refl))

file_done : (c : Command) (file : List ℕ) (old new : ShelfView) (e : Ending) → IsOver e → HasFile (Some c) → EndsAtFile file old new e → IsCarriedOut c (status_of e)
file_done c file old new (ending.Refused line fault) over reads ends = refused_done c reads
file_done c file old new ending.ReadFault over reads ends = absurd (over.read refl)
file_done c file old new ending.TooLong over reads ends = absurd (over.short refl)
file_done c file old new ending.Memory over reads ends = absurd (over.found refl)
file_done c file old new e over reads ends = absurd ends

text_over : (file : List ℕ) (limit : ℕ) (old new : ShelfView) (e : Ending) → IsOver e → EndsAtText file limit old new e → ⊥
text_over file limit old new ending.ReadFault over ends = over.read refl
text_over file limit old new ending.TooLong over ends = over.short refl
text_over file limit old new ending.Memory over ends = over.found refl
text_over file limit old new e over ends = ends

stage_done : (c : Command) (old new : ShelfView) (e : Ending) → IsOver e → Stage (Some c) old new e → IsCarriedOut c (status_of e)
stage_done c old new e over (unread none own same) = own_done e c own
stage_done c old new e over (at_file reads ends) = file_done c (file_of (Some c)) old new e over reads ends
stage_done c old new e over (behind_file reads own p has) = own_done e c own
stage_done c old new e over (at_answer p read behind ends) = absurd (text_over (answer_of (Some c)) (limit_of (Some c)) read new e over ends)
stage_done c old new e over (behind_answer p read text behind own given) = own_done e c own

pub complete : (found : Option Command) (old new : ShelfView) (e : Ending) (s : Status) (before now : Option (List ℕ)) → Ends found old new e → Writes e s before now
    → IsTrue old.steady → IsSomeAnd found (EachReached (IsHeldWithin old.texts) old.texts) → s ≢ status.WriteFault → s ≢ status.Memory → IsSomeAnd found (λ c. IsCarriedOut c s)
complete None old new e s before now ends writes is_steady holds no_fault memory = holds
complete (Some c) old new e s before now ends writes is_steady holds no_fault memory =
    subst (IsCarriedOut c) (sym is) (stage_done c old new e over (stage_of (Some c) old new e (ends_else (Some c) old new e found ends)))
  where
    is : s ≡ status_of e
    is = its_status e s before now writes no_fault memory

    found : e ≢ ending.Memory
    found = λ same. memory (is ∙ ap status_of same)

    its_end : (d : Ending) → e ≡ d → Ends (Some c) old new d
    its_end d same = subst (Ends (Some c) old new) same ends

    over : IsOver e
    over = record {
      read = λ same. never_read_fault (IsHeldWithin old.texts) (Some c) old new (within_held old.texts) holds is_steady (stage_of (Some c) old new ending.ReadFault (its_end ending.ReadFault same));
      found = found;
      short = λ same. never_too_long (Some c) old new holds (stage_of (Some c) old new ending.TooLong (its_end ending.TooLong same));
    }
