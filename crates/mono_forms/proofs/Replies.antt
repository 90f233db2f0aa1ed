-- What a run shows that ends with a reply: an ending of its command's own, behind what it reads.
use Rattle.std.proofs.Common.{◌≡◌, ◌≤◌, Bool, true, false, ℕ, List, ◌++◌, length, Option, Some, None, IfSome, refl, sym, ap, subst, ◌∙◌, inl, inr}
use Rattle.std.proofs.lemmas.List.{append_cancel_left}
use Rattle.std.specs.Io.KnownBytes.{Appends}
use Rattle.mono_problem.specs.Instance.{Instance}
use Rattle.mono_gnf.specs.Stands.{Stands}
use Rattle.mono_answer.specs.declared.answer.Answer.{Answer}
use Rattle.mono_answer.specs.declared.answer.Answer.TheVariants as answer
use Rattle.mono_check.specs.declared.verdict.Verdict.{Verdict}
use Rattle.mono_check.specs.declared.verdict.Verdict.TheVariants as verdict
use Rattle.mono_best.specs.declared.outcome.BestOutcome.{BestOutcome}
use Rattle.mono_best.specs.declared.outcome.BestOutcome.TheVariants as bounded
use Rattle.mono_core.specs.declared.outcome.CoreOutcome.{CoreOutcome}
use Rattle.mono_core.specs.declared.outcome.CoreOutcome.TheVariants as outcome
use Rattle.mono_io.specs.Shelf.{Texts, ShelfView, text_named, told_text}
use Rattle.mono_words.specs.declared.command.Command.{Command}
use Rattle.mono_forms.specs.declared.status.Status.{Status}
use Rattle.mono_forms.specs.declared.status.Status.TheVariants as status
use Rattle.mono_forms.specs.declared.ending.Ending.{Ending}
use Rattle.mono_forms.specs.declared.ending.Ending.TheVariants as ending
use Rattle.mono_forms.specs.Endings.{status_of, text_of, answer_status, verdict_status, outcome_status, best_status}
use Rattle.mono_forms.specs.Runs.{EndsAtText, EndsAtFile, WithText, WithProblem, HasProblem, ComesTo, Ends, Writes, Runs}
use Rattle.mono_forms.proofs.Stages.{ends_else, IsOwn, file_of, answer_of, limit_of, Stage, unread, at_file, behind_file, at_answer, behind_answer}

-- ---- statuses

-- the statuses of replies
abbrev pub is_reply : Status → Bool
is_reply status.Words = false
is_reply status.Refused = false
is_reply status.ReadFault = false
is_reply status.WriteFault = false
is_reply status.Memory = false
is_reply status.TooLong = false
is_reply s = true

pub not_both : (s t : Status) → s ≡ t → is_reply s ≡ true → is_reply t ≡ false → ⊥
not_both s t is reply none = absurd (let h = sym reply ∙ ap is_reply is ∙ none in cc)

-- what is said of replies alone: with each other status it holds anyway
abbrev pub IsOfReplies : (Status → Type 0) → Type 0
IsOfReplies Says = Says status.Words × Says status.Refused × Says status.ReadFault × Says status.WriteFault × Says status.Memory × Says status.TooLong

by_status : (s : Status) (Says : Status → Type 0) → IsOfReplies Says → ((t : Status) → is_reply t ≡ true → s ≡ t → Says t) → Says s
by_status status.Words Says none says = none.0
by_status status.Refused Says none says = none.1
by_status status.ReadFault Says none says = none.2
by_status status.WriteFault Says none says = none.3
by_status status.Memory Says none says = none.4
by_status status.TooLong Says none says = none.5
by_status s Says none says = says s refl refl

pub answer_reply : (a : Answer) → is_reply (answer_status a) ≡ true
answer_reply (answer.Model values) = refl
answer_reply (answer.Refutation steps) = refl
answer_reply (answer.Progress steps) = refl

pub verdict_reply : (v : Verdict) → is_reply (verdict_status v) ≡ true
verdict_reply verdict.Model = refl
verdict_reply verdict.Refutation = refl
verdict_reply (verdict.Progress n) = refl
verdict_reply (verdict.Rejected line r) = refl

pub outcome_reply : (o : CoreOutcome) → is_reply (outcome_status o) ≡ true
outcome_reply (outcome.Model values) = refl
outcome_reply (outcome.Core lits steps needs) = refl
outcome_reply (outcome.Unknown steps) = refl

pub best_reply : (o : BestOutcome) → is_reply (best_status o) ≡ true
best_reply (bounded.Best b model steps) = refl
best_reply (bounded.Never steps) = refl
best_reply (bounded.Beyond model) = refl
best_reply (bounded.Unknown b steps) = refl

-- the one ending of a status that no other ending has
abbrev pub IsItsEnding : Status → Ending → Type 0
IsItsEnding status.ReadFault e = e ≡ ending.ReadFault
IsItsEnding status.TooLong e = e ≡ ending.TooLong
IsItsEnding s e = Unit {0}

reply_ending : (s : Status) (e : Ending) → is_reply s ≡ true → IsItsEnding s e
reply_ending status.ReadFault e reply = absurd cc
reply_ending status.TooLong e reply = absurd cc
reply_ending s e reply = tt

own_ending : (e : Ending) → IsItsEnding (status_of e) e
own_ending ending.ReadFault = refl
own_ending ending.TooLong = refl
own_ending (ending.Solved a) = reply_ending (answer_status a) (ending.Solved a) (answer_reply a)
own_ending (ending.Summed s) = reply_ending (answer_status s.answer) (ending.Summed s) (answer_reply s.answer)
own_ending (ending.Judged v) = reply_ending (verdict_status v) (ending.Judged v) (verdict_reply v)
own_ending (ending.Narrowed o) = reply_ending (outcome_status o) (ending.Narrowed o) (outcome_reply o)
own_ending (ending.Bounded o) = reply_ending (best_status o) (ending.Bounded o) (best_reply o)
own_ending e = tt

pub ending_by : (s : Status) (e : Ending) → s ≡ status_of e → IsItsEnding s e
ending_by s e is = subst (λ (t : Status). IsItsEnding t e) (sym is) (own_ending e)

-- with such a status the text was written whole
pub writes_reply : (e : Ending) (t : Status) (before now : Option (List ℕ)) → is_reply t ≡ true → Writes e t before now → (t ≡ status_of e) × Appends before now (text_of e)
writes_reply e status.WriteFault before now reply w = absurd (not_both status.WriteFault status.WriteFault refl reply refl)
writes_reply e status.Memory before now reply w = absurd (not_both status.Memory status.Memory refl reply refl)
writes_reply e t before now reply w = w

-- ---- endings

-- a run that ends at a file has no such status
text_no_reply : (file : List ℕ) (limit : ℕ) (old new : ShelfView) (e : Ending) → EndsAtText file limit old new e → is_reply (status_of e) ≡ false
text_no_reply file limit old new ending.ReadFault ends = refl
text_no_reply file limit old new ending.TooLong ends = refl
text_no_reply file limit old new ending.Memory ends = refl
text_no_reply file limit old new e ends = absurd ends

file_no_reply : (file : List ℕ) (old new : ShelfView) (e : Ending) → EndsAtFile file old new e → is_reply (status_of e) ≡ false
file_no_reply file old new (ending.Refused line fault) ends = refl
file_no_reply file old new ending.ReadFault ends = refl
file_no_reply file old new ending.TooLong ends = refl
file_no_reply file old new ending.Memory ends = refl
file_no_reply file old new e ends = absurd ends

-- one that has such a status came to an ending of its command's own
pub replied : (found : Option Command) (old new : ShelfView) (e : Ending) → Stage found old new e → is_reply (status_of e) ≡ true → IsOwn e found
replied found old new e (unread none own same) reply = own
replied found old new e (at_file reads ends) reply = absurd (not_both (status_of e) (status_of e) refl reply (file_no_reply (file_of found) old new e ends))
replied found old new e (behind_file reads own p has) reply = own
replied found old new e (at_answer p read behind ends) reply = absurd (not_both (status_of e) (status_of e) refl reply (text_no_reply (answer_of found) (limit_of found) read new e ends))
replied found old new e (behind_answer p read text behind own given) reply = own

-- ---- the problem that FILE stands for

-- the text that was read is the one that the shelf tells
pub same_text : (texts : Option Texts) (file text read : List ℕ) → told_text texts file ≡ Some text → IfSome texts (λ held. text_named file held ≡ Some read) → read ≡ text
same_text None file text read told is = absurd cc
same_text (Some held) file text read told is = cc

pub same_problem : (text : List ℕ) (p q : Instance) → Stands text p → Stands text q → p ≡ q
same_problem text p q a b = a.1 ∙ sym b.1

pub its_problem : (file text : List ℕ) (old read : ShelfView) (p q : Instance) → told_text old.texts file ≡ Some text → Stands text p → HasProblem file old read q → q ≡ p
its_problem file text old read p q told stands has =
    let same = same_text old.texts file text has.text told has.read.whole in
    same_problem text q p (subst (λ (t : List ℕ). Stands t q) same has.stands) stands

-- the end of a command that reads FILE alone is one of the problem that FILE stands for
pub end_behind : (file text : List ℕ) (old new : ShelfView) (e : Ending) (p : Instance) (End : Instance → Type 0) → told_text old.texts file ≡ Some text → Stands text p → is_reply (status_of e) ≡ true
    → WithProblem file old new e (λ q shelf. End q × (new ≡ shelf)) → End p
end_behind file text old new e p End told stands reply (inl ends) = absurd (not_both (status_of e) (status_of e) refl reply (file_no_reply file old new e ends))
end_behind file text old new e p End told stands reply (inr (q, read, has, end)) = subst End (its_problem file text old read p q told stands has) end.0

-- that of one that reads ANSWER too is also one of the text that is told of ANSWER, which isn't beyond its limit
pub end_behind_both : (file text name given : List ℕ) (limit : ℕ) (old new : ShelfView) (e : Ending) (p : Instance) (End : Instance → List ℕ → Type 0) → told_text old.texts file ≡ Some text → Stands text p
    → told_text old.texts name ≡ Some given → is_reply (status_of e) ≡ true → WithProblem file old new e (λ q read. WithText name limit read new e (λ t shelf. End q t × (new ≡ shelf)))
    → End p given × (length given ≤ limit)
end_behind_both file text name given limit old new e p End told stands answered reply (inl ends) =
    absurd (not_both (status_of e) (status_of e) refl reply (file_no_reply file old new e ends))
end_behind_both file text name given limit old new e p End told stands answered reply (inr (q, read, has, inl ends)) =
    absurd (not_both (status_of e) (status_of e) refl reply (text_no_reply name limit read new e ends))
end_behind_both file text name given limit old new e p End told stands answered reply (inr (q, read, has, inr (t, shelf, whole, end))) =
    let problem : q ≡ p = its_problem file text old read p q told stands has in
    let held : IfSome old.texts (λ texts. text_named name texts ≡ Some t) = subst (λ (o : Option Texts). IfSome o (λ texts. text_named name texts ≡ Some t)) has.read.once.texts whole.whole in
    let same : t ≡ given = same_text old.texts name given t answered held in
    (subst (λ (u : List ℕ). End p u) same (subst (λ (r : Instance). End r t) problem end.0), subst (λ (u : List ℕ). length u ≤ limit) same whole.within)

-- ---- what was written

-- what was written behind a text is the text that was appended
pub appended : (before now : Option (List ℕ)) (there written t : List ℕ) → before ≡ Some there → now ≡ Some (there ++ written) → Appends before now t → t ≡ written
appended before now there written t held wrote is =
    let here : Appends (Some there) now t = subst (λ (o : Option (List ℕ)). Appends o now t) held is in
    let longer : Appends (Some there) (Some (there ++ written)) t = subst (λ (o : Option (List ℕ)). Appends (Some there) o t) wrote here in
    append_cancel_left there t written (sym longer)

pub runs_by : (found : Option Command) (old new : ShelfView) (e : Ending) (s : Status) (before now : Option (List ℕ)) → Ends found old new e → Writes e s before now → Runs found old new s before now
runs_by found old new e s before now ends writes = record { ending = e; ends = ends; writes = writes }

-- What each outcome shows holds of a run by its status, where a reply of that run is the ending made of an outcome that is right.
pub shown : (found : Option Command) (old new : ShelfView) (s : Status) (before now : Option (List ℕ)) → Runs found old new s before now
    → (Outcome : Type 0) (made : Outcome → Ending) (Right : Outcome → Type 0)
    → ((e : Ending) → ComesTo found old new e → is_reply (status_of e) ≡ true → (o : Outcome) × (e ≡ made o) × Right o)
    → (Shows : Status → Type 0) → ((o : Outcome) → Right o → Appends before now (text_of (made o)) → Shows (status_of (made o)))
    → (t : Status) → is_reply t ≡ true → s ≡ t → Shows t
shown found old new s before now runs Outcome made Right came Shows shows t reply is =
    let w = writes_reply runs.ending t before now reply (subst (λ (u : Status). Writes runs.ending u before now) is runs.writes) in
    let comes = ends_else found old new runs.ending (λ memory. not_both t status.Memory (w.0 ∙ ap status_of memory) reply refl) runs.ends in
    let end = came runs.ending comes (ap is_reply (sym w.0) ∙ reply) in
    subst Shows (sym (w.0 ∙ ap status_of end.1)) (shows end.0 end.2 (subst (λ (d : Ending). Appends before now (text_of d)) end.1 w.1))

-- What is said of each outcome's text by its status, and of replies alone, holds of what a run wrote by the run's status.
pub said : (found : Option Command) (old new : ShelfView) (s : Status) (before now : Option (List ℕ)) → Runs found old new s before now
    → (Outcome : Type 0) (made : Outcome → Ending) (Right : Outcome → Type 0)
    → ((e : Ending) → ComesTo found old new e → is_reply (status_of e) ≡ true → (o : Outcome) × (e ≡ made o) × Right o)
    → (Says : Status → List ℕ → Type 0) → ((text : List ℕ) → IsOfReplies (λ t. Says t text))
    → ((o : Outcome) → Right o → Says (status_of (made o)) (text_of (made o)))
    → (there written : List ℕ) → before ≡ Some there → now ≡ Some (there ++ written) → Says s written
said found old new s before now runs Outcome made Right came Says none says there written held wrote =
    by_status s (λ t. Says t written) (none written)
    (shown found old new s before now runs Outcome made Right came (λ t. Says t written)
    (λ o h w. subst (λ (text : List ℕ). Says (status_of (made o)) text) (appended before now there written (text_of (made o)) held wrote w) (says o h)))
