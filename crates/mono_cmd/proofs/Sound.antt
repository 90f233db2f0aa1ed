-- What the texts that `check` writes show of the problem that FILE stands for.
use Rattle.std.proofs.Common.{◌≡◌, ◌<◌, ℕ, Bool, true, false, List, [], ◌++◌, Option, Some, length, take, refl, sym, ap, subst, ◌∙◌, codes, inl, inr, arith}
use Rattle.std.specs.Prelude.{slice_index}
use Rattle.std.proofs.Math.Dec.{eqb}
use Rattle.std.proofs.Math.Seq.{take-length}
use Rattle.std.proofs.lemmas.Bool.{eqb-false}
use Rattle.std.proofs.lemmas.List.{get_or-take, length-take}
use Rattle.std.specs.Io.KnownBytes.{Appends}
use Rattle.std.proofs.KnownBytes.{Appends-nil}
use Rattle.mono_problem.specs.Instance.{Instance}
use Rattle.mono_problem.specs.Holds.{HasNoModel, Satisfies}
use Rattle.mono_gnf.proofs.WellFormedReading.{stands_well_formed}
use Rattle.mono_check.specs.declared.verdict.Verdict.{Verdict}
use Rattle.mono_check.specs.declared.verdict.Verdict.TheVariants as verdict
use Rattle.mono_check.specs.Verdicts.{IsVerdict}
use Rattle.mono_best.specs.declared.outcome.BestOutcome.{BestOutcome}
use Rattle.mono_best.specs.declared.outcome.BestOutcome.TheVariants as bounded
use Rattle.mono_forms.specs.declared.asking.AskRefusal.{AskRefusal}
use Rattle.mono_forms.specs.declared.asking.AskRefusal.TheVariants as refusal
use Rattle.mono_forms.specs.BestTexts.{best_text, refusal_text}
use Rattle.mono_check.proofs.Accepted.{refutation_has_no_model, model_satisfies}
use Rattle.mono_io.specs.Shelf.{ShelfView}
use Rattle.mono_words.specs.declared.command.Command.{Command}
use Rattle.mono_words.specs.declared.command.Command.TheVariants as command
use Rattle.mono_forms.specs.declared.status.Status.{Status}
use Rattle.mono_forms.specs.declared.status.Status.TheVariants as status
use Rattle.mono_forms.specs.declared.ending.Ending.{Ending}
use Rattle.mono_forms.specs.declared.ending.Ending.TheVariants as ending
use Rattle.mono_forms.specs.Endings.{status_of, text_of, verdict_text}
use Rattle.mono_forms.specs.Runs.{ComesTo, Ends, Writes, Runs, HasProblem, CheckWrote}
use Rattle.mono_forms.proofs.Stages.{IsOwn, stage_of}
use Rattle.mono_forms.proofs.Replies.{is_reply, replied, answer_reply, outcome_reply, its_problem, appended}

-- ---- the front of a text

-- a text with this front has its bytes at the same places
same_byte : (text front : List ℕ) (count i : ℕ) → take count text ≡ front → i < length front → slice_index text i ≡ slice_index front i
same_byte text front count i is within =
    let long : i < count = omega (arith, ap (λ (l : List ℕ). length l) is, length-take count text) in
    sym (get_or-take count text i 0 long) ∙ ap (λ (l : List ℕ). slice_index l i) is

differs : (text front : List ℕ) (count i a b : ℕ) → take count text ≡ front → i < length front → slice_index text i ≡ a → slice_index front i ≡ b → (eqb a b ≡ false) → ⊥
differs text front count i a b is within has wants other =
    eqb-false a b other (sym has ∙ same_byte text front count i is within ∙ wants)

-- a text that was written behind another is the front of the text that is due
pub front_written : (e : Ending) (s : Status) (before now : Option (List ℕ)) (there written : List ℕ) → 0 < length written → Writes e s before now
    → before ≡ Some there → now ≡ Some (there ++ written) → (count : ℕ) × (take count (text_of e) ≡ written)
front_written e s before now there written some writes held wrote = by_status s writes
  where
    whole : Appends before now (text_of e) → (count : ℕ) × (take count (text_of e) ≡ written)
    whole is = (length (text_of e), take-length (text_of e) ∙ appended before now there written (text_of e) held wrote is)

    nothing : now ≡ before → (count : ℕ) × (take count (text_of e) ≡ written)
    nothing is =
        let none : [] ≡ written = appended before now there written [] held wrote (subst (λ (o : Option (List ℕ)). Appends before o []) (sym is) (Appends-nil before)) in
        absurd (omega (arith, ap (λ (l : List ℕ). length l) none))

    by_status : (t : Status) → Writes e t before now → (count : ℕ) × (take count (text_of e) ≡ written)
    by_status status.WriteFault w = (w.count, appended before now there written (take w.count (text_of e)) held wrote w.appended)
    by_status status.Memory w = nothing w.0
    by_status t w = whole w.1

-- ---- which verdict it was

abbrev pub refutation_text : List ℕ
refutation_text = codes "accepted refutation\n"

abbrev pub model_text : List ℕ
model_text = codes "accepted model\n"

pub only_refutation : (v : Verdict) (count : ℕ) → take count (verdict_text v) ≡ refutation_text → v ≡ verdict.Refutation
only_refutation verdict.Model count is = absurd (differs (verdict_text verdict.Model) refutation_text count 9 109 114 is (omega arith) refl refl refl)
only_refutation verdict.Refutation count is = refl
only_refutation (verdict.Progress n) count is = absurd (differs (verdict_text (verdict.Progress n)) refutation_text count 9 112 114 is (omega arith) refl refl refl)
only_refutation (verdict.Rejected line r) count is = absurd (differs (verdict_text (verdict.Rejected line r)) refutation_text count 0 114 97 is (omega arith) refl refl refl)

pub only_model : (v : Verdict) (count : ℕ) → take count (verdict_text v) ≡ model_text → v ≡ verdict.Model
only_model verdict.Model count is = refl
only_model verdict.Refutation count is = absurd (differs (verdict_text verdict.Refutation) model_text count 9 114 109 is (omega arith) refl refl refl)
only_model (verdict.Progress n) count is = absurd (differs (verdict_text (verdict.Progress n)) model_text count 9 112 109 is (omega arith) refl refl refl)
only_model (verdict.Rejected line r) count is = absurd (differs (verdict_text (verdict.Rejected line r)) model_text count 0 114 97 is (omega arith) refl refl refl)

-- FILE stood for this problem, and the verdict on an answer was this
record WasJudged (file : List ℕ) (old : ShelfView) (p : Instance) (v : Verdict) : Type 0 where
  read : ShelfView
  has : HasProblem file old read p
  answer : List ℕ
  is : IsVerdict p answer v

judged : (file answer : List ℕ) (old new : ShelfView) (v : Verdict) → ComesTo (Some (command.Check file answer)) old new (ending.Judged v) → (p : Instance) × WasJudged file old p v
judged file answer old new v (inl ends) = absurd ends
judged file answer old new v (inr (p, read, has, inl ends)) = absurd ends
judged file answer old new v (inr (p, read, has, inr (text, shelf, given, end))) = (p, record { read = read; has = has; answer = text; is = end.0 })

outcome_byte : (o : BestOutcome) → slice_index (best_text o) 0 ≡ 99
outcome_byte (bounded.Best b model steps) = refl
outcome_byte (bounded.Never steps) = refl
outcome_byte (bounded.Beyond model) = refl
outcome_byte (bounded.Unknown b steps) = refl

refusal_byte : (r : AskRefusal) → slice_index (refusal_text r) 0 ≡ 114
refusal_byte refusal.BadAtom = refl
refusal_byte refusal.BadBound = refl
refusal_byte refusal.TooMany = refl

-- neither an answer, a summary, a core nor a printed text
abbrev pub IsUnanswered : Ending → Type 0
IsUnanswered (ending.Solved a) = ⊥
IsUnanswered (ending.Printed text) = ⊥
IsUnanswered (ending.Summed s) = ⊥
IsUnanswered (ending.Narrowed o) = ⊥
IsUnanswered e = Unit {0}

-- where none of them is an ending of the command's own, the run comes to none
unanswered : (found : Option Command) (old new : ShelfView) (e : Ending) → ((d : Ending) → IsOwn d found → IsUnanswered d) → ComesTo found old new e → is_reply (status_of e) ≡ true → IsUnanswered e
unanswered found old new e never comes reply = never e (replied found old new e (stage_of found old new e comes) reply)

-- and then it writes a text that begins with `accepted` for a verdict alone
pub only_verdicts : (found : Option Command) (old new : ShelfView) → ((e : Ending) → IsOwn e found → IsUnanswered e) → (e : Ending) (front : List ℕ) (count : ℕ) → Ends found old new e
    → take count (text_of e) ≡ front → 0 < length front → slice_index front 0 ≡ 97 → (v : Verdict) × (e ≡ ending.Judged v) × ComesTo found old new (ending.Judged v)
only_verdicts found old new never (ending.Judged v) front count ends is some a = (v, refl, ends)
only_verdicts found old new never ending.Words front count ends is some a = absurd (differs (text_of ending.Words) front count 0 117 97 is some refl a refl)
only_verdicts found old new never ending.ReadFault front count ends is some a = absurd (differs (text_of ending.ReadFault) front count 0 114 97 is some refl a refl)
only_verdicts found old new never ending.Memory front count ends is some a = absurd (differs (text_of ending.Memory) front count 0 0 97 is some refl a refl)
only_verdicts found old new never ending.TooLong front count ends is some a = absurd (differs (text_of ending.TooLong) front count 0 116 97 is some refl a refl)
only_verdicts found old new never (ending.Refused line fault) front count ends is some a = absurd (differs (text_of (ending.Refused line fault)) front count 0 114 97 is some refl a refl)
only_verdicts found old new never (ending.Bounded o) front count ends is some a = absurd (differs (best_text o) front count 0 99 97 is some (outcome_byte o) a refl)
only_verdicts found old new never (ending.Unasked r) front count ends is some a = absurd (differs (refusal_text r) front count 0 114 97 is some (refusal_byte r) a refl)
only_verdicts found old new never (ending.Solved b) front count ends is some a = absurd (unanswered found old new (ending.Solved b) never ends (answer_reply b))
only_verdicts found old new never (ending.Printed text) front count ends is some a = absurd (unanswered found old new (ending.Printed text) never ends refl)
only_verdicts found old new never (ending.Summed t) front count ends is some a = absurd (unanswered found old new (ending.Summed t) never ends (answer_reply t.answer))
only_verdicts found old new never (ending.Narrowed o) front count ends is some a = absurd (unanswered found old new (ending.Narrowed o) never ends (outcome_reply o))

-- ---- what was written shows this

check_verdicts : (file answer : List ℕ) (e : Ending) → IsOwn e (Some (command.Check file answer)) → IsUnanswered e
check_verdicts file answer (ending.Judged v) own = tt
check_verdicts file answer e own = absurd own

verdict_written : (found : Option Command) (old new : ShelfView) (s : Status) (before now : Option (List ℕ)) (p : Instance) (written : List ℕ) → 0 < length written → slice_index written 0 ≡ 97
    → Runs found old new s before now → CheckWrote found old.texts before now p written
    → (v : Verdict) × (answer : List ℕ) × IsVerdict p answer v × ((count : ℕ) × (take count (verdict_text v) ≡ written))
verdict_written found old new s before now p written some a runs wrote =
    let ends : Ends (Some (command.Check wrote.file wrote.answer)) old new runs.ending = subst (λ (c : Option Command). Ends c old new runs.ending) wrote.is runs.ends in
    let front = front_written runs.ending s before now wrote.there written some runs.writes wrote.held wrote.wrote in
    let only = only_verdicts (Some (command.Check wrote.file wrote.answer)) old new (check_verdicts wrote.file wrote.answer) runs.ending written front.0 ends front.1 some a in
    let j = judged wrote.file wrote.answer old new only.0 only.2 in
    let same = its_problem wrote.file wrote.text old j.1.read p j.0 wrote.told wrote.stands j.1.has in
    (only.0, j.1.answer, subst (λ (q : Instance). IsVerdict q j.1.answer only.0) same j.1.is, (front.0, subst (λ (e : Ending). take front.0 (text_of e) ≡ written) only.1 front.1))

pub refutes : (found : Option Command) (old new : ShelfView) (s : Status) (before now : Option (List ℕ)) → Runs found old new s before now
    → (p : Instance) → CheckWrote found old.texts before now p (codes "accepted refutation\n") → HasNoModel p
refutes found old new s before now runs p wrote =
    let v = verdict_written found old new s before now p refutation_text (omega arith) refl runs wrote in
    refutation_has_no_model p v.1 (stands_well_formed wrote.text p wrote.stands) (subst (IsVerdict p v.1) (only_refutation v.0 v.3.0 v.3.1) v.2)

pub models : (found : Option Command) (old new : ShelfView) (s : Status) (before now : Option (List ℕ)) → Runs found old new s before now
    → (p : Instance) → CheckWrote found old.texts before now p (codes "accepted model\n") → (a : ℕ → Bool) × Satisfies p a
models found old new s before now runs p wrote =
    let v = verdict_written found old new s before now p model_text (omega arith) refl runs wrote in
    model_satisfies p v.1 (subst (IsVerdict p v.1) (only_model v.0 v.3.0 v.3.1) v.2)
