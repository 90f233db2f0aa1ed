-- What the texts that `check-with` writes show of the problem that FILE stands for, under the assumptions.
use Rattle.std.proofs.Common.{◌≡◌, ◌<◌, ℕ, Bool, List, Option, Some, All, length, take, refl, subst, inl, inr, arith, codes, ℤ}
use Rattle.std.specs.Prelude.{slice_index}
use Rattle.mono_base.specs.declared.limits.TheConstants.{MAX_VARS}
use Rattle.mono_base.specs.Literal.{IsLitWithin}
use Rattle.mono_problem.specs.Instance.{Instance}
use Rattle.mono_problem.specs.WellFormed.{IsInstance}
use Rattle.mono_problem.specs.Holds.{HasNoModel, Satisfies}
use Rattle.mono_problem.specs.Assuming.{assuming, HasRoom}
use Rattle.mono_problem.proofs.Assumed.{assuming-instance}
use Rattle.mono_gnf.proofs.WellFormedReading.{stands_well_formed}
use Rattle.mono_check.specs.declared.verdict.Verdict.{Verdict}
use Rattle.mono_check.specs.Verdicts.{IsVerdict}
use Rattle.mono_check.proofs.Accepted.{refutation_has_no_model, model_satisfies}
use Rattle.mono_io.specs.Shelf.{ShelfView}
use Rattle.mono_words.specs.declared.command.Command.{Command}
use Rattle.mono_words.specs.declared.command.Command.TheVariants as command
use Rattle.mono_forms.specs.declared.status.Status.{Status}
use Rattle.mono_forms.specs.declared.ending.Ending.{Ending}
use Rattle.mono_forms.specs.declared.ending.Ending.TheVariants as ending
use Rattle.mono_forms.specs.Endings.{text_of, verdict_text}
use Rattle.mono_forms.specs.Runs.{ComesTo, Ends, Runs, HasProblem, CheckWithWrote}
use Rattle.mono_forms.proofs.Stages.{IsOwn}
use Rattle.mono_forms.proofs.Replies.{its_problem}
use Rattle.mono_cmd.proofs.Sound.{front_written, IsUnanswered, only_verdicts, only_refutation, only_model, refutation_text, model_text}

-- FILE stood for this problem, and the verdict on an answer to it under the assumptions was this
record WasJudged (file : List ℕ) (lits : List ℤ) (old : ShelfView) (p : Instance) (v : Verdict) : Type 0 where
  read : ShelfView
  has : HasProblem file old read p
  within : All (IsLitWithin MAX_VARS) lits
  room : HasRoom p lits
  answer : List ℕ
  is : IsVerdict (assuming p lits) answer v

judged : (file answer : List ℕ) (lits : List ℤ) (old new : ShelfView) (v : Verdict) → ComesTo (Some (command.CheckWith file answer lits)) old new (ending.Judged v) → (p : Instance) × WasJudged file lits old p v
judged file answer lits old new v (inl ends) = absurd ends
judged file answer lits old new v (inr (p, read, has, inl beyond)) = absurd (cc beyond.0.1)
judged file answer lits old new v (inr (p, read, has, inr (within, room, inl ends))) = absurd ends
judged file answer lits old new v (inr (p, read, has, inr (within, room, inr (text, shelf, given, end)))) =
    (p, record { read = read; has = has; within = within; room = room; answer = text; is = end.0 })

check_with_verdicts : (file answer : List ℕ) (lits : List ℤ) (e : Ending) → IsOwn e (Some (command.CheckWith file answer lits)) → IsUnanswered e
check_with_verdicts file answer lits (ending.Judged v) own = tt
check_with_verdicts file answer lits (ending.Refused line fault) own = tt
check_with_verdicts file answer lits e own = absurd own

-- ---- what was written shows this

-- the verdict on an answer, of which this was written
record IsWritten (p : Instance) (lits : List ℤ) (written : List ℕ) : Type 0 where
  verdict : Verdict
  answer : List ℕ
  ok : IsInstance (assuming p lits)
  is : IsVerdict (assuming p lits) answer verdict
  count : ℕ
  front : take count (verdict_text verdict) ≡ written

verdict_written : (found : Option Command) (old new : ShelfView) (s : Status) (before now : Option (List ℕ)) (p : Instance) (lits : List ℤ) (written : List ℕ) → 0 < length written → slice_index written 0 ≡ 97
    → Runs found old new s before now → CheckWithWrote found old.texts before now p lits written → IsWritten p lits written
verdict_written found old new s before now p lits written some a runs wrote =
    let file = wrote.file in
    let answer = wrote.answer in
    let ends : Ends (Some (command.CheckWith file answer lits)) old new runs.ending = subst (λ (c : Option Command). Ends c old new runs.ending) wrote.is runs.ends in
    let front = front_written runs.ending s before now wrote.there written some runs.writes wrote.held wrote.wrote in
    let only = only_verdicts (Some (command.CheckWith file answer lits)) old new (check_with_verdicts file answer lits) runs.ending written front.0 ends front.1 some a in
    let j = judged file answer lits old new only.0 only.2 in
    let same = its_problem file wrote.text old j.1.read p j.0 wrote.told wrote.stands j.1.has in
    record {
      verdict = only.0;
      answer = j.1.answer;
      ok = assuming-instance p lits (stands_well_formed wrote.text p wrote.stands) j.1.within (subst (λ (q : Instance). HasRoom q lits) same j.1.room);
      is = subst (λ (q : Instance). IsVerdict (assuming q lits) j.1.answer only.0) same j.1.is;
      count = front.0;
      front = subst (λ (e : Ending). take front.0 (text_of e) ≡ written) only.1 front.1;
    }

pub refutes_with : (found : Option Command) (old new : ShelfView) (s : Status) (before now : Option (List ℕ)) → Runs found old new s before now
    → (p : Instance) (lits : List ℤ) → CheckWithWrote found old.texts before now p lits (codes "accepted refutation\n") → HasNoModel (assuming p lits)
refutes_with found old new s before now runs p lits wrote =
    let w = verdict_written found old new s before now p lits refutation_text (omega arith) refl runs wrote in
    refutation_has_no_model (assuming p lits) w.answer w.ok (subst (IsVerdict (assuming p lits) w.answer) (only_refutation w.verdict w.count w.front) w.is)

pub models_with : (found : Option Command) (old new : ShelfView) (s : Status) (before now : Option (List ℕ)) → Runs found old new s before now
    → (p : Instance) (lits : List ℤ) → CheckWithWrote found old.texts before now p lits (codes "accepted model\n") → (a : ℕ → Bool) × Satisfies (assuming p lits) a
models_with found old new s before now runs p lits wrote =
    let w = verdict_written found old new s before now p lits model_text (omega arith) refl runs wrote in
    model_satisfies (assuming p lits) w.answer (subst (IsVerdict (assuming p lits) w.answer) (only_model w.verdict w.count w.front) w.is)
