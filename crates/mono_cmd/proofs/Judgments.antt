-- What a run of `check` or `check-with` writes is the verdict on the text that is told of ANSWER.
use Rattle.std.proofs.Common.{◌≡◌, true, ℕ, List, ◌++◌, Option, Some, ℤ, refl, ap, subst, inl, inr}
use Rattle.mono_base.specs.declared.limits.TheConstants.{MAX_ANSWER_BYTES}
use Rattle.mono_problem.specs.Instance.{Instance}
use Rattle.mono_problem.specs.Assuming.{assuming}
use Rattle.mono_check.specs.declared.verdict.Verdict.{Verdict}
use Rattle.mono_check.specs.declared.verdict.Verdict.TheVariants as verdict
use Rattle.mono_check.specs.Verdicts.{IsVerdict}
use Rattle.mono_io.specs.Shelf.{ShelfView}
use Rattle.mono_words.specs.declared.command.Command.{Command}
use Rattle.mono_words.specs.declared.command.Command.TheVariants as command
use Rattle.mono_forms.specs.declared.status.Status.{Status}
use Rattle.mono_forms.specs.declared.status.Status.TheVariants as status
use Rattle.mono_forms.specs.declared.ending.Ending.{Ending}
use Rattle.mono_forms.specs.declared.ending.Ending.TheVariants as ending
use Rattle.mono_forms.specs.Endings.{status_of, verdict_status, verdict_text}
use Rattle.mono_forms.specs.Runs.{ComesTo, IsJudged, IsJudgmentBy, Judges, JudgesWith, Runs, WithProblem, WithText}
use Rattle.mono_forms.proofs.Replies.{end_behind_both, is_reply, not_both, said}

judged_as : (p : Instance) (given : List ℕ) (e : Ending) → IsJudged p given e → (v : Verdict) × (e ≡ ending.Judged v) × IsVerdict p given v
judged_as p given (ending.Judged v) h = (v, refl, h)
judged_as p given e h = absurd h

-- what is said of its text
its_text : (p : Instance) (given : List ℕ) (v : Verdict) → IsVerdict p given v → IsJudgmentBy (verdict_status v) p given (verdict_text v)
its_text p given verdict.Model h = record { judged = verdict.Model; right = h; with_status = refl; is = refl }
its_text p given verdict.Refutation h = record { judged = verdict.Refutation; right = h; with_status = refl; is = refl }
its_text p given (verdict.Progress n) h = record { judged = verdict.Progress n; right = h; with_status = refl; is = refl }
its_text p given (verdict.Rejected line r) h = record { judged = verdict.Rejected line r; right = h; with_status = refl; is = refl }

-- a reply of `check-with` came behind ANSWER
behind_room : (file answer : List ℕ) (lits : List ℤ) (old new : ShelfView) (e : Ending) → is_reply (status_of e) ≡ true → ComesTo (Some (command.CheckWith file answer lits)) old new e
    → WithProblem file old new e (λ p read. WithText answer MAX_ANSWER_BYTES read new e (λ text shelf. IsJudged (assuming p lits) text e × (new ≡ shelf)))
behind_room file answer lits old new e reply (inl ends) = inl ends
behind_room file answer lits old new e reply (inr (p, read, has, inl beyond)) = absurd (not_both (status_of e) status.Refused (ap status_of beyond.0.1) reply refl)
behind_room file answer lits old new e reply (inr (p, read, has, inr (within, room, rest))) = inr (p, read, has, rest)

-- ---- as clauses of a run

module _ (found : Option Command) (old new : ShelfView) (s : Status) (before now : Option (List ℕ)) (runs : Runs found old new s before now) where
  by_verdict : (p : Instance) (given : List ℕ) → ((e : Ending) → ComesTo found old new e → is_reply (status_of e) ≡ true → (v : Verdict) × (e ≡ ending.Judged v) × IsVerdict p given v)
      → (there written : List ℕ) → before ≡ Some there → now ≡ Some (there ++ written) → IsJudgmentBy s p given written
  by_verdict p given came =
      said found old new s before now runs Verdict (λ v. ending.Judged v) (λ v. IsVerdict p given v) came
      (λ t text. IsJudgmentBy t p given text) (λ text. (tt, tt, tt, tt, tt, tt)) (its_text p given)

  pub its_judgment : (p : Instance) (given : List ℕ) → Judges found old.texts p given → (there written : List ℕ) → before ≡ Some there → now ≡ Some (there ++ written) → IsJudgmentBy s p given written
  its_judgment p given judges = by_verdict p given came
    where
      came : (e : Ending) → ComesTo found old new e → is_reply (status_of e) ≡ true → (v : Verdict) × (e ≡ ending.Judged v) × IsVerdict p given v
      came e comes reply =
          let over : ComesTo (Some (command.Check judges.file judges.answer)) old new e = subst (λ (c : Option Command). ComesTo c old new e) judges.is comes in
          judged_as p given e (end_behind_both judges.file judges.text judges.answer given MAX_ANSWER_BYTES old new e p (λ q t. IsJudged q t e) judges.told judges.stands judges.answered reply over).0

  pub its_judgment_with : (p : Instance) (lits : List ℤ) (given : List ℕ) → JudgesWith found old.texts p lits given
      → (there written : List ℕ) → before ≡ Some there → now ≡ Some (there ++ written) → IsJudgmentBy s (assuming p lits) given written
  its_judgment_with p lits given judges = by_verdict (assuming p lits) given came
    where
      came : (e : Ending) → ComesTo found old new e → is_reply (status_of e) ≡ true → (v : Verdict) × (e ≡ ending.Judged v) × IsVerdict (assuming p lits) given v
      came e comes reply =
          let over : ComesTo (Some (command.CheckWith judges.file judges.answer lits)) old new e = subst (λ (c : Option Command). ComesTo c old new e) judges.is comes in
          let behind = behind_room judges.file judges.answer lits old new e reply over in
          judged_as (assuming p lits) given e (end_behind_both judges.file judges.text judges.answer given MAX_ANSWER_BYTES old new e p (λ q t. IsJudged (assuming q lits) t e) judges.told judges.stands judges.answered reply behind).0
