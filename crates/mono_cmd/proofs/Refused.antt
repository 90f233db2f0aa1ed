-- A run that ends with `Refused` names the first fault of the text that is told of FILE, or what can't be asked of its problem.
use Rattle.std.proofs.Common.{◌≡◌, ◌⊎◌, ◌++◌, ℕ, List, Option, Some, None, ℤ, refl, ap, sym, subst, ◌∙◌, inl, inr}
use Rattle.std.specs.Prelude.{slice_get}
use Rattle.mono_base.specs.declared.limits.TheConstants.{MAX_ANSWER_BYTES}
use Rattle.mono_problem.specs.Assuming.{assuming}
use Rattle.mono_problem.specs.Instance.{Instance}
use Rattle.mono_gnf.specs.Faults.{first_fault}
use Rattle.mono_gnf.specs.Stands.{Stands}
use Rattle.mono_answer.specs.declared.version.Version.{Version}
use Rattle.mono_check.specs.declared.verdict.Verdict.TheVariants as verdict
use Rattle.mono_io.specs.Shelf.{ShelfView, told_text}
use Rattle.mono_words.specs.declared.command.TheConstants.{MAX_MIGRATED_BYTES}
use Rattle.mono_words.specs.declared.command.Command.{Command}
use Rattle.mono_words.specs.declared.command.Command.TheVariants as command
use Rattle.mono_forms.specs.declared.status.Status.{Status}
use Rattle.mono_forms.specs.declared.status.Status.TheVariants as status
use Rattle.mono_forms.specs.declared.ending.Ending.{Ending}
use Rattle.mono_forms.specs.declared.ending.Ending.TheVariants as ending
use Rattle.mono_words.specs.Commands.{files_of}
use Rattle.mono_forms.specs.Endings.{answer_status, best_status, outcome_status, status_of, text_of, verdict_status}
use Rattle.mono_cmd.specs.Refusals.{IsRefusal, IsUnaskedBy}
use Rattle.mono_forms.specs.Runs.{ComesTo, EndsAtFile, EndsAtText, HasProblem, IsAsked, HasNoRoom, IsBounded, IsJudged, IsMigration, IsNarrowed, IsSolved, Runs, Writes}
use Rattle.mono_forms.specs.Teams.{IsTeamed}
use Rattle.mono_forms.proofs.Replies.{answer_reply, appended, best_reply, not_both, outcome_reply, same_text, verdict_reply}
use Rattle.mono_forms.proofs.Stages.{ends_else}

-- the status is that of a refusal
abbrev IsStopped : Ending → Type 0
IsStopped e = status.Refused ≡ status_of e

-- ---- endings that aren't refusals

solved_no_refusal : (p : Instance) (budget : ℕ) (e : Ending) → IsSolved p budget e → IsStopped e → ⊥
solved_no_refusal p budget (ending.Solved a) h is = not_both (answer_status a) status.Refused (sym is) (answer_reply a) refl
solved_no_refusal p budget e h is = absurd h

teamed_no_refusal : (p : Instance) (workers rounds : ℕ) (e : Ending) → IsTeamed p workers rounds e → IsStopped e → ⊥
teamed_no_refusal p workers rounds e h is = not_both (answer_status h.answer) status.Refused (sym (is ∙ ap status_of h.is)) (answer_reply h.answer) refl

judged_no_refusal : (p : Instance) (text : List ℕ) (e : Ending) → IsJudged p text e → IsStopped e → ⊥
judged_no_refusal p text (ending.Judged v) h is = not_both (verdict_status v) status.Refused (sym is) (verdict_reply v) refl
judged_no_refusal p text e h is = absurd h

migrated_no_refusal : (p : Instance) (text : List ℕ) (v : Version) (e : Ending) → IsMigration p text v e → IsStopped e → ⊥
migrated_no_refusal p text v (ending.Printed other) h is = absurd (let same : status.Refused ≡ status.Printed = is in cc)
migrated_no_refusal p text v (ending.Judged (verdict.Rejected n r)) h is = absurd (let same : status.Refused ≡ status.Rejected = is in cc)
migrated_no_refusal p text v e h is = absurd h

text_no_refusal : (file : List ℕ) (limit : ℕ) (old new : ShelfView) (e : Ending) → EndsAtText file limit old new e → IsStopped e → ⊥
text_no_refusal file limit old new ending.ReadFault ends is = absurd (let same : status.Refused ≡ status.ReadFault = is in cc)
text_no_refusal file limit old new ending.TooLong ends is = absurd (let same : status.Refused ≡ status.TooLong = is in cc)
text_no_refusal file limit old new ending.Memory ends is = absurd (let same : status.Refused ≡ status.Memory = is in cc)
text_no_refusal file limit old new e ends is = absurd ends

-- ---- refusals

module _ (old : ShelfView) (file text : List ℕ) (told : told_text old.texts file ≡ Some text) where
  named_there : (name : List ℕ) → Some name ≡ Some file → told_text old.texts name ≡ Some text
  named_there name named = let same : name ≡ file = cc in subst (λ (n : List ℕ). told_text old.texts n ≡ Some text) (sym same) told

  at_file : (found : Option Command) (name : List ℕ) (new : ShelfView) (e : Ending) → Some name ≡ Some file → EndsAtFile name old new e → IsStopped e → IsRefusal found text (text_of e)
  at_file found name new (ending.Refused line fault) named ends is =
      let same : ends.text ≡ text = same_text old.texts name text ends.text (named_there name named) ends.read.whole in
      inl (record { line = line; fault = fault; first = subst (λ (t : List ℕ). first_fault t ≡ Some (line, fault)) same ends.first; is = refl })
  at_file found name new ending.ReadFault named ends is = absurd (let same : status.Refused ≡ status.ReadFault = is in cc)
  at_file found name new ending.TooLong named ends is = absurd (let same : status.Refused ≡ status.TooLong = is in cc)
  at_file found name new ending.Memory named ends is = absurd (let same : status.Refused ≡ status.Memory = is in cc)
  at_file found name new e named ends is = absurd ends

  -- FILE has no fault
  behind_file : (found : Option Command) (name : List ℕ) (read : ShelfView) (p : Instance) (written : List ℕ) → Some name ≡ Some file → HasProblem name old read p → IsUnaskedBy found p written
      → IsRefusal found text written
  behind_file found name read p written named has unasked =
      let same : has.text ≡ text = same_text old.texts name text has.text (named_there name named) has.read.whole in
      inr (record { problem = p; stands = subst (λ (t : List ℕ). Stands t p) same has.stands; unasked = unasked })

  core_refusal : (name : List ℕ) (lits : List ℤ) (read : ShelfView) (e : Ending) (p : Instance) → Some name ≡ Some file → HasProblem name old read p → HasNoRoom p lits e ⊎ IsNarrowed p lits e
      → IsStopped e → IsRefusal (Some (command.Core name lits)) text (text_of e)
  core_refusal name lits read e p named has (inl beyond) is = behind_file (Some (command.Core name lits)) name read p (text_of e) named has (beyond.0, ap text_of beyond.1)
  core_refusal name lits read (ending.Narrowed o) p named has (inr found) is = absurd (not_both (outcome_status o) status.Refused (sym is) (outcome_reply o) refl)
  core_refusal name lits read e p named has (inr found) is = absurd found

  best_refusal : (name : List ℕ) (n : ℕ) (read : ShelfView) (e : Ending) (p : Instance) → Some name ≡ Some file → HasProblem name old read p → IsBounded p n e
      → IsStopped e → IsRefusal (Some (command.Best name n)) text (text_of e)
  best_refusal name n read (ending.Bounded o) p named has h is = absurd (not_both (best_status o) status.Refused (sym is) (best_reply o) refl)
  best_refusal name n read (ending.Unasked r) p named has h is =
      behind_file (Some (command.Best name n)) name read p (text_of (ending.Unasked r)) named has (record { refusal = r; right = h; is = refl })
  best_refusal name n read e p named has h is = absurd h

  ask_refusal : (name : List ℕ) (n : ℕ) (b : ℤ) (read : ShelfView) (e : Ending) (p : Instance) → Some name ≡ Some file → HasProblem name old read p → IsAsked p n b e
      → IsStopped e → IsRefusal (Some (command.Ask name n b)) text (text_of e)
  ask_refusal name n b read (ending.Printed other) p named has h is = absurd (let same : status.Refused ≡ status.Printed = is in cc)
  ask_refusal name n b read (ending.Unasked r) p named has h is =
      behind_file (Some (command.Ask name n b)) name read p (text_of (ending.Unasked r)) named has (record { refusal = r; right = h; is = refl })
  ask_refusal name n b read e p named has h is = absurd h

  pub by_command : (found : Option Command) (new : ShelfView) (e : Ending) → slice_get (files_of found) 0 ≡ Some file → IsStopped e → ComesTo found old new e → IsRefusal found text (text_of e)
  by_command None new e named is comes = absurd (let none : ◌≡◌ {A = Option (List ℕ)} None (Some file) = named in cc)
  by_command (Some (command.Gen k size seed solve)) new e named is comes = absurd (let none : ◌≡◌ {A = Option (List ℕ)} None (Some file) = named in cc)
  by_command (Some (command.Solve name budget)) new e named is (inl ends) = at_file (Some (command.Solve name budget)) name new e named ends is
  by_command (Some (command.Solve name budget)) new e named is (inr (p, shelf, has, end)) = absurd (solved_no_refusal p budget e end.0 is)
  by_command (Some (command.Print name)) new e named is (inl ends) = at_file (Some (command.Print name)) name new e named ends is
  by_command (Some (command.Print name)) new e named is (inr (p, shelf, has, end)) = absurd (let same : status.Refused ≡ status.Printed = is ∙ ap status_of end.0 in cc)
  by_command (Some (command.Team name workers rounds)) new e named is (inl ends) = at_file (Some (command.Team name workers rounds)) name new e named ends is
  by_command (Some (command.Team name workers rounds)) new e named is (inr (p, shelf, has, end)) = absurd (teamed_no_refusal p workers rounds e end.0 is)
  by_command (Some (command.Core name lits)) new e named is (inl ends) = at_file (Some (command.Core name lits)) name new e named ends is
  by_command (Some (command.Core name lits)) new e named is (inr (p, shelf, has, end)) = core_refusal name lits shelf e p named has end.0 is
  by_command (Some (command.Best name n)) new e named is (inl ends) = at_file (Some (command.Best name n)) name new e named ends is
  by_command (Some (command.Best name n)) new e named is (inr (p, shelf, has, end)) = best_refusal name n shelf e p named has end.0 is
  by_command (Some (command.Ask name n b)) new e named is (inl ends) = at_file (Some (command.Ask name n b)) name new e named ends is
  by_command (Some (command.Ask name n b)) new e named is (inr (p, shelf, has, end)) = ask_refusal name n b shelf e p named has end.0 is
  by_command (Some (command.Check name answer)) new e named is (inl ends) = at_file (Some (command.Check name answer)) name new e named ends is
  by_command (Some (command.Check name answer)) new e named is (inr (p, read, has, inl ends)) = absurd (text_no_refusal answer MAX_ANSWER_BYTES read new e ends is)
  by_command (Some (command.Check name answer)) new e named is (inr (p, read, has, inr (given, shelf, whole, end))) = absurd (judged_no_refusal p given e end.0 is)
  by_command (Some (command.Migrate name answer v)) new e named is (inl ends) = at_file (Some (command.Migrate name answer v)) name new e named ends is
  by_command (Some (command.Migrate name answer v)) new e named is (inr (p, read, has, inl ends)) = absurd (text_no_refusal answer MAX_MIGRATED_BYTES read new e ends is)
  by_command (Some (command.Migrate name answer v)) new e named is (inr (p, read, has, inr (given, shelf, whole, end))) = absurd (migrated_no_refusal p given v e end.0 is)
  by_command (Some (command.CheckWith name answer lits)) new e named is (inl ends) = at_file (Some (command.CheckWith name answer lits)) name new e named ends is
  by_command (Some (command.CheckWith name answer lits)) new e named is (inr (p, read, has, inl beyond)) =
      behind_file (Some (command.CheckWith name answer lits)) name read p (text_of e) named has (beyond.0.0, ap text_of beyond.0.1)
  by_command (Some (command.CheckWith name answer lits)) new e named is (inr (p, read, has, inr (within, room, inl ends))) = absurd (text_no_refusal answer MAX_ANSWER_BYTES read new e ends is)
  by_command (Some (command.CheckWith name answer lits)) new e named is (inr (p, read, has, inr (within, room, inr (given, shelf, whole, end)))) = absurd (judged_no_refusal (assuming p lits) given e end.0 is)

-- ---- as a clause of a run

pub its_refusal : (found : Option Command) (old new : ShelfView) (s : Status) (before now : Option (List ℕ)) → Runs found old new s before now
    → (file text : List ℕ) → slice_get (files_of found) 0 ≡ Some file → told_text old.texts file ≡ Some text → s ≡ status.Refused
    → (there written : List ℕ) → before ≡ Some there → now ≡ Some (there ++ written) → IsRefusal found text written
its_refusal found old new s before now runs file text named told is there written held wrote =
    let writes : Writes runs.ending status.Refused before now = subst (λ (t : Status). Writes runs.ending t before now) is runs.writes in
    let comes = ends_else found old new runs.ending (λ memory. let same : status.Refused ≡ status.Memory = writes.0 ∙ ap status_of memory in cc) runs.ends in
    subst (IsRefusal found text) (appended before now there written (text_of runs.ending) held wrote writes.1)
    (by_command old file text told found new runs.ending named writes.0 comes)
