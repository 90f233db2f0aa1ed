-- What a run of `migrate` shows of what it printed.
use Rattle.std.proofs.Common.{◌≡◌, ◌≤◌, true, ℕ, List, ◌++◌, Option, Some, length, refl, subst, arith}
use Rattle.std.specs.Io.KnownBytes.{Appends}
use Rattle.mono_problem.specs.Instance.{Instance}
use Rattle.mono_problem.specs.WellFormed.{IsInstance}
use Rattle.mono_gnf.proofs.WellFormedReading.{stands_well_formed}
use Rattle.mono_answer.specs.declared.version.Version.{Version}
use Rattle.mono_check.specs.declared.verdict.Verdict.TheVariants as verdict
use Rattle.mono_check.specs.Migrations.{MigratesTo}
use Rattle.mono_check.specs.Verdicts.{IsVerdict}
use Rattle.mono_check.proofs.ThereAndBack.{migrated_verdict}
use Rattle.mono_io.specs.Shelf.{ShelfView}
use Rattle.mono_words.specs.declared.command.Command.{Command}
use Rattle.mono_words.specs.declared.command.Command.TheVariants as command
use Rattle.mono_words.specs.declared.command.TheConstants.{MAX_MIGRATED_BYTES}
use Rattle.mono_forms.specs.declared.status.Status.{Status}
use Rattle.mono_forms.specs.declared.status.Status.TheVariants as status
use Rattle.mono_forms.specs.declared.ending.Ending.{Ending}
use Rattle.mono_forms.specs.declared.ending.Ending.TheVariants as ending
use Rattle.mono_forms.specs.Endings.{status_of, text_of}
use Rattle.mono_forms.specs.Runs.{ComesTo, Runs, IsMigration, Migrates}
use Rattle.mono_forms.proofs.Replies.{is_reply, end_behind_both, appended, shown}

-- the text is what ANSWER is migrated to, and has its verdict
abbrev IsAccepted : Instance → List ℕ → Version → List ℕ → Type 0
IsAccepted p answer v text = (m : MigratesTo p answer v text) × IsVerdict p text m.verdict

accepted : (p : Instance) (answer text : List ℕ) (v : Version) → IsInstance p → length answer ≤ MAX_MIGRATED_BYTES → MigratesTo p answer v text → IsAccepted p answer v text
accepted p answer text v ok few m = (m, migrated_verdict p answer text v m.verdict ok (omega (arith, few)) m m.judged)

-- what is said with the status of a printed text
abbrev Shows : Instance → List ℕ → Version → List ℕ → Status → Type 0
Shows p answer v written status.Printed = IsAccepted p answer v written
Shows p answer v written s = Unit {0}

migration_shows : (p : Instance) (answer written : List ℕ) (v : Version) (e : Ending) → IsInstance p → length answer ≤ MAX_MIGRATED_BYTES → IsMigration p answer v e → text_of e ≡ written → Shows p answer v written (status_of e)
migration_shows p answer written v (ending.Printed text) ok few m same = subst (λ (t : List ℕ). IsAccepted p answer v t) same (accepted p answer text v ok few m)
migration_shows p answer written v (ending.Judged (verdict.Rejected n r)) ok few m same = tt
migration_shows p answer written v e ok few m same = absurd m

pub migrated : (found : Option Command) (old new : ShelfView) (s : Status) (before now : Option (List ℕ)) → Runs found old new s before now → (p : Instance) (answer : List ℕ) (v : Version) → Migrates found old.texts p answer v
    → s ≡ status.Printed → (there written : List ℕ) → before ≡ Some there → now ≡ Some (there ++ written) → (m : MigratesTo p answer v written) × IsVerdict p written m.verdict
migrated found old new s before now runs p answer v migrates is there written held wrote =
    shown found old new s before now runs Ending (λ e. e) (λ e. IsMigration p answer v e × (length answer ≤ MAX_MIGRATED_BYTES)) came (Shows p answer v written) shows status.Printed refl is
  where
    came : (e : Ending) → ComesTo found old new e → is_reply (status_of e) ≡ true → (o : Ending) × (e ≡ o) × (IsMigration p answer v o × (length answer ≤ MAX_MIGRATED_BYTES))
    came e comes reply =
        let over : ComesTo (Some (command.Migrate migrates.file migrates.answer v)) old new e = subst (λ (c : Option Command). ComesTo c old new e) migrates.is comes in
        (e, refl, end_behind_both migrates.file migrates.text migrates.answer answer MAX_MIGRATED_BYTES old new e p (λ q t. IsMigration q t v e) migrates.told migrates.stands migrates.answered reply over)

    shows : (e : Ending) → IsMigration p answer v e × (length answer ≤ MAX_MIGRATED_BYTES) → Appends before now (text_of e) → Shows p answer v written (status_of e)
    shows e h w = migration_shows p answer written v e (stands_well_formed migrates.text p migrates.stands) h.1 h.0 (appended before now there written (text_of e) held wrote w)
