-- What a run of `print` shows of what it printed.
use Rattle.std.proofs.Common.{◌≡◌, ◌∙◌, true, ℕ, List, ◌++◌, Option, Some, refl, sym, subst}
use Rattle.std.specs.Io.KnownBytes.{Appends}
use Rattle.mono_problem.specs.Instance.{Instance}
use Rattle.mono_gnf.specs.Printed.{printed as printed_form}
use Rattle.mono_gnf.specs.Stands.{Stands}
use Rattle.mono_gnf.proofs.RoundTrip.{printed_stands}
use Rattle.mono_gnf.proofs.WellFormedReading.{stands_well_formed}
use Rattle.mono_io.specs.Shelf.{ShelfView}
use Rattle.mono_words.specs.declared.command.Command.{Command}
use Rattle.mono_words.specs.declared.command.Command.TheVariants as command
use Rattle.mono_forms.specs.declared.status.Status.{Status}
use Rattle.mono_forms.specs.declared.status.Status.TheVariants as status
use Rattle.mono_forms.specs.declared.ending.Ending.{Ending}
use Rattle.mono_forms.specs.declared.ending.Ending.TheVariants as ending
use Rattle.mono_forms.specs.Endings.{status_of}
use Rattle.mono_forms.specs.Runs.{ComesTo, Runs, Prints}
use Rattle.mono_forms.proofs.Replies.{is_reply, end_behind, appended, shown}

pub printed : (found : Option Command) (old new : ShelfView) (s : Status) (before now : Option (List ℕ)) → Runs found old new s before now → (p : Instance) → Prints found old.texts p → s ≡ status.Printed
    → (there written : List ℕ) → before ≡ Some there → now ≡ Some (there ++ written) → Stands written p
printed found old new s before now runs p prints is there written held wrote =
    shown found old new s before now runs (List ℕ) (λ text. ending.Printed text) (λ text. text ≡ printed_form p) came (λ t. Stands written p) stands status.Printed refl is
  where
    came : (e : Ending) → ComesTo found old new e → is_reply (status_of e) ≡ true → (text : List ℕ) × (e ≡ ending.Printed text) × (text ≡ printed_form p)
    came e comes reply =
        let over : ComesTo (Some (command.Print prints.file)) old new e = subst (λ (c : Option Command). ComesTo c old new e) prints.is comes in
        (printed_form p, end_behind prints.file prints.text old new e p (λ q. e ≡ ending.Printed (printed_form q)) prints.told prints.stands reply over, refl)

    stands : (text : List ℕ) → text ≡ printed_form p → Appends before now text → Stands written p
    stands text same w =
        subst (λ (t : List ℕ). Stands t p) (sym same ∙ appended before now there written text held wrote w) (printed_stands p (stands_well_formed prints.text p prints.stands))
