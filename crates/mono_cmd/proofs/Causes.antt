-- Why a run answers a read fault, or that a file is too long.
use Rattle.std.proofs.Common.{◌≡◌, ◌⊎◌, ◌+◌, ℕ, List, Option, Some, ap, subst, ◌∙◌}
use Rattle.mono_base.specs.declared.limits.TheConstants.{MAX_INPUT_BYTES, MAX_ANSWER_BYTES}
use Rattle.mono_io.specs.Faults.{counted}
use Rattle.mono_io.specs.Shelf.{ShelfView}
use Rattle.mono_words.specs.declared.command.TheConstants.{MAX_MIGRATED_BYTES}
use Rattle.mono_words.specs.declared.command.Command.{Command}
use Rattle.mono_forms.specs.declared.status.Status.{Status}
use Rattle.mono_forms.specs.declared.status.Status.TheVariants as status
use Rattle.mono_forms.specs.declared.ending.Ending.{Ending}
use Rattle.mono_forms.specs.declared.ending.Ending.TheVariants as ending
use Rattle.mono_forms.specs.Runs.{ComesTo, Ends, Writes}
use Rattle.mono_forms.proofs.Stages.{Stage, unread, at_file, behind_file, at_answer, behind_answer, stage_of}
use Rattle.mono_forms.proofs.Replies.{ending_by}
use Rattle.mono_forms.proofs.PlaceByEnding.{past_limit}

-- one call failed
one_failed : (found : Option Command) (old new : ShelfView) → Stage found old new ending.ReadFault → new.faults ≡ counted old.faults
one_failed found old new (unread none own same) = absurd own
one_failed found old new (at_file reads ends) = ends.faults
one_failed found old new (behind_file reads own p has) = absurd own
one_failed found old new (at_answer p read behind ends) = ends.faults ∙ ap counted behind.has.read.faults
one_failed found old new (behind_answer p read text behind own given) = absurd own

pub fault_counted : (found : Option Command) (old new : ShelfView) (e : Ending) (s : Status) (before now : Option (List ℕ)) → Ends found old new e → Writes e s before now → s ≡ status.ReadFault → new.faults ≡ counted old.faults
fault_counted found old new e s before now ends writes same =
    let here : Writes e status.ReadFault before now = subst (λ (t : Status). Writes e t before now) same writes in
    let comes : ComesTo found old new ending.ReadFault = subst (Ends found old new) (ending_by status.ReadFault e here.0) ends in
    one_failed found old new (stage_of found old new ending.ReadFault comes)

-- ---- too long

pub past_its_limit : (found : Option Command) (old new : ShelfView) (e : Ending) (s : Status) (before now : Option (List ℕ)) → Ends found old new e → Writes e s before now → s ≡ status.TooLong
    → (new.place ≡ Some (MAX_INPUT_BYTES + 1)) ⊎ (new.place ≡ Some (MAX_ANSWER_BYTES + 1)) ⊎ (new.place ≡ Some (MAX_MIGRATED_BYTES + 1))
past_its_limit found old new e s before now ends writes same =
    let here : Writes e status.TooLong before now = subst (λ (t : Status). Writes e t before now) same writes in
    let comes : ComesTo found old new ending.TooLong = subst (Ends found old new) (ending_by status.TooLong e here.0) ends in
    past_limit found old new (stage_of found old new ending.TooLong comes)
