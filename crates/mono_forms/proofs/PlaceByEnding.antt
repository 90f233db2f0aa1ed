-- Where the shelf stands as a run ends, by its ending.
use Rattle.std.proofs.Common.{◌≡◌, ◌≢◌, ◌<◌, ◌≤◌, ◌⊎◌, ◌+◌, ◌^◌, ◌↔◌, ℕ, List, Option, Some, None, IfSome, length, refl, sym, ap, subst, ◌∙◌, inl, inr, arith}
use Rattle.mono_base.specs.declared.limits.TheConstants.{MAX_INPUT_BYTES, MAX_ANSWER_BYTES}
use Rattle.mono_io.specs.Faults.{counted}
use Rattle.mono_io.specs.Reading.{IsTooLong}
use Rattle.mono_io.specs.Shelf.{ShelfView}
use Rattle.mono_words.specs.declared.command.TheConstants.{MAX_MIGRATED_BYTES}
use Rattle.mono_words.specs.declared.command.Command.{Command}
use Rattle.mono_words.specs.declared.command.Command.TheVariants as command
use Rattle.mono_forms.specs.declared.ending.Ending.{Ending}
use Rattle.mono_forms.specs.declared.ending.Ending.TheVariants as ending
use Rattle.mono_forms.specs.Runs.{EndsAtText, EndsAtFile, Ends}
use Rattle.mono_forms.proofs.Stages.{ends_else, text_begun, file_begun, HasFile, HasAnswer, IsOwn, file_of, answer_of, limit_of, Stage, unread, at_file, behind_file, at_answer, behind_answer, stage_of}

-- at a place within the limit the shelf isn't behind it
not_behind : (place : Option ℕ) (limit : ℕ) → IfSome place (λ at. at ≤ limit) → place ≡ Some (limit + 1) → ⊥
not_behind None limit within is = absurd cc
not_behind (Some at) limit within is = absurd (omega (arith, (let same : at ≡ limit + 1 = cc in same)))

pub read_place : (place : Option ℕ) (limit : ℕ) (text : List ℕ) → place ≡ Some (length text) → length text ≤ limit → IfSome place (λ at. at ≤ limit)
read_place None limit text is within = absurd cc
read_place (Some at) limit text is within = let same : at ≡ length text = cc in subst (λ (n : ℕ). n ≤ limit) (sym same) within

text_place : (file : List ℕ) (limit : ℕ) (old new : ShelfView) (e : Ending) → e ≢ ending.TooLong → EndsAtText file limit old new e → IfSome new.place (λ at. at ≤ limit)
text_place file limit old new ending.ReadFault else ends = ends.place
text_place file limit old new ending.TooLong else ends = absurd (else refl)
text_place file limit old new ending.Memory else ends = ends.place
text_place file limit old new e else ends = absurd ends

file_place : (file : List ℕ) (old new : ShelfView) (e : Ending) → e ≢ ending.TooLong → EndsAtFile file old new e → IfSome new.place (λ at. at ≤ MAX_INPUT_BYTES)
file_place file old new (ending.Refused line fault) else ends = read_place new.place MAX_INPUT_BYTES ends.text ends.read.place ends.read.within
file_place file old new ending.ReadFault else ends = ends.place
file_place file old new ending.TooLong else ends = absurd (else refl)
file_place file old new ending.Memory else ends = ends.place
file_place file old new e else ends = absurd ends

-- ---- both ways, by whether the run ended there

-- the run ends too long exactly where the shelf stands one byte behind the limit
abbrev IsToldByPlace : Ending → Option ℕ → ℕ → Type 0
IsToldByPlace e place limit = (e ≡ ending.TooLong) ↔ (place ≡ Some (limit + 1))

both_ways : (e : Ending) (place : Option ℕ) (limit : ℕ) → (e ≡ ending.TooLong → place ≡ Some (limit + 1)) → (e ≢ ending.TooLong → IfSome place (λ at. at ≤ limit)) → IsToldByPlace e place limit
both_ways e place limit behind within = (behind, from e behind within)
  where
    from : (d : Ending) → (d ≡ ending.TooLong → place ≡ Some (limit + 1)) → (d ≢ ending.TooLong → IfSome place (λ at. at ≤ limit)) → place ≡ Some (limit + 1) → d ≡ ending.TooLong
    from ending.TooLong b w is = refl
    from d b w is = absurd (not_behind place limit (w (λ same. cc)) is)

-- where it ends at a file
at_its_file : (file : List ℕ) (old new : ShelfView) (e : Ending) → EndsAtFile file old new e → IsToldByPlace e new.place MAX_INPUT_BYTES
at_its_file file old new e ends = both_ways e new.place MAX_INPUT_BYTES behind (λ other. file_place file old new e other ends)
  where
    behind : e ≡ ending.TooLong → new.place ≡ Some (MAX_INPUT_BYTES + 1)
    behind same = let long : IsTooLong file MAX_INPUT_BYTES old new = subst (EndsAtFile file old new) same ends in long.place

at_its_text : (file : List ℕ) (limit : ℕ) (old new : ShelfView) (e : Ending) → EndsAtText file limit old new e → IsToldByPlace e new.place limit
at_its_text file limit old new e ends = both_ways e new.place limit behind (λ other. text_place file limit old new e other ends)
  where
    behind : e ≡ ending.TooLong → new.place ≡ Some (limit + 1)
    behind same = let long : IsTooLong file limit old new = subst (EndsAtText file limit old new) same ends in long.place

-- where it comes to an ending of its own, and the shelf stands within the limit
at_own : (found : Option Command) (e : Ending) (place : Option ℕ) (limit : ℕ) → IsOwn e found → IfSome place (λ at. at ≤ limit) → IsToldByPlace e place limit
at_own found e place limit own within = both_ways e place limit (λ same. absurd (subst (λ (d : Ending). IsOwn d found) same own)) (λ other. within)

-- ---- commands

-- FILE alone is read
pub alone_too_long : (found : Option Command) (old new : ShelfView) (e : Ending) → HasFile found → (HasAnswer found → ⊥) → Ends found old new e → e ≢ ending.Memory → (e ≡ ending.TooLong) ↔ (new.place ≡ Some (MAX_INPUT_BYTES + 1))
alone_too_long found old new e reads alone ends else = by_stage (stage_of found old new e (ends_else found old new e else ends))
  where
    by_stage : Stage found old new e → IsToldByPlace e new.place MAX_INPUT_BYTES
    by_stage (unread none own same) = absurd (none reads)
    by_stage (at_file some at) = at_its_file (file_of found) old new e at
    by_stage (behind_file some own p has) = at_own found e new.place MAX_INPUT_BYTES own (read_place new.place MAX_INPUT_BYTES has.text has.read.place has.read.within)
    by_stage (at_answer p read behind at) = absurd (alone behind.reads)
    by_stage (behind_answer p read text behind own given) = absurd (alone behind.reads)

-- of a command that reads ANSWER too, FILE alone was begun
pub first_too_long : (found : Option Command) (old new : ShelfView) (e : Ending) → HasFile found → Ends found old new e → e ≢ ending.Memory
    → old.begun + 2 < 2 ^ 64 → new.begun ≡ counted old.begun → (e ≡ ending.TooLong) ↔ (new.place ≡ Some (MAX_INPUT_BYTES + 1))
first_too_long found old new e reads ends else few once = by_stage (stage_of found old new e (ends_else found old new e else ends))
  where
    by_stage : Stage found old new e → IsToldByPlace e new.place MAX_INPUT_BYTES
    by_stage (unread none own same) = absurd (none reads)
    by_stage (at_file some at) = at_its_file (file_of found) old new e at
    by_stage (behind_file some own p has) = at_own found e new.place MAX_INPUT_BYTES own (read_place new.place MAX_INPUT_BYTES has.text has.read.place has.read.within)
    by_stage (at_answer p read behind at) = absurd (omega (arith, few, once, text_begun (answer_of found) (limit_of found) read new e at, behind.has.read.once.begun))
    by_stage (behind_answer p read text behind own given) = absurd (omega (arith, few, once, given.once.begun, behind.has.read.once.begun))

-- ANSWER was begun too
pub second_too_long : (found : Option Command) (old new : ShelfView) (e : Ending) → HasFile found → Ends found old new e → e ≢ ending.Memory
    → old.begun + 2 < 2 ^ 64 → new.begun ≡ counted (counted old.begun) → (e ≡ ending.TooLong) ↔ (new.place ≡ Some (limit_of found + 1))
second_too_long found old new e reads ends else few twice = by_stage (stage_of found old new e (ends_else found old new e else ends))
  where
    by_stage : Stage found old new e → IsToldByPlace e new.place (limit_of found)
    by_stage (unread none own same) = absurd (none reads)
    by_stage (at_file some at) = absurd (omega (arith, few, twice, file_begun (file_of found) old new e at))
    by_stage (behind_file some own p has) = absurd (omega (arith, few, twice, has.read.once.begun))
    by_stage (at_answer p read behind at) = at_its_text (answer_of found) (limit_of found) read new e at
    by_stage (behind_answer p read text behind own given) = at_own found e new.place (limit_of found) own (read_place new.place (limit_of found) text given.place given.within)

-- ---- as a clause of a run

its_limit : (found : Option Command) → (limit_of found ≡ MAX_ANSWER_BYTES) ⊎ (limit_of found ≡ MAX_MIGRATED_BYTES)
its_limit (Some (command.Migrate file answer v)) = inr refl
its_limit found = inl refl

pub past_limit : (found : Option Command) (old new : ShelfView) → Stage found old new ending.TooLong
    → (new.place ≡ Some (MAX_INPUT_BYTES + 1)) ⊎ (new.place ≡ Some (MAX_ANSWER_BYTES + 1)) ⊎ (new.place ≡ Some (MAX_MIGRATED_BYTES + 1))
past_limit found old new (unread none own same) = absurd own
past_limit found old new (at_file some ends) = inl ends.place
past_limit found old new (behind_file some own p has) = absurd own
past_limit found old new (at_answer p read behind ends) =
    elim (its_limit found) [ inl is ↦ inr (inl (ends.place ∙ ap (λ (n : ℕ). Some (n + 1)) is)) | inr is ↦ inr (inr (ends.place ∙ ap (λ (n : ℕ). Some (n + 1)) is)) ]
past_limit found old new (behind_answer p read text behind own given) = absurd own
