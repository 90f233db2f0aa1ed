-- Where the shelf stands once memory was wanting, for a step or for the text of an ending.
use Rattle.std.proofs.Common.{◌≡◌, ℕ, List, Option, Some, None, Result, Ok, Err, IsSome, All, refl, sym, subst, inl, inr, ℤ}
use Rattle.std.specs.Prelude.{IsErrAnd, MatchResult}
use Rattle.mono_base.specs.declared.limits.TheConstants.{MAX_INPUT_BYTES, MAX_ANSWER_BYTES, MAX_VARS}
use Rattle.mono_base.specs.Literal.{IsLitWithin}
use Rattle.mono_io.specs.Reading.{IsRead, IsTooLong, IsNotRead, IsGivenUp}
use Rattle.mono_io.specs.Shelf.{ShelfView}
use Rattle.mono_problem.specs.Instance.{Instance}
use Rattle.mono_problem.specs.Assuming.{HasRoom}
use Rattle.mono_check.specs.declared.refusal.CheckRefusal.{CheckRefusal}
use Rattle.mono_check.specs.declared.refusal.CheckRefusal.TheVariants as judging
use Rattle.mono_words.specs.declared.command.Command.{Command}
use Rattle.mono_words.specs.declared.command.Command.TheVariants as command
use Rattle.mono_forms.specs.declared.status.Status.{Status}
use Rattle.mono_forms.specs.declared.status.Status.TheVariants as status
use Rattle.mono_forms.specs.declared.ending.Ending.{Ending}
use Rattle.mono_forms.specs.declared.ending.Ending.TheVariants as ending
use Rattle.mono_forms.specs.Endings.{TakesMemory, unjudged_ending}
use Rattle.mono_forms.specs.Runs.{EndsAtText, EndsAtFile, HasProblem, Ends, IsOutOfMemory, Writes}
use Rattle.mono_forms.proofs.Stages.{ends_cases, HasFile, HasAnswer, GoesOn, IsOwn, file_of, answer_of, limit_of, Stage, unread, at_file, behind_file, at_answer, behind_answer, stage_of}
use Rattle.mono_forms.proofs.PlaceByEnding.{read_place}

-- ---- one file

-- a text that was read whole was read within its limit, and no call had failed
read_given_up : (file : List ℕ) (limit : ℕ) (old new : ShelfView) (text : List ℕ) → IsRead file limit old new text → IsGivenUp limit old new
read_given_up file limit old new text read = record { once = read.once; place = read_place new.place limit text read.place read.within; faults = read.faults }

text_given_up : (file : List ℕ) (limit : ℕ) (old new : ShelfView) (e : Ending) → TakesMemory e → EndsAtText file limit old new e → IsGivenUp limit old new
text_given_up file limit old new ending.Memory takes ends = ends
text_given_up file limit old new ending.ReadFault takes ends = absurd takes
text_given_up file limit old new ending.TooLong takes ends = absurd takes
text_given_up file limit old new e takes ends = absurd ends

file_given_up : (file : List ℕ) (old new : ShelfView) (e : Ending) → TakesMemory e → EndsAtFile file old new e → IsGivenUp MAX_INPUT_BYTES old new
file_given_up file old new (ending.Refused line fault) takes ends = absurd takes
file_given_up file old new ending.Memory takes ends = ends
file_given_up file old new ending.ReadFault takes ends = absurd takes
file_given_up file old new ending.TooLong takes ends = absurd takes
file_given_up file old new e takes ends = absurd ends

-- ---- commands

-- words that are no command take no memory, and `gen` reads no file
out_unread : (found : Option Command) (e : Ending) (old new : ShelfView) → (HasFile found → ⊥) → IsOwn e found → TakesMemory e → new ≡ old → IsOutOfMemory found old new
out_unread None ending.Words old new none own takes same = absurd takes
out_unread None e old new none own takes same = absurd own
out_unread (Some (command.Gen k size seed solve)) e old new none own takes same = same
out_unread (Some c) e old new none own takes same = absurd (none tt)

out_at_file : (found : Option Command) (old new : ShelfView) → HasFile found → IsGivenUp MAX_INPUT_BYTES old new → IsOutOfMemory found old new
out_at_file None old new reads given = absurd reads
out_at_file (Some (command.Gen k size seed solve)) old new reads given = absurd reads
out_at_file (Some (command.Check file answer)) old new reads given = inl (inr given)
out_at_file (Some (command.Migrate file answer v)) old new reads given = inl (inr given)
out_at_file (Some (command.CheckWith file answer lits)) old new reads given = inl (inr given)
out_at_file (Some c) old new reads given = inr given

out_at_answer : (found : Option Command) (old read new : ShelfView) (p : Instance) → HasAnswer found → HasProblem (file_of found) old read p → GoesOn found p → IsGivenUp (limit_of found) read new → IsOutOfMemory found old new
out_at_answer (Some (command.Check file answer)) old read new p reads has goes given = inr (p, read, has, given)
out_at_answer (Some (command.Migrate file answer v)) old read new p reads has goes given = inr (p, read, has, given)
out_at_answer (Some (command.CheckWith file answer lits)) old read new p reads has goes given = inr (p, read, has, goes, given)
out_at_answer found old read new p reads has goes given = absurd reads

stage_given_up : (found : Option Command) (old new : ShelfView) (e : Ending) → TakesMemory e → Stage found old new e → IsOutOfMemory found old new
stage_given_up found old new e takes (unread none own same) = out_unread found e old new none own takes same
stage_given_up found old new e takes (at_file reads ends) = out_at_file found old new reads (file_given_up (file_of found) old new e takes ends)
stage_given_up found old new e takes (behind_file reads own p has) = out_at_file found old new reads (read_given_up (file_of found) MAX_INPUT_BYTES old new has.text has.read)
stage_given_up found old new e takes (at_answer p read behind ends) =
    out_at_answer found old read new p behind.reads behind.has behind.goes (text_given_up (answer_of found) (limit_of found) read new e takes ends)
stage_given_up found old new e takes (behind_answer p read text behind own given) =
    out_at_answer found old read new p behind.reads behind.has behind.goes (read_given_up (answer_of found) (limit_of found) read new text given)

-- want of memory for a text comes where the shelf stands as after any other
ends_given_up : (found : Option Command) (old new : ShelfView) (e : Ending) → TakesMemory e → Ends found old new e → IsOutOfMemory found old new
ends_given_up found old new e takes ends = elim (ends_cases found old new e ends) [ inl out ↦ out | inr comes ↦ stage_given_up found old new e takes (stage_of found old new e comes) ]

pub memory_wanting : (found : Option Command) (old new : ShelfView) (e : Ending) (s : Status) (before now : Option (List ℕ)) → Ends found old new e → Writes e s before now → s ≡ status.Memory → IsOutOfMemory found old new
memory_wanting found old new e s before now ends writes same =
    let here : Writes e status.Memory before now = subst (λ (t : Status). Writes e t before now) same writes in
    ends_given_up found old new e here.1 ends

-- ---- what a step hands out

out_at_words : (found : Option Command) (shelf : ShelfView) → IsSome found → IsOutOfMemory found shelf shelf
out_at_words None shelf some = absurd cc
out_at_words (Some (command.Gen k size seed solve)) shelf some = refl
out_at_words (Some (command.Check file answer)) shelf some = inl (inl refl)
out_at_words (Some (command.Migrate file answer v)) shelf some = inl (inl refl)
out_at_words (Some (command.CheckWith file answer lits)) shelf some = inl (inl refl)
out_at_words (Some c) shelf some = inl refl

-- the run ends there: the error is want of memory
pub ends_at_words : (found : Option Command) (shelf : ShelfView) (r : Result Ending Ending) → IsSome found → IsErrAnd r (λ e. e ≡ ending.Memory) → MatchResult r (Ends found shelf shelf) (Ends found shelf shelf)
ends_at_words found shelf (Ok e) some is = absurd is
ends_at_words found shelf (Err e) some is = subst (Ends found shelf shelf) (sym is) (out_at_words found shelf some)

-- the run ends at ANSWER, which would have been judged under assumptions
pub unjudged_with : (file answer : List ℕ) (lits : List ℤ) (old read new : ShelfView) (p : Instance) (r : CheckRefusal) → HasProblem file old read p → All (IsLitWithin MAX_VARS) lits → HasRoom p lits
    → (r ≡ judging.TooLong → IsTooLong answer MAX_ANSWER_BYTES read new) → (r ≡ judging.Fault → IsNotRead answer MAX_ANSWER_BYTES read new) → (r ≡ judging.Memory → IsGivenUp MAX_ANSWER_BYTES read new)
    → Ends (Some (command.CheckWith file answer lits)) old new (unjudged_ending r)
unjudged_with file answer lits old read new p judging.Memory has within room long fault out = inr (p, read, has, room, out refl)
unjudged_with file answer lits old read new p judging.Fault has within room long fault out = inr (p, read, has, inr (within, room, inl (fault refl)))
unjudged_with file answer lits old read new p judging.TooLong has within room long fault out = inr (p, read, has, inr (within, room, inl (long refl)))

-- the run ends where a step's error is this ending
pub ends_in_error : (found : Option Command) (old new : ShelfView) (r : Result Ending Ending) (d : Ending) → Ends found old new d → IsErrAnd r (λ e. e ≡ d) → MatchResult r (Ends found old new) (Ends found old new)
ends_in_error found old new (Ok e) d ends is = absurd is
ends_in_error found old new (Err e) d ends is = subst (Ends found old new) (sym is) ends
