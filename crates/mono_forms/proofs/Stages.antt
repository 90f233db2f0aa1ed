-- How far a run came, whatever its command is, and what that says of the shelf's counts.
use Rattle.std.proofs.Common.{◌≡◌, ◌≢◌, ℕ, ◌≤◌, ◌⊎◌, Bool, true, false, List, [], ◌∷◌, Option, Some, None, refl, sym, ap, subst, ◌∙◌, inl, inr, arith, ℤ}
use Rattle.mono_base.specs.declared.limits.TheConstants.{MAX_INPUT_BYTES, MAX_ANSWER_BYTES}
use Rattle.mono_io.specs.Faults.{counted}
use Rattle.mono_io.specs.Reading.{IsRead, IsGivenUp}
use Rattle.mono_io.specs.Shelf.{ShelfView}
use Rattle.mono_problem.specs.Instance.{Instance}
use Rattle.mono_problem.specs.Assuming.{assuming, HasRoom}
use Rattle.mono_gen.specs.Generated.{generated}
use Rattle.mono_gen.specs.declared.kind.GenKind.{GenKind}
use Rattle.mono_gnf.specs.Printed.{printed}
use Rattle.mono_gnf.specs.declared.fault.GnfFault.TheVariants as fault
use Rattle.mono_answer.specs.declared.version.Version.{Version}
use Rattle.mono_check.specs.declared.verdict.Verdict.{Verdict}
use Rattle.mono_check.specs.declared.verdict.Verdict.TheVariants as verdict
use Rattle.mono_words.specs.declared.command.TheConstants.{MAX_MIGRATED_BYTES}
use Rattle.mono_words.specs.declared.command.Command.{Command}
use Rattle.mono_words.specs.declared.command.Command.TheVariants as command
use Rattle.mono_forms.specs.declared.ending.Ending.{Ending}
use Rattle.mono_forms.specs.declared.ending.Ending.TheVariants as ending
use Rattle.mono_words.specs.Commands.{files_of}
use Rattle.mono_forms.specs.Teams.{IsTeamed}
use Rattle.mono_forms.specs.Runs.{EndsAtText, EndsAtFile, WithText, WithProblem, HasProblem, IsJudged, IsMigration, IsSolved, HasNoRoom, IsNarrowed, IsBounded, IsAsked, IsGenerated, ComesTo, Ends, IsOutOfMemory, begun_for}

-- memory was wanting, or the run came to this by its command
pub ends_cases : (found : Option Command) (old new : ShelfView) (e : Ending) → Ends found old new e → IsOutOfMemory found old new ⊎ ComesTo found old new e
ends_cases found old new ending.Memory ends = inl ends
ends_cases found old new e ends = inr ends

pub ends_else : (found : Option Command) (old new : ShelfView) (e : Ending) → e ≢ ending.Memory → Ends found old new e → ComesTo found old new e
ends_else found old new ending.Memory else ends = absurd (else refl)
ends_else found old new e else ends = ends

-- ---- what a command reads, and what it ends with behind that

abbrev pub HasFile : Option Command → Type 0
HasFile None = ⊥
HasFile (Some (command.Gen k size seed solve)) = ⊥
HasFile found = Unit {0}

abbrev pub HasAnswer : Option Command → Type 0
HasAnswer (Some (command.Check file answer)) = Unit {0}
HasAnswer (Some (command.Migrate file answer v)) = Unit {0}
HasAnswer (Some (command.CheckWith file answer lits)) = Unit {0}
HasAnswer found = ⊥

abbrev pub first_of : List (List ℕ) → List ℕ
first_of [] = []
first_of (file ∷ files) = file

abbrev pub second_of : List (List ℕ) → List ℕ
second_of [] = []
second_of (file ∷ files) = first_of files

-- FILE, ANSWER, and the limit of ANSWER
abbrev pub file_of : Option Command → List ℕ
file_of found = first_of (files_of found)

abbrev pub answer_of : Option Command → List ℕ
answer_of found = second_of (files_of found)

abbrev pub limit_of : Option Command → ℕ
limit_of (Some (command.Migrate file answer v)) = MAX_MIGRATED_BYTES
limit_of found = MAX_ANSWER_BYTES

-- the run goes on with FILE's problem, to ANSWER
abbrev pub GoesOn : Option Command → Instance → Type 0
GoesOn (Some (command.CheckWith file answer lits)) p = HasRoom p lits
GoesOn found p = Unit {0}

-- the kinds of ending that the command comes to behind what it reads
abbrev pub IsOwn : Ending → Option Command → Type 0
IsOwn ending.Words None = Unit {0}
IsOwn (ending.Solved a) (Some (command.Solve file budget)) = Unit {0}
IsOwn (ending.Solved a) (Some (command.Team file workers rounds)) = Unit {0}
IsOwn (ending.Judged v) (Some (command.Check file answer)) = Unit {0}
IsOwn (ending.Judged v) (Some (command.CheckWith file answer lits)) = Unit {0}
IsOwn (ending.Judged (verdict.Rejected line r)) (Some (command.Migrate file answer v)) = Unit {0}
IsOwn (ending.Printed text) (Some (command.Migrate file answer v)) = Unit {0}
IsOwn (ending.Printed text) (Some (command.Print file)) = Unit {0}
IsOwn (ending.Printed text) (Some (command.Ask file n b)) = Unit {0}
IsOwn (ending.Printed text) (Some (command.Gen k size seed false)) = Unit {0}
IsOwn (ending.Summed s) (Some (command.Gen k size seed true)) = Unit {0}
IsOwn (ending.Refused line fault) (Some (command.Core file lits)) = Unit {0}
IsOwn (ending.Refused line fault) (Some (command.CheckWith file answer lits)) = Unit {0}
IsOwn (ending.Narrowed o) (Some (command.Core file lits)) = Unit {0}
IsOwn (ending.Bounded o) (Some (command.Best file n)) = Unit {0}
IsOwn (ending.Unasked r) (Some (command.Best file n)) = Unit {0}
IsOwn (ending.Unasked r) (Some (command.Ask file n b)) = Unit {0}
IsOwn e found = ⊥

-- an ending that is named is of the command's kinds
own_as : (found : Option Command) (e d : Ending) → e ≡ d → IsOwn d found → IsOwn e found
own_as found e d is own = subst (λ (x : Ending). IsOwn x found) (sym is) own

own_solved : (p : Instance) (budget : ℕ) (e : Ending) (file : List ℕ) → IsSolved p budget e → IsOwn e (Some (command.Solve file budget))
own_solved p budget (ending.Solved a) file h = tt
own_solved p budget e file h = absurd h

own_judged : (found : Option Command) (p : Instance) (text : List ℕ) (e : Ending) → ((v : Verdict) → IsOwn (ending.Judged v) found) → IsJudged p text e → IsOwn e found
own_judged found p text (ending.Judged v) own h = own v
own_judged found p text e own h = absurd h

own_migrated : (p : Instance) (text : List ℕ) (w : Version) (e : Ending) (file answer : List ℕ) → IsMigration p text w e → IsOwn e (Some (command.Migrate file answer w))
own_migrated p text w (ending.Printed other) file answer h = tt
own_migrated p text w (ending.Judged (verdict.Rejected line r)) file answer h = tt
own_migrated p text w e file answer h = absurd h

own_generated : (k : GenKind) (size seed : ℕ) (solve : Bool) (e : Ending) → IsGenerated k size seed solve e → IsOwn e (Some (command.Gen k size seed solve))
own_generated k size seed false e h = own_as (Some (command.Gen k size seed false)) e (ending.Printed (generated k size seed)) h tt
own_generated k size seed true e h = own_as (Some (command.Gen k size seed true)) e (ending.Summed h.summary) h.is tt

own_narrowed : (p : Instance) (lits : List ℤ) (e : Ending) (file : List ℕ) → HasNoRoom p lits e ⊎ IsNarrowed p lits e → IsOwn e (Some (command.Core file lits))
own_narrowed p lits e file (inl beyond) = own_as (Some (command.Core file lits)) e (ending.Refused 0 fault.TooMany) beyond.1 tt
own_narrowed p lits (ending.Narrowed o) file (inr found) = tt
own_narrowed p lits e file (inr found) = absurd found

own_bounded : (p : Instance) (n : ℕ) (e : Ending) (file : List ℕ) → IsBounded p n e → IsOwn e (Some (command.Best file n))
own_bounded p n (ending.Bounded o) file h = tt
own_bounded p n (ending.Unasked r) file h = tt
own_bounded p n e file h = absurd h

own_asked : (p : Instance) (n : ℕ) (b : ℤ) (e : Ending) (file : List ℕ) → IsAsked p n b e → IsOwn e (Some (command.Ask file n b))
own_asked p n b (ending.Printed text) file h = tt
own_asked p n b (ending.Unasked r) file h = tt
own_asked p n b e file h = absurd h

-- ---- how far it came

-- FILE was read and stands for the problem, and the run goes on with it
pub record IsBehind (found : Option Command) (old read : ShelfView) (p : Instance) : Type 0 where
  pub reads : HasAnswer found
  pub has : HasProblem (file_of found) old read p
  pub goes : GoesOn found p

-- it read no file, it ended at FILE or behind it, or it ended at ANSWER or behind that
pub data Stage (found : Option Command) (old new : ShelfView) (e : Ending) : Type 0 where
  unread : (HasFile found → ⊥) → IsOwn e found → new ≡ old → Stage found old new e
  at_file : HasFile found → EndsAtFile (file_of found) old new e → Stage found old new e
  behind_file : HasFile found → IsOwn e found → (p : Instance) → HasProblem (file_of found) old new p → Stage found old new e
  at_answer : (p : Instance) (read : ShelfView) → IsBehind found old read p → EndsAtText (answer_of found) (limit_of found) read new e → Stage found old new e
  behind_answer : (p : Instance) (read : ShelfView) (text : List ℕ) → IsBehind found old read p → IsOwn e found → IsRead (answer_of found) (limit_of found) read new text → Stage found old new e

-- of a command that goes on behind FILE to its end
one_stage : (found : Option Command) (old new : ShelfView) (e : Ending) (End : Instance → Type 0) → HasFile found → ((p : Instance) → End p → IsOwn e found)
    → WithProblem (file_of found) old new e (λ p shelf. End p × (new ≡ shelf)) → Stage found old new e
one_stage found old new e End reads own (inl ends) = at_file reads ends
one_stage found old new e End reads own (inr (p, shelf, has, end)) =
    behind_file reads (own p end.0) p (subst (λ (s : ShelfView). HasProblem (file_of found) old s p) (sym end.1) has)

-- of one that goes on to ANSWER
answer_stage : (found : Option Command) (old read new : ShelfView) (e : Ending) (p : Instance) (End : List ℕ → Type 0) → IsBehind found old read p → ((text : List ℕ) → End text → IsOwn e found)
    → WithText (answer_of found) (limit_of found) read new e (λ text shelf. End text × (new ≡ shelf)) → Stage found old new e
answer_stage found old read new e p End behind own (inl ends) = at_answer p read behind ends
answer_stage found old read new e p End behind own (inr (text, shelf, given, end)) =
    behind_answer p read text behind (own text end.0) (subst (λ (s : ShelfView). IsRead (answer_of found) (limit_of found) read s text) (sym end.1) given)

pub stage_of : (found : Option Command) (old new : ShelfView) (e : Ending) → ComesTo found old new e → Stage found old new e
stage_of None old new e comes = unread (λ reads. reads) (own_as None e ending.Words comes.0 tt) comes.1
stage_of (Some (command.Gen k size seed solve)) old new e comes = unread (λ reads. reads) (own_generated k size seed solve e comes.0) comes.1
stage_of (Some (command.Solve file budget)) old new e comes =
    one_stage (Some (command.Solve file budget)) old new e (λ p. IsSolved p budget e) tt (λ p h. own_solved p budget e file h) comes
stage_of (Some (command.Print file)) old new e comes =
    one_stage (Some (command.Print file)) old new e (λ p. e ≡ ending.Printed (printed p)) tt (λ p h. own_as (Some (command.Print file)) e (ending.Printed (printed p)) h tt) comes
stage_of (Some (command.Team file workers rounds)) old new e comes =
    one_stage (Some (command.Team file workers rounds)) old new e (λ p. IsTeamed p workers rounds e) tt
    (λ p h. own_as (Some (command.Team file workers rounds)) e (ending.Solved h.answer) h.is tt) comes
stage_of (Some (command.Core file lits)) old new e comes =
    one_stage (Some (command.Core file lits)) old new e (λ p. HasNoRoom p lits e ⊎ IsNarrowed p lits e) tt (λ p h. own_narrowed p lits e file h) comes
stage_of (Some (command.Best file n)) old new e comes =
    one_stage (Some (command.Best file n)) old new e (λ p. IsBounded p n e) tt (λ p h. own_bounded p n e file h) comes
stage_of (Some (command.Ask file n b)) old new e comes =
    one_stage (Some (command.Ask file n b)) old new e (λ p. IsAsked p n b e) tt (λ p h. own_asked p n b e file h) comes
stage_of (Some (command.Check file answer)) old new e (inl ends) = at_file tt ends
stage_of (Some (command.Check file answer)) old new e (inr (p, read, has, rest)) =
    answer_stage (Some (command.Check file answer)) old read new e p (λ text. IsJudged p text e) (record { reads = tt; has = has; goes = tt })
    (λ text h. own_judged (Some (command.Check file answer)) p text e (λ v. tt) h) rest
stage_of (Some (command.Migrate file answer v)) old new e (inl ends) = at_file tt ends
stage_of (Some (command.Migrate file answer v)) old new e (inr (p, read, has, rest)) =
    answer_stage (Some (command.Migrate file answer v)) old read new e p (λ text. IsMigration p text v e) (record { reads = tt; has = has; goes = tt })
    (λ text h. own_migrated p text v e file answer h) rest
stage_of (Some (command.CheckWith file answer lits)) old new e (inl ends) = at_file tt ends
stage_of (Some (command.CheckWith file answer lits)) old new e (inr (p, read, has, inl beyond)) =
    behind_file tt (own_as (Some (command.CheckWith file answer lits)) e (ending.Refused 0 fault.TooMany) beyond.0.1 tt) p (subst (λ (s : ShelfView). HasProblem file old s p) (sym beyond.1) has)
stage_of (Some (command.CheckWith file answer lits)) old new e (inr (p, read, has, inr (within, room, rest))) =
    answer_stage (Some (command.CheckWith file answer lits)) old read new e p (λ text. IsJudged (assuming p lits) text e) (record { reads = tt; has = has; goes = room })
    (λ text h. own_judged (Some (command.CheckWith file answer lits)) (assuming p lits) text e (λ v. tt) h) rest

-- ---- one file

pub text_begun : (file : List ℕ) (limit : ℕ) (old new : ShelfView) (e : Ending) → EndsAtText file limit old new e → new.begun ≡ counted old.begun
text_begun file limit old new ending.ReadFault ends = ends.once.begun
text_begun file limit old new ending.TooLong ends = ends.once.begun
text_begun file limit old new ending.Memory ends = ends.once.begun
text_begun file limit old new e ends = absurd ends

text_faults : (file : List ℕ) (limit : ℕ) (old new : ShelfView) (e : Ending) → e ≢ ending.ReadFault → EndsAtText file limit old new e → new.faults ≡ old.faults
text_faults file limit old new ending.ReadFault else ends = absurd (else refl)
text_faults file limit old new ending.TooLong else ends = ends.faults
text_faults file limit old new ending.Memory else ends = ends.faults
text_faults file limit old new e else ends = absurd ends

-- FILE was refused, or the run ended as at any file
pub file_begun : (file : List ℕ) (old new : ShelfView) (e : Ending) → EndsAtFile file old new e → new.begun ≡ counted old.begun
file_begun file old new (ending.Refused line fault) ends = ends.read.once.begun
file_begun file old new ending.ReadFault ends = ends.once.begun
file_begun file old new ending.TooLong ends = ends.once.begun
file_begun file old new ending.Memory ends = ends.once.begun
file_begun file old new e ends = absurd ends

file_faults : (file : List ℕ) (old new : ShelfView) (e : Ending) → e ≢ ending.ReadFault → EndsAtFile file old new e → new.faults ≡ old.faults
file_faults file old new (ending.Refused line fault) else ends = ends.read.faults
file_faults file old new ending.ReadFault else ends = absurd (else refl)
file_faults file old new ending.TooLong else ends = ends.faults
file_faults file old new ending.Memory else ends = ends.faults
file_faults file old new e else ends = absurd ends

-- ---- counts of begins

at_most_once : (n m : ℕ) → m ≡ counted n → m ≤ counted (counted n)
at_most_once n m once = omega (arith, once)

none_begun : (found : Option Command) (n : ℕ) → (HasFile found → ⊥) → begun_for (files_of found) n ≡ n
none_begun None n none = refl
none_begun (Some (command.Gen k size seed solve)) n none = refl
none_begun found n none = absurd (none tt)

one_begun : (found : Option Command) (n m : ℕ) → HasFile found → m ≡ counted n → m ≤ begun_for (files_of found) n
one_begun None n m reads is = absurd reads
one_begun (Some (command.Gen k size seed solve)) n m reads is = absurd reads
one_begun (Some (command.Check file answer)) n m reads is = at_most_once n m is
one_begun (Some (command.Migrate file answer v)) n m reads is = at_most_once n m is
one_begun (Some (command.CheckWith file answer lits)) n m reads is = at_most_once n m is
one_begun found n m reads is = omega (arith, is)

two_begun : (found : Option Command) (n m : ℕ) → HasAnswer found → m ≡ counted (counted n) → m ≤ begun_for (files_of found) n
two_begun (Some (command.Check file answer)) n m reads is = omega (arith, is)
two_begun (Some (command.Migrate file answer v)) n m reads is = omega (arith, is)
two_begun (Some (command.CheckWith file answer lits)) n m reads is = omega (arith, is)
two_begun found n m reads is = absurd reads

stage_begun : (found : Option Command) (old new : ShelfView) (e : Ending) → Stage found old new e → new.begun ≤ begun_for (files_of found) old.begun
stage_begun found old new e (unread none own same) = omega (arith, none_begun found old.begun none, ap (λ (s : ShelfView). s.begun) same)
stage_begun found old new e (at_file reads ends) = one_begun found old.begun new.begun reads (file_begun (file_of found) old new e ends)
stage_begun found old new e (behind_file reads own p has) = one_begun found old.begun new.begun reads has.read.once.begun
stage_begun found old new e (at_answer p read behind ends) =
    two_begun found old.begun new.begun behind.reads (text_begun (answer_of found) (limit_of found) read new e ends ∙ ap counted behind.has.read.once.begun)
stage_begun found old new e (behind_answer p read text behind own given) = two_begun found old.begun new.begun behind.reads (given.once.begun ∙ ap counted behind.has.read.once.begun)

stage_faults : (found : Option Command) (old new : ShelfView) (e : Ending) → e ≢ ending.ReadFault → Stage found old new e → new.faults ≡ old.faults
stage_faults found old new e else (unread none own same) = ap (λ (s : ShelfView). s.faults) same
stage_faults found old new e else (at_file reads ends) = file_faults (file_of found) old new e else ends
stage_faults found old new e else (behind_file reads own p has) = has.read.faults
stage_faults found old new e else (at_answer p read behind ends) = text_faults (answer_of found) (limit_of found) read new e else ends ∙ behind.has.read.faults
stage_faults found old new e else (behind_answer p read text behind own given) = given.faults ∙ behind.has.read.faults

-- ---- want of memory

at_most_twice : (n m : ℕ) → m ≤ counted n → m ≤ counted (counted n)
at_most_twice n m once = omega (arith, once)

-- no file was begun, or FILE was
alone_out : (old new : ShelfView) → (new ≡ old) ⊎ IsGivenUp MAX_INPUT_BYTES old new → (new.begun ≤ counted old.begun) × (new.faults ≡ old.faults)
alone_out old new (inl same) = (omega (arith, ap (λ (s : ShelfView). s.begun) same), ap (λ (s : ShelfView). s.faults) same)
alone_out old new (inr given) = (omega (arith, given.once.begun), given.faults)

-- the same of a command that reads ANSWER too
first_out : (old new : ShelfView) → (new ≡ old) ⊎ IsGivenUp MAX_INPUT_BYTES old new → (new.begun ≤ counted (counted old.begun)) × (new.faults ≡ old.faults)
first_out old new out = (at_most_twice old.begun new.begun (alone_out old new out).0, (alone_out old new out).1)

-- ANSWER was begun behind FILE
second_out : (file : List ℕ) (limit : ℕ) (old read new : ShelfView) (p : Instance) → HasProblem file old read p → IsGivenUp limit read new → (new.begun ≤ counted (counted old.begun)) × (new.faults ≡ old.faults)
second_out file limit old read new p has given = (omega (arith, given.once.begun ∙ ap counted has.read.once.begun), given.faults ∙ has.read.faults)

out_counts : (found : Option Command) (old new : ShelfView) → IsOutOfMemory found old new → (new.begun ≤ begun_for (files_of found) old.begun) × (new.faults ≡ old.faults)
out_counts None old new out = absurd out
out_counts (Some (command.Gen k size seed solve)) old new same = (omega (arith, ap (λ (s : ShelfView). s.begun) same), ap (λ (s : ShelfView). s.faults) same)
out_counts (Some (command.Check file answer)) old new (inl out) = first_out old new out
out_counts (Some (command.Check file answer)) old new (inr (p, read, has, given)) = second_out file MAX_ANSWER_BYTES old read new p has given
out_counts (Some (command.Migrate file answer v)) old new (inl out) = first_out old new out
out_counts (Some (command.Migrate file answer v)) old new (inr (p, read, has, given)) = second_out file MAX_MIGRATED_BYTES old read new p has given
out_counts (Some (command.CheckWith file answer lits)) old new (inl out) = first_out old new out
out_counts (Some (command.CheckWith file answer lits)) old new (inr (p, read, has, room, given)) = second_out file MAX_ANSWER_BYTES old read new p has given
out_counts (Some c) old new out = alone_out old new out

-- ---- every ending

pub ends_begun : (found : Option Command) (old new : ShelfView) (e : Ending) → Ends found old new e → new.begun ≤ begun_for (files_of found) old.begun
ends_begun found old new e ends = elim (ends_cases found old new e ends) [ inl out ↦ (out_counts found old new out).0 | inr comes ↦ stage_begun found old new e (stage_of found old new e comes) ]

pub ends_faults : (found : Option Command) (old new : ShelfView) (e : Ending) → e ≢ ending.ReadFault → Ends found old new e → new.faults ≡ old.faults
ends_faults found old new e else ends = elim (ends_cases found old new e ends) [ inl out ↦ (out_counts found old new out).1 | inr comes ↦ stage_faults found old new e else (stage_of found old new e comes) ]
