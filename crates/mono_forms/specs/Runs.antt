-- What a run comes to, by its command and by what contracts see of the shelf as it begins (`old`) and as it ends (`new`).
use Rattle.std.specs.Prelude.{◌≡◌, ℕ, ◌+◌, ℤ, pos, ◌≤◌, ◌⊎◌, Bool, true, false, List, [], ◌∷◌, ◌++◌, length, codes, Option, Some, None, IsSome, IsSomeAnd, All}
use Rattle.std.specs.Io.KnownBytes.{Appends}
use Rattle.mono_base.specs.declared.limits.TheConstants.{MAX_INPUT_BYTES, MAX_ANSWER_BYTES, MAX_VARS}
use Rattle.mono_base.specs.Literal.{IsLitWithin}
use Rattle.mono_io.specs.Faults.{counted}
use Rattle.mono_io.specs.Reading.{IsRead, IsTooLong, IsNotRead, IsGivenUp}
use Rattle.mono_io.specs.Shelf.{Texts, ShelfView, told_text}
use Rattle.mono_io.specs.Sink.{AppendsPrefix}
use Rattle.mono_problem.specs.Instance.{Instance, edges_total}
use Rattle.mono_gnf.specs.Faults.{first_fault}
use Rattle.mono_gnf.specs.Stands.{Stands}
use Rattle.mono_gnf.specs.Printed.{printed}
use Rattle.mono_gen.specs.Generated.{generated}
use Rattle.mono_gen.specs.declared.kind.GenKind.{GenKind}
use Rattle.mono_steps.specs.declared.step.Step.{Step}
use Rattle.mono_answer.specs.Printed.{answer_text}
use Rattle.mono_gnf.specs.declared.fault.GnfFault.{GnfFault}
use Rattle.mono_answer.specs.declared.answer.Answer.{Answer}
use Rattle.mono_answer.specs.declared.answer.Answer.TheVariants as answer
use Rattle.mono_check.specs.declared.verdict.Verdict.{Verdict}
use Rattle.mono_check.specs.declared.verdict.Verdict.TheVariants as verdict
use Rattle.mono_check.specs.Verdicts.{IsVerdict}
use Rattle.mono_check.specs.Migrations.{MigratesTo}
use Rattle.mono_answer.specs.declared.version.Version.{Version}
use Rattle.mono_words.specs.declared.command.Command.{Command}
use Rattle.mono_words.specs.declared.command.Command.TheVariants as command
use Rattle.mono_forms.specs.declared.status.Status.{Status}
use Rattle.mono_forms.specs.declared.status.Status.TheVariants as status
use Rattle.mono_forms.specs.declared.summary.Summary.{Summary}
use Rattle.mono_forms.specs.declared.ending.Ending.{Ending}
use Rattle.mono_forms.specs.declared.ending.Ending.TheVariants as ending
use Rattle.mono_words.specs.declared.command.TheConstants.{DEFAULT_BUDGET, MAX_MIGRATED_BYTES}
use Rattle.mono_forms.specs.Endings.{status_of, text_of, TakesMemory, summary_lines, verdict_status, verdict_text}
use Rattle.mono_steps.specs.New.{IsProgress}
use Rattle.mono_problem.specs.Assuming.{assuming, HasRoom}
use Rattle.mono_gnf.specs.declared.fault.GnfFault.TheVariants as fault
use Rattle.mono_core.specs.declared.outcome.CoreOutcome.{CoreOutcome}
use Rattle.mono_core.specs.declared.outcome.CoreOutcome.TheVariants as outcome
use Rattle.mono_core.specs.declared.outcome.Need.{Need}
use Rattle.mono_core.specs.Cores.{IsCore}
use Rattle.mono_base.specs.declared.limits.TheConstants.{MAX_BOUND}
use Rattle.mono_best.specs.declared.outcome.BestOutcome.{BestOutcome}
use Rattle.mono_best.specs.declared.outcome.BestOutcome.TheVariants as bounded
use Rattle.mono_best.specs.Asking.{asking, predicate_of, HasBoundedAtom, HasRoomToAsk}
use Rattle.mono_best.specs.Bounds.{beyond, weakest, IsBoundOf}
use Rattle.mono_best.specs.Best.{IsBest, IsOpen, IsBeyond}
use Rattle.mono_best.specs.Optimum.{IsOptimum, IsNeverMet}
use Rattle.mono_forms.specs.declared.asking.AskRefusal.{AskRefusal}
use Rattle.mono_forms.specs.declared.asking.AskRefusal.TheVariants as refusal
use Rattle.mono_forms.specs.BestTexts.{best_text}
use Rattle.mono_forms.specs.CoreTexts.{outcome_text}
use Rattle.mono_forms.specs.Solved.{IsSolution, IsSummary, IsNarrowing, IsBounding}
use Rattle.mono_forms.specs.Teams.{IsTeamed}
use Rattle.mono_forms.specs.Told.{JudgesOver, RunsOver, WroteOver}

-- ---- a file on the way

-- the run ends at a file: it couldn't be read, it is too long, or memory was wanting
abbrev pub EndsAtText : List ℕ → ℕ → ShelfView → ShelfView → Ending → Type 0
EndsAtText file limit old new ending.ReadFault = IsNotRead file limit old new
EndsAtText file limit old new ending.TooLong = IsTooLong file limit old new
EndsAtText file limit old new ending.Memory = IsGivenUp limit old new
EndsAtText file limit old new e = ⊥

-- FILE was read, and this is its first fault
pub record HasFirstFault (file : List ℕ) (old new : ShelfView) (line : ℕ) (fault : GnfFault) : Type 0 where
  pub text : List ℕ
  pub read : IsRead file MAX_INPUT_BYTES old new text
  pub first : first_fault text ≡ Some (line, fault)

-- FILE was read, and stands for this problem
pub record HasProblem (file : List ℕ) (old new : ShelfView) (p : Instance) : Type 0 where
  pub text : List ℕ
  pub read : IsRead file MAX_INPUT_BYTES old new text
  pub stands : Stands text p

-- the run ends at FILE: as at any file, or at its first fault
abbrev pub EndsAtFile : List ℕ → ShelfView → ShelfView → Ending → Type 0
EndsAtFile file old new (ending.Refused line fault) = HasFirstFault file old new line fault
EndsAtFile file old new e = EndsAtText file MAX_INPUT_BYTES old new e

-- the run ends at a file, or goes on with its text and the shelf as it is then
abbrev pub WithText : List ℕ → ℕ → ShelfView → ShelfView → Ending → (List ℕ → ShelfView → Type 0) → Type 0
WithText file limit old new e next =
    EndsAtText file limit old new e ⊎ ((text : List ℕ) × (shelf : ShelfView) × IsRead file limit old shelf text × next text shelf)

-- the run ends at FILE, or goes on with its problem and the shelf as it is then
abbrev pub WithProblem : List ℕ → ShelfView → ShelfView → Ending → (Instance → ShelfView → Type 0) → Type 0
WithProblem file old new e next =
    EndsAtFile file old new e ⊎ ((p : Instance) × (shelf : ShelfView) × HasProblem file old shelf p × next p shelf)

-- the verdict on ANSWER's text for FILE's problem
abbrev pub IsJudged : Instance → List ℕ → Ending → Type 0
IsJudged p text (ending.Judged v) = IsVerdict p text v
IsJudged p text e = ⊥

-- ANSWER's text in the version, or the verdict that rejects it
abbrev pub IsMigration : Instance → List ℕ → Version → Ending → Type 0
IsMigration p text v (ending.Printed other) = MigratesTo p text v other
IsMigration p text v (ending.Judged (verdict.Rejected n r)) = IsVerdict p text (verdict.Rejected n r)
IsMigration p text v e = ⊥

-- an answer to FILE's problem
abbrev pub IsSolved : Instance → ℕ → Ending → Type 0
IsSolved p budget (ending.Solved a) = IsSolution p budget a
IsSolved p budget e = ⊥

-- ---- a generated input

-- the summary of an answer to the problem that a generated input stands for
pub record SumsUp (k : GenKind) (size seed : ℕ) (e : Ending) : Type 0 where
  pub problem : Instance
  pub stands : Stands (generated k size seed) problem
  pub summary : Summary
  pub is : e ≡ ending.Summed summary
  pub right : IsSummary problem DEFAULT_BUDGET summary

-- the generated input is printed, or solved and summed up
abbrev pub IsGenerated : GenKind → ℕ → ℕ → Bool → Ending → Type 0
IsGenerated k size seed false e = e ≡ ending.Printed (generated k size seed)
IsGenerated k size seed true e = SumsUp k size seed e

-- ---- assumptions

-- there is no room for one more clause of each assumption
abbrev pub HasNoRoom : Instance → List ℤ → Ending → Type 0
HasNoRoom p lits e = (¬ HasRoom p lits) × (e ≡ ending.Refused 0 fault.TooMany)

-- what was found of FILE's problem under the assumptions
abbrev pub IsNarrowed : Instance → List ℤ → Ending → Type 0
IsNarrowed p lits (ending.Narrowed o) = HasRoom p lits × IsNarrowing p DEFAULT_BUDGET lits o
IsNarrowed p lits e = ⊥

-- the verdict on ANSWER for FILE's problem under the assumptions, which are literals
abbrev pub IsJudgedWith : Instance → List ℤ → List ℕ → ShelfView → ShelfView → Ending → Type 0
IsJudgedWith p lits answer read new e =
    All (IsLitWithin MAX_VARS) lits × HasRoom p lits
    × WithText answer MAX_ANSWER_BYTES read new e (λ text shelf. IsJudged (assuming p lits) text e × (new ≡ shelf))

-- ---- bounds

-- Why a bound of the predicate can't be asked for, the first that applies: the input lacks such a predicate, the bound doesn't
-- fit, or there is no room.
abbrev pub IsUnasked : Instance → ℕ → Type 0 → AskRefusal → Type 0
IsUnasked p n Fits refusal.BadAtom = ¬ HasBoundedAtom p n
IsUnasked p n Fits refusal.BadBound = HasBoundedAtom p n × ¬ Fits
IsUnasked p n Fits refusal.TooMany = HasBoundedAtom p n × Fits × ¬ HasRoomToAsk p

-- what was found of the bound of a predicate of FILE's problem. Each bound is one that `best` asks for itself, so it fits
abbrev pub IsBounded : Instance → ℕ → Ending → Type 0
IsBounded p n (ending.Bounded o) = HasBoundedAtom p n × HasRoomToAsk p × IsBounding p DEFAULT_BUDGET n o
IsBounded p n (ending.Unasked r) = IsUnasked p n (Unit {0}) r
IsBounded p n e = ⊥

-- the printed form of the problem that asks for the bound
abbrev pub IsAsked : Instance → ℕ → ℤ → Ending → Type 0
IsAsked p n b (ending.Printed text) = HasBoundedAtom p n × IsBoundOf (predicate_of p n) b × HasRoomToAsk p × (text ≡ printed (asking p n b))
IsAsked p n b (ending.Unasked r) = IsUnasked p n (IsBoundOf (predicate_of p n) b) r
IsAsked p n b e = ⊥

-- ---- commands

-- What a run with this command comes to, where memory is found.
abbrev pub ComesTo : Option Command → ShelfView → ShelfView → Ending → Type 0
ComesTo None old new e = (e ≡ ending.Words) × (new ≡ old)
ComesTo (Some (command.Solve file budget)) old new e =
    WithProblem file old new e (λ p shelf. IsSolved p budget e × (new ≡ shelf))
ComesTo (Some (command.Print file)) old new e =
    WithProblem file old new e (λ p shelf. (e ≡ ending.Printed (printed p)) × (new ≡ shelf))
ComesTo (Some (command.Gen k size seed solve)) old new e = IsGenerated k size seed solve e × (new ≡ old)
ComesTo (Some (command.Check file answer)) old new e =
    WithProblem file old new e (λ p read.
    WithText answer MAX_ANSWER_BYTES read new e (λ text shelf. IsJudged p text e × (new ≡ shelf)))
ComesTo (Some (command.Migrate file answer v)) old new e =
    WithProblem file old new e (λ p read.
    WithText answer MAX_MIGRATED_BYTES read new e (λ text shelf. IsMigration p text v e × (new ≡ shelf)))
ComesTo (Some (command.Core file lits)) old new e =
    WithProblem file old new e (λ p shelf. (HasNoRoom p lits e ⊎ IsNarrowed p lits e) × (new ≡ shelf))
ComesTo (Some (command.Best file n)) old new e =
    WithProblem file old new e (λ p shelf. IsBounded p n e × (new ≡ shelf))
ComesTo (Some (command.Ask file n b)) old new e =
    WithProblem file old new e (λ p shelf. IsAsked p n b e × (new ≡ shelf))
ComesTo (Some (command.CheckWith file answer lits)) old new e =
    WithProblem file old new e (λ p read. (HasNoRoom p lits e × (new ≡ read)) ⊎ IsJudgedWith p lits answer read new e)
ComesTo (Some (command.Team file workers rounds)) old new e =
    WithProblem file old new e (λ p shelf. IsTeamed p workers rounds e × (new ≡ shelf))

-- the count after each of these files was begun once more
abbrev pub begun_for : List (List ℕ) → ℕ → ℕ
begun_for [] count = count
begun_for (file ∷ files) count = begun_for files (counted count)

-- Memory was wanting, and no call had failed: before a file was begun, on the way with FILE, or on the way with ANSWER behind
-- it. Of the file that was begun last no byte beyond its limit was read. Words that are no command need no memory.
abbrev pub IsOutOfMemory : Option Command → ShelfView → ShelfView → Type 0
IsOutOfMemory None old new = ⊥
IsOutOfMemory (Some (command.Solve file budget)) old new = (new ≡ old) ⊎ IsGivenUp MAX_INPUT_BYTES old new
IsOutOfMemory (Some (command.Print file)) old new = (new ≡ old) ⊎ IsGivenUp MAX_INPUT_BYTES old new
IsOutOfMemory (Some (command.Gen k size seed solve)) old new = new ≡ old
IsOutOfMemory (Some (command.Check file answer)) old new =
    ((new ≡ old) ⊎ IsGivenUp MAX_INPUT_BYTES old new)
    ⊎ ((p : Instance) × (read : ShelfView) × HasProblem file old read p × IsGivenUp MAX_ANSWER_BYTES read new)
IsOutOfMemory (Some (command.Migrate file answer v)) old new =
    ((new ≡ old) ⊎ IsGivenUp MAX_INPUT_BYTES old new)
    ⊎ ((p : Instance) × (read : ShelfView) × HasProblem file old read p × IsGivenUp MAX_MIGRATED_BYTES read new)
IsOutOfMemory (Some (command.Core file lits)) old new = (new ≡ old) ⊎ IsGivenUp MAX_INPUT_BYTES old new
IsOutOfMemory (Some (command.Best file n)) old new = (new ≡ old) ⊎ IsGivenUp MAX_INPUT_BYTES old new
IsOutOfMemory (Some (command.Ask file n b)) old new = (new ≡ old) ⊎ IsGivenUp MAX_INPUT_BYTES old new
IsOutOfMemory (Some (command.CheckWith file answer lits)) old new =
    ((new ≡ old) ⊎ IsGivenUp MAX_INPUT_BYTES old new)
    ⊎ ((p : Instance) × (read : ShelfView) × HasProblem file old read p × HasRoom p lits × IsGivenUp MAX_ANSWER_BYTES read new)
IsOutOfMemory (Some (command.Team file workers rounds)) old new = (new ≡ old) ⊎ IsGivenUp MAX_INPUT_BYTES old new

-- What a run comes to.
abbrev pub Ends : Option Command → ShelfView → ShelfView → Ending → Type 0
Ends found old new ending.Memory = IsOutOfMemory found old new
Ends found old new e = ComesTo found old new e

-- ---- what is written

-- What a run that comes to this ending writes, by its status: the text whole; a prefix of it, and not all of it, where a write
-- failed; nothing where memory was wanting, and not in place of a text that takes none.
abbrev pub Writes : Ending → Status → Option (List ℕ) → Option (List ℕ) → Type 0
Writes e status.WriteFault before now = AppendsPrefix before now (text_of e)
Writes e status.Memory before now = (now ≡ before) × TakesMemory e
Writes e s before now = (s ≡ status_of e) × Appends before now (text_of e)

-- the run comes to an ending, and writes its text
pub record Runs (found : Option Command) (old new : ShelfView) (s : Status) (before now : Option (List ℕ)) : Type 0 where
  pub ending : Ending
  pub ends : Ends found old new ending
  pub writes : Writes ending s before now

-- `solve` runs with this budget, and FILE is told and stands for the problem
abbrev pub Solves : Option Command → Option Texts → Instance → ℕ → Type 0
Solves found texts p budget = RunsOver found (λ file. command.Solve file budget) texts p

-- `core` runs with these assumptions, and FILE is told and stands for the problem
abbrev pub Narrows : Option Command → Option Texts → Instance → List ℤ → Type 0
Narrows found texts p lits = RunsOver found (λ file. command.Core file lits) texts p

-- what `core` writes with this status: what `check-with` accepts as a model under all assumptions, the text of a core, which it accepts
-- as a refutation under that, or progress under all of them, which it accepts as that
abbrev pub IsCoreBy : Status → Instance → List ℤ → List ℕ → Type 0
IsCoreBy status.Satisfiable p lits text = IsVerdict (assuming p lits) text verdict.Model
IsCoreBy status.Unsatisfiable p lits text =
    (some : List ℤ) × (needs : List Need) × (steps : List Step) × IsCore p DEFAULT_BUDGET lits some steps needs
    × (text ≡ outcome_text (outcome.Core some steps needs)) × IsVerdict (assuming p some) text verdict.Refutation
IsCoreBy status.Unknown p lits text =
    (steps : List Step) × IsProgress (assuming p lits) DEFAULT_BUDGET steps
    × (text ≡ outcome_text (outcome.Unknown steps)) × IsVerdict (assuming p lits) text (verdict.Progress DEFAULT_BUDGET)
IsCoreBy s p lits text = Unit {0}

-- `best` runs, and FILE is told and stands for the problem
abbrev pub Bounds : Option Command → Option Texts → Instance → ℕ → Type 0
Bounds found texts p n = RunsOver found (λ file. command.Best file n) texts p

-- What `best` writes with this status: the best bound over all assignments that satisfy the problem, a flow beyond every bound,
-- that no bound is met, or the bound on which the budget was spent. `check` accepts it of the problem that asks for the bound past
-- the best one, for the greatest flow, for the weakest bound, or for that bound.
abbrev pub IsBestBy : Status → Instance → ℕ → List ℕ → Type 0
IsBestBy status.Satisfiable p n text =
    ((b : ℤ) × (model : List Bool) × (steps : List Step) × IsBest p n b model steps × IsOptimum p n b
    × (text ≡ best_text (bounded.Best b model steps)) × IsVerdict (asking p n (beyond (predicate_of p n) b)) text verdict.Refutation)
    ⊎ ((model : List Bool) × IsBeyond p n model
    × (text ≡ best_text (bounded.Beyond model)) × IsVerdict (asking p n (pos (MAX_BOUND + 1))) text verdict.Model)
IsBestBy status.Unsatisfiable p n text =
    (steps : List Step) × IsNeverMet p n
    × (text ≡ best_text (bounded.Never steps)) × IsVerdict (asking p n (weakest (predicate_of p n))) text verdict.Refutation
IsBestBy status.Unknown p n text =
    (b : ℤ) × (steps : List Step) × IsOpen p n DEFAULT_BUDGET b steps
    × (text ≡ best_text (bounded.Unknown b steps)) × IsVerdict (asking p n b) text (verdict.Progress DEFAULT_BUDGET)
IsBestBy s p n text = Unit {0}

-- `print` runs, and FILE is told and stands for the problem
abbrev pub Prints : Option Command → Option Texts → Instance → Type 0
Prints found texts p = RunsOver found (λ file. command.Print file) texts p

-- `migrate` runs to this version, FILE is told and stands for the problem, and this is the text that is told of ANSWER
pub record Migrates (found : Option Command) (texts : Option Texts) (p : Instance) (given : List ℕ) (v : Version) : Type 0 where
  pub file : List ℕ
  pub answer : List ℕ
  pub is : found ≡ Some (command.Migrate file answer v)
  pub text : List ℕ
  pub told : told_text texts file ≡ Some text
  pub stands : Stands text p
  pub answered : told_text texts answer ≡ Some given

-- `ask` runs, and FILE is told and stands for the problem
abbrev pub Asks : Option Command → Option Texts → Instance → ℕ → ℤ → Type 0
Asks found texts p n b = RunsOver found (λ file. command.Ask file n b) texts p

-- what `solve` writes with this status: what `check` accepts as a model or as a refutation, or progress of the whole budget, which it
-- accepts as that
abbrev pub IsVerdictBy : Status → Instance → ℕ → List ℕ → Type 0
IsVerdictBy status.Satisfiable p budget text = IsVerdict p text verdict.Model
IsVerdictBy status.Unsatisfiable p budget text = IsVerdict p text verdict.Refutation
IsVerdictBy status.Unknown p budget text =
    (steps : List Step) × IsProgress p budget steps × (text ≡ answer_text (answer.Progress steps)) × IsVerdict p text (verdict.Progress budget)
IsVerdictBy s p budget text = Unit {0}

-- `gen` with `--solve` runs, and the generated input stands for the problem
pub record SolvesGenerated (found : Option Command) (p : Instance) : Type 0 where
  pub kind : GenKind
  pub size : ℕ
  pub seed : ℕ
  pub is : found ≡ Some (command.Gen kind size seed true)
  pub stands : Stands (generated kind size seed) p

-- the summary of a problem, with a result and the text of a verdict
abbrev pub summary_of : Instance → List ℕ → List ℕ → List ℕ
summary_of p result verdict = summary_lines p.vars (length p.clauses) (edges_total p) (length p.atoms) result verdict

-- what `gen` with `--solve` writes with this status. With an answer it is the six lines, with progress the steps too
abbrev pub IsSummaryBy : Status → Instance → List ℕ → Type 0
IsSummaryBy status.Satisfiable p text = text ≡ summary_of p (codes "satisfiable") (codes "accepted model\n")
IsSummaryBy status.Unsatisfiable p text = text ≡ summary_of p (codes "unsatisfiable") (codes "accepted refutation\n")
IsSummaryBy status.Unknown p text =
    (steps : List Step) × IsProgress p DEFAULT_BUDGET steps
    × (text ≡ summary_of p (codes "unknown") (verdict_text (verdict.Progress DEFAULT_BUDGET)) ++ answer_text (answer.Progress steps))
IsSummaryBy s p text = Unit {0}

-- `check` wrote this behind what was there, and FILE is told and stands for the problem
abbrev pub CheckWrote : Option Command → Option Texts → Option (List ℕ) → Option (List ℕ) → Instance → List ℕ → Type 0
CheckWrote found texts before now p written = WroteOver found (λ file answer. command.Check file answer) texts before now p written

-- `check-with` wrote this behind what was there, and FILE is told and stands for the problem
abbrev pub CheckWithWrote : Option Command → Option Texts → Option (List ℕ) → Option (List ℕ) → Instance → List ℤ → List ℕ → Type 0
CheckWithWrote found texts before now p lits written =
    WroteOver found (λ file answer. command.CheckWith file answer lits) texts before now p written

-- `check` runs, FILE is told and stands for the problem, and this is the text that is told of ANSWER
abbrev pub Judges : Option Command → Option Texts → Instance → List ℕ → Type 0
Judges found texts p given = JudgesOver found (λ file answer. command.Check file answer) texts p given

-- `check-with` runs with these assumptions, FILE is told and stands for the problem, and this is the text that is told of ANSWER
abbrev pub JudgesWith : Option Command → Option Texts → Instance → List ℤ → List ℕ → Type 0
JudgesWith found texts p lits given = JudgesOver found (λ file answer. command.CheckWith file answer lits) texts p given

-- the verdict on ANSWER for a problem, its status and its text
pub record IsJudgment (p : Instance) (given : List ℕ) (s : Status) (text : List ℕ) : Type 0 where
  pub judged : Verdict
  pub right : IsVerdict p given judged
  pub with_status : s ≡ verdict_status judged
  pub is : text ≡ verdict_text judged

-- what `check` and `check-with` write with this status: the text of the verdict on ANSWER, whether it is accepted or rejected
abbrev pub IsJudgmentBy : Status → Instance → List ℕ → List ℕ → Type 0
IsJudgmentBy status.Accepted p given text = IsJudgment p given status.Accepted text
IsJudgmentBy status.Rejected p given text = IsJudgment p given status.Rejected text
IsJudgmentBy s p given text = Unit {0}

-- ---- what a command needs

-- the shelf tells its texts and holds that file
abbrev pub IsHeld : Option Texts → List ℕ → ℕ → Type 0
IsHeld texts file limit = IsSome (told_text texts file)

-- the shelf tells its texts and holds that file, which isn't beyond its limit
abbrev pub IsHeldWithin : Option Texts → List ℕ → ℕ → Type 0
IsHeldWithin texts file limit = IsSomeAnd (told_text texts file) (λ text. length text ≤ limit)

-- FILE is read and has no fault, so that the run goes on behind it
abbrev pub HasNoFault : Option Texts → List ℕ → Type 0
HasNoFault texts file = IsSomeAnd (told_text texts file) (λ text. (length text ≤ MAX_INPUT_BYTES) × (first_fault text ≡ None))

-- FILE is read and has no fault, and there is room for the assumptions, so that the run goes on behind it
abbrev pub HasNoFaultWith : Option Texts → List ℕ → List ℤ → Type 0
HasNoFaultWith texts file lits =
    IsSomeAnd (told_text texts file) (λ text. (length text ≤ MAX_INPUT_BYTES) × ((p : Instance) × Stands text p × HasRoom p lits))

-- each file that the command comes to meets the condition, by its limit: ANSWER only where FILE has no fault
abbrev pub EachReached : (List ℕ → ℕ → Type 0) → Option Texts → Command → Type 0
EachReached Holds texts (command.Check file answer) = Holds file MAX_INPUT_BYTES × (HasNoFault texts file → Holds answer MAX_ANSWER_BYTES)
EachReached Holds texts (command.Migrate file answer v) = Holds file MAX_INPUT_BYTES × (HasNoFault texts file → Holds answer MAX_MIGRATED_BYTES)
EachReached Holds texts (command.Print file) = Holds file MAX_INPUT_BYTES
EachReached Holds texts (command.Solve file budget) = Holds file MAX_INPUT_BYTES
EachReached Holds texts (command.Gen k size seed solve) = Unit {0}
EachReached Holds texts (command.Core file lits) = Holds file MAX_INPUT_BYTES
EachReached Holds texts (command.Best file n) = Holds file MAX_INPUT_BYTES
EachReached Holds texts (command.Ask file n b) = Holds file MAX_INPUT_BYTES
EachReached Holds texts (command.CheckWith file answer lits) =
    Holds file MAX_INPUT_BYTES × (HasNoFaultWith texts file lits → Holds answer MAX_ANSWER_BYTES)
EachReached Holds texts (command.Team file workers rounds) = Holds file MAX_INPUT_BYTES

-- how a command ends that is carried out
abbrev pub IsCarriedOut : Command → Status → Type 0
IsCarriedOut (command.Solve file budget) s = (s ≡ status.Satisfiable) ⊎ (s ≡ status.Unsatisfiable) ⊎ (s ≡ status.Unknown) ⊎ (s ≡ status.Refused)
IsCarriedOut (command.Check file answer) s = (s ≡ status.Accepted) ⊎ (s ≡ status.Rejected) ⊎ (s ≡ status.Refused)
IsCarriedOut (command.Migrate file answer v) s = (s ≡ status.Printed) ⊎ (s ≡ status.Rejected) ⊎ (s ≡ status.Refused)
IsCarriedOut (command.Print file) s = (s ≡ status.Printed) ⊎ (s ≡ status.Refused)
IsCarriedOut (command.Gen k size seed false) s = s ≡ status.Printed
IsCarriedOut (command.Gen k size seed true) s = (s ≡ status.Satisfiable) ⊎ (s ≡ status.Unsatisfiable) ⊎ (s ≡ status.Unknown)
IsCarriedOut (command.Core file lits) s = (s ≡ status.Satisfiable) ⊎ (s ≡ status.Unsatisfiable) ⊎ (s ≡ status.Unknown) ⊎ (s ≡ status.Refused)
IsCarriedOut (command.Best file n) s = (s ≡ status.Satisfiable) ⊎ (s ≡ status.Unsatisfiable) ⊎ (s ≡ status.Unknown) ⊎ (s ≡ status.Refused)
IsCarriedOut (command.Ask file n b) s = (s ≡ status.Printed) ⊎ (s ≡ status.Refused)
IsCarriedOut (command.CheckWith file answer lits) s = (s ≡ status.Accepted) ⊎ (s ≡ status.Rejected) ⊎ (s ≡ status.Refused)
IsCarriedOut (command.Team file workers rounds) s =
    (s ≡ status.Satisfiable) ⊎ (s ≡ status.Unsatisfiable) ⊎ (s ≡ status.Unknown) ⊎ (s ≡ status.Refused)

-- ---- two runs

-- an answer is looked for, and which one is found isn't fixed
abbrev pub IsSolving : Option Command → Type 0
IsSolving (Some (command.Solve file budget)) = Unit {0}
IsSolving (Some (command.Gen k size seed true)) = Unit {0}
IsSolving (Some (command.Core file lits)) = Unit {0}
IsSolving (Some (command.Best file n)) = Unit {0}
IsSolving (Some (command.Team file workers rounds)) = Unit {0}
IsSolving found = ⊥

-- two answers don't contradict each other: not one a model and the other a refutation
abbrev pub AreConsistent : Answer → Answer → Type 0
AreConsistent (answer.Model values) (answer.Refutation steps) = ⊥
AreConsistent (answer.Refutation steps) (answer.Model values) = ⊥
AreConsistent a b = Unit {0}

-- what was found twice under assumptions doesn't contradict itself: not a model under all of them and a core
abbrev pub AreConsistentOutcomes : CoreOutcome → CoreOutcome → Type 0
AreConsistentOutcomes (outcome.Model values) (outcome.Core lits steps needs) = ⊥
AreConsistentOutcomes (outcome.Core lits steps needs) (outcome.Model values) = ⊥
AreConsistentOutcomes a b = Unit {0}

-- What was found twice of a bound doesn't contradict itself: two best bounds are one, and otherwise only a spent budget stands beside
-- the other. Which values meet a bound isn't fixed.
abbrev pub AreConsistentBounds : BestOutcome → BestOutcome → Type 0
AreConsistentBounds (bounded.Best b model steps) (bounded.Best c other later) = b ≡ c
AreConsistentBounds (bounded.Best b model steps) (bounded.Never later) = ⊥
AreConsistentBounds (bounded.Best b model steps) (bounded.Beyond other) = ⊥
AreConsistentBounds (bounded.Never steps) (bounded.Best c other later) = ⊥
AreConsistentBounds (bounded.Never steps) (bounded.Beyond other) = ⊥
AreConsistentBounds (bounded.Beyond model) (bounded.Best c other later) = ⊥
AreConsistentBounds (bounded.Beyond model) (bounded.Never later) = ⊥
AreConsistentBounds a b = Unit {0}

-- one ending twice, or two answers that don't contradict each other
abbrev pub AreAlike : Ending → Ending → Type 0
AreAlike (ending.Solved a) (ending.Solved b) = AreConsistent a b
AreAlike (ending.Summed s) (ending.Summed t) = AreConsistent s.answer t.answer
AreAlike (ending.Narrowed a) (ending.Narrowed b) = AreConsistentOutcomes a b
AreAlike (ending.Bounded a) (ending.Bounded b) = AreConsistentBounds a b
AreAlike e e' = e ≡ e'
