-- The command that a list of words is. Each word is the list of its bytes.
use Rattle.std.specs.Prelude.{◌≡◌, ℕ, ◌+◌, ◌-◌, ◌^◌, ◌≤◌, Bool, true, false, not, ◌&&◌, ◌==◌, nat_lt, nat_le, if◌then◌else◌, ℤ, nat_abs, List, [], ◌∷◌, length, Option, Some, None, option_map, option_and_then, Result, IfOk, IfSome, OnErr, IsSome, codes, bytes_eq, All}
use Rattle.std.specs.Result.{result_ok}
use Rattle.mono_base.specs.declared.limits.TheConstants.{MAX_ATOMS, MAX_BOUND, MAX_VARS}
use Rattle.mono_base.specs.Literal.{IsLitWithin}
use Rattle.mono_text.specs.Numbers.{natural, signed, signed_within, within}
use Rattle.mono_answer.specs.declared.version.Version.{Version}
use Rattle.mono_answer.specs.declared.version.Version.TheVariants as version
use Rattle.mono_gen.specs.declared.kind.GenKind.{GenKind}
use Rattle.mono_gen.specs.declared.kind.GenKind.TheVariants as kind
use Rattle.mono_words.specs.declared.command.Command.{Command}
use Rattle.mono_words.specs.declared.command.Command.TheVariants as command
use Rattle.mono_words.specs.declared.command.TheConstants.{DEFAULT_BUDGET, MAX_ASSUMPTIONS, MAX_WORKERS, MAX_ROUNDS}

-- a file's name is a nonempty word that doesn't begin with `-`
abbrev pub is_file_name : List ℕ → Bool
is_file_name [] = false
is_file_name (b ∷ bs) = not (b == 45)

-- a natural from 1 to the limit
abbrev pub from_one : ℕ → List ℕ → Option ℕ
from_one most word = option_and_then (λ n. if n == 0 then None else Some n) (result_ok (within most (natural word)))

-- a budget is a natural from 1 to 2^64 - 1
abbrev pub budget_of : List ℕ → Option ℕ
budget_of word = from_one (2 ^ 64 - 1) word

-- a word that names a file, and the file
abbrev pub file_command : List ℕ → List ℕ → Option Command
file_command verb file =
    if bytes_eq verb (codes "solve") then Some (command.Solve file DEFAULT_BUDGET)
    else if bytes_eq verb (codes "print") then Some (command.Print file)
    else None

abbrev pub budgeted_command : List ℕ → List ℕ → List ℕ → List ℕ → Option Command
budgeted_command verb file option number =
    if bytes_eq verb (codes "solve") && (is_file_name file && bytes_eq option (codes "--conflicts"))
    then option_map (λ n. command.Solve file n) (budget_of number) else None

-- the version that a word names: the word is exactly `1` or `2`
abbrev pub version_of : List ℕ → Option Version
version_of word =
    if bytes_eq word (codes "1") then Some version.One
    else if bytes_eq word (codes "2") then Some version.Two
    else None

abbrev pub migrate_command : List ℕ → List ℕ → List ℕ → Option Command
migrate_command file answer word =
    if is_file_name file && is_file_name answer then option_map (λ v. command.Migrate file answer v) (version_of word) else None

-- ---- generated inputs

abbrev pub kind_of : List ℕ → Option GenKind
kind_of word =
    if bytes_eq word (codes "grid") then Some kind.Grid
    else if bytes_eq word (codes "wall") then Some kind.Wall
    else None

-- a size is a natural from 2 to 100
abbrev pub size_of : List ℕ → Option ℕ
size_of word = option_and_then (λ n. if nat_lt n 2 then None else Some n) (result_ok (within 100 (natural word)))

-- a seed is a natural up to 2^64 - 1
abbrev pub seed_of : List ℕ → Option ℕ
seed_of word = result_ok (within (2 ^ 64 - 1) (natural word))

-- the command of what the words behind `gen` are, and of whether the input is solved
abbrev pub gen_command : Option GenKind → Option ℕ → Option ℕ → Bool → Option Command
gen_command None n seed solve = None
gen_command (Some k) None seed solve = None
gen_command (Some k) (Some n) None solve = None
gen_command (Some k) (Some n) (Some seed) solve = Some (command.Gen k n seed solve)

-- `check FILE ANSWER`
abbrev pub check_command : List ℕ → List ℕ → List ℕ → Option Command
check_command verb file answer =
    if bytes_eq verb (codes "check") && (is_file_name file && is_file_name answer) then Some (command.Check file answer) else None

-- ---- bounds

-- the number of a predicate is a natural from 1 to 100,000
abbrev pub atom_of : List ℕ → Option ℕ
atom_of word = from_one MAX_ATOMS word

-- a bound is a signed number of a magnitude up to 2^53 + 1
abbrev pub bound_of : List ℕ → Option ℤ
bound_of word = result_ok (signed_within (MAX_BOUND + 1) (signed word))

abbrev pub best_command : List ℕ → List ℕ → Option Command
best_command file atom = if is_file_name file then option_map (λ n. command.Best file n) (atom_of atom) else None

abbrev pub ask_command : List ℕ → List ℕ → List ℕ → Option Command
ask_command file atom bound =
    if is_file_name file then option_and_then (λ n. option_map (λ b. command.Ask file n b) (bound_of bound)) (atom_of atom) else None

-- ---- assumptions

-- a literal is a signed number other than 0 of a magnitude up to 1,000,000
abbrev pub lit_of : List ℕ → Option ℤ
lit_of word = option_and_then (λ l. if nat_abs l == 0 then None else Some l) (result_ok (signed_within MAX_VARS (signed word)))

-- the literals of all words, where each is one
abbrev pub lits_of : List (List ℕ) → Option (List ℤ)
lits_of [] = Some []
lits_of (word ∷ words) = option_and_then (λ l. option_map (λ ls. l ∷ ls) (lits_of words)) (lit_of word)

-- 1 to 1,000 literals
abbrev pub assumptions_of : List (List ℕ) → Option (List ℤ)
assumptions_of words = if nat_le 1 (length words) && nat_le (length words) MAX_ASSUMPTIONS then lits_of words else None

-- the command of the words behind `core`
abbrev pub core_command : List (List ℕ) → Option Command
core_command [] = None
core_command (file ∷ lits) = if is_file_name file then option_map (λ ls. command.Core file ls) (assumptions_of lits) else None

-- the command of the words behind `check-with`
abbrev pub check_with_command : List (List ℕ) → Option Command
check_with_command [] = None
check_with_command (file ∷ []) = None
check_with_command (file ∷ answer ∷ lits) =
    if is_file_name file && is_file_name answer then option_map (λ ls. command.CheckWith file answer ls) (assumptions_of lits) else None

-- ---- workers that search in turn

-- the command of a file and of what the numbers of workers and of rounds are
abbrev pub team_of : List ℕ → Option ℕ → Option ℕ → Option Command
team_of file None rounds = None
team_of file (Some workers) None = None
team_of file (Some workers) (Some rounds) = Some (command.Team file workers rounds)

abbrev pub team_command : List ℕ → List ℕ → List ℕ → Option Command
team_command file workers rounds = if is_file_name file then team_of file (from_one MAX_WORKERS workers) (from_one MAX_ROUNDS rounds) else None

-- ---- the whole

-- `solve FILE`, `solve FILE --conflicts N`, `check FILE ANSWER`, `print FILE`, `gen KIND SIZE SEED`,
-- `gen KIND SIZE SEED --solve`, `migrate FILE ANSWER VERSION`, `best FILE ATOM`, `ask FILE ATOM B`, or `team FILE K R`
abbrev pub short_command : List (List ℕ) → Option Command
short_command [] = None
short_command (verb ∷ []) = None
short_command (verb ∷ file ∷ []) = if is_file_name file then file_command verb file else None
short_command (verb ∷ first ∷ second ∷ []) = if bytes_eq verb (codes "best") then best_command first second else check_command verb first second
short_command (verb ∷ first ∷ second ∷ third ∷ []) =
    if bytes_eq verb (codes "gen") then gen_command (kind_of first) (size_of second) (seed_of third) false
    else if bytes_eq verb (codes "migrate") then migrate_command first second third
    else if bytes_eq verb (codes "ask") then ask_command first second third
    else if bytes_eq verb (codes "team") then team_command first second third
    else budgeted_command verb first second third
short_command (verb ∷ first ∷ second ∷ third ∷ option ∷ []) =
    if bytes_eq verb (codes "gen") && bytes_eq option (codes "--solve") then gen_command (kind_of first) (size_of second) (seed_of third) true else None
short_command (verb ∷ first ∷ second ∷ third ∷ option ∷ word ∷ words) = None

-- one of these, `core FILE LIT..` or `check-with FILE ANSWER LIT..`; other words are no command
abbrev pub command_of : List (List ℕ) → Option Command
command_of [] = None
command_of (verb ∷ words) =
    if bytes_eq verb (codes "core") then core_command words
    else if bytes_eq verb (codes "check-with") then check_with_command words
    else short_command (verb ∷ words)

-- the budget of `solve` is at least 1, the size of `gen` is from 2 to 100, assumptions are literals, and a team has 1 to 8 workers and
-- 1 to 100 rounds
abbrev pub IsWithinRange : Command → Type 0
IsWithinRange (command.Solve file budget) = 1 ≤ budget
IsWithinRange (command.Gen k size seed solve) = (2 ≤ size) × (size ≤ 100)
IsWithinRange (command.Core file lits) = All (IsLitWithin MAX_VARS) lits
IsWithinRange (command.CheckWith file answer lits) = All (IsLitWithin MAX_VARS) lits
IsWithinRange (command.Team file workers rounds) = ((1 ≤ workers) × (workers ≤ MAX_WORKERS)) × ((1 ≤ rounds) × (rounds ≤ MAX_ROUNDS))
IsWithinRange c = Unit {0}

-- the files that the words name, in the order in which they are read
abbrev pub files_of : Option Command → List (List ℕ)
files_of None = []
files_of (Some (command.Solve file budget)) = file ∷ []
files_of (Some (command.Check file answer)) = file ∷ answer ∷ []
files_of (Some (command.Migrate file answer v)) = file ∷ answer ∷ []
files_of (Some (command.Print file)) = file ∷ []
files_of (Some (command.Gen k size seed solve)) = []
files_of (Some (command.Core file lits)) = file ∷ []
files_of (Some (command.CheckWith file answer lits)) = file ∷ answer ∷ []
files_of (Some (command.Best file atom)) = file ∷ []
files_of (Some (command.Ask file atom bound)) = file ∷ []
files_of (Some (command.Team file workers rounds)) = file ∷ []

-- what a call answers of words that are this command, if they are one: the command, whose numbers are within range; or that memory
-- was wanting, where they are one
pub record Tells {E : Type 0} (found : Option Command) (r : Result (Option Command) E) : Type 0 where
  pub form : IfOk r (λ it. it ≡ found)
  pub ranges : IfOk r (λ it. IfSome it IsWithinRange)
  pub memory : OnErr r (IsSome found)
