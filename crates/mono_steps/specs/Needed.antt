-- Which steps of a refutation are needed, and their new numbers.
use Rattle.std.specs.Prelude.{◌≡◌, ℕ, ◌+◌, ◌-◌, ◌<◌, ◌≤◌, Bool, true, false, List, length, Some, slice_get, slice_index_or, IsTrue, All}
use Rattle.mono_steps.specs.declared.step.Step.{Step}
use Rattle.mono_steps.specs.declared.step.Step.TheVariants as step
use Rattle.mono_steps.specs.Renumbering.{rank, names_step}

abbrev pub is_set : List Bool → ℕ → Bool
is_set needed k = slice_index_or needed k false

-- the step names clauses of the problem, which has c, and n steps at most
abbrev pub StepNamesHeld : ℕ → ℕ → Step → Type 0
StepNamesHeld c n (step.Lemma l) = Unit {0}
StepNamesHeld c n (step.Chain d) = All (λ m. m ≤ c + n) d.used

-- each step names clauses of the problem and steps before it
pub record NamesHeld (c : ℕ) (steps : List Step) : Type 0 where
  pub at : (k : ℕ) (s : Step) → slice_get steps k ≡ Some s → StepNamesHeld c k s

-- a needed step from a place on names the one at place k
pub record IsWanted (c : ℕ) (steps : List Step) (from : ℕ) (needed : List Bool) (k : ℕ) : Type 0 where
  pub later : ℕ
  pub high : from ≤ later
  pub after : k < later
  pub set : is_set needed later ≡ true
  pub step : Step
  pub is : slice_get steps later ≡ Some step
  pub names : IsTrue (names_step c step k)

-- the last step is needed, and what the needed steps from a place on name; each needed step but the last is named by one of these
pub record IsNeeded (c : ℕ) (steps : List Step) (from : ℕ) (needed : List Bool) : Type 0 where
  pub as_many : length needed ≡ length steps
  pub last : is_set needed (length steps - 1) ≡ true
  pub closed : (j k : ℕ) (s : Step) → from ≤ j → is_set needed j ≡ true → slice_get steps j ≡ Some s → IsTrue (names_step c s k)
      → is_set needed k ≡ true
  pub wanted : (k : ℕ) → is_set needed k ≡ true → k + 1 < length steps → IsWanted c steps from needed k

-- the new number of each step
pub record AreNumbers (c : ℕ) (needed : List Bool) (numbers : List ℕ) : Type 0 where
  pub as_many : length numbers ≡ length needed
  pub at : (k : ℕ) → k < length numbers → slice_index_or numbers k 0 ≡ c + 1 + rank needed k
