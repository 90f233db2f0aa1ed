-- What is known of each atom on one side: nothing yet, or that its support is right, or by how many first literals it is shown.
use Rattle.std.specs.Prelude.{◌≡◌, ◌≢◌, ℕ, ◌<◌, ◌≤◌, nat_lt, Bool, true, false, List, length, slice_index_or, All, if◌then◌else◌}
use Rattle.std.specs.List.{count_by}
use Rattle.mono_base.specs.Ranking.{AreInverse, RankingView}
use Rattle.mono_theory.specs.declared.stage.Stage.{Stage}
use Rattle.mono_theory.specs.declared.stage.Stage.TheVariants as stage

-- the stage of an atom
abbrev pub stage_at : List Stage → ℕ → Stage
stage_at stages a = slice_index_or stages a stage.Waits

-- an atom that was shown by one of the literals after the first `kept` waits again
abbrev pub undone : ℕ → Stage → Stage
undone kept stage.Waits = stage.Waits
undone kept stage.Stands = stage.Stands
undone kept (stage.Shows m) = if nat_lt kept m then stage.Waits else stage.Shows m

-- an atom that stands waits again
abbrev pub waiting : Stage → Stage
waiting stage.Waits = stage.Waits
waiting stage.Stands = stage.Waits
waiting (stage.Shows m) = stage.Shows m

-- if it is shown, then by no more than the first m literals
abbrev pub IsUpTo : ℕ → Stage → Type 0
IsUpTo m stage.Waits = Unit {0}
IsUpTo m stage.Stands = Unit {0}
IsUpTo m (stage.Shows n) = n ≤ m

abbrev pub shows : Stage → Bool
shows stage.Waits = false
shows stage.Stands = false
shows (stage.Shows m) = true

abbrev pub waits : Stage → Bool
waits stage.Waits = true
waits stage.Stands = false
waits (stage.Shows m) = false

-- how many atoms wait
abbrev pub waiting_count : List Stage → ℕ
waiting_count stages = count_by waits stages

-- no atom waits
abbrev pub NoneWaits : List Stage → Type 0
NoneWaits stages = All (λ s. s ≢ stage.Waits) stages

-- the stage of the atom at a place
abbrev pub stage_by : List ℕ → List Stage → ℕ → Stage
stage_by items stages k = stage_at stages (slice_index_or items k 0)

-- First come the atoms that show, in the order of their literals, then up to the border those that wait, then those that stand.
pub record AreRuns (items : List ℕ) (stages : List Stage) (shown border : ℕ) : Type 0 where
  pub order : shown ≤ border
  pub within : border ≤ length items
  pub show : (k : ℕ) → k < shown → shows (stage_by items stages k) ≡ true
  pub wait : (k : ℕ) → shown ≤ k → k < border → stage_by items stages k ≡ stage.Waits
  pub stand : (k : ℕ) → border ≤ k → k < length items → stage_by items stages k ≡ stage.Stands
  pub later : (j k m : ℕ) → j ≤ k → k < shown → IsUpTo m (stage_by items stages k) → IsUpTo m (stage_by items stages j)

-- what the fields of a table of stages keep
pub record IsTable (r : RankingView) (stages : List Stage) (shown border : ℕ) : Type 0 where
  pub inverse : AreInverse r.items r.places
  pub as_many : length stages ≡ length r.items
  pub runs : AreRuns r.items stages shown border

-- After an exchange of p and q the atom that was at p has the stage s. At q its stage is s, and at each other place a stage
-- is the one that was there, or at p the one that was at q.
pub record IsChange (items : List ℕ) (stages : List Stage) (moved : List ℕ) (later : List Stage) (p q : ℕ) (s : Stage) : Type 0 where
  pub here : stage_by moved later q ≡ s
  pub first : p ≢ q → stage_by moved later p ≡ stage_by items stages q
  pub others : (k : ℕ) → k < length items → k ≢ p → k ≢ q → stage_by moved later k ≡ stage_by items stages k
