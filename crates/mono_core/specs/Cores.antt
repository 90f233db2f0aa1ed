-- Sets of assumptions under which a problem has no model, made as small as the budget allows.
use Rattle.std.specs.Prelude.{◌≡◌, ◌≢◌, ℕ, suc, ◌-◌, ◌<◌, ◌≤◌, Bool, true, false, ℤ, List, [], ◌∷◌, length, slice_set, slice_index_or, Option, Some, None}
use Rattle.mono_base.specs.Literal.{value_in}
use Rattle.mono_problem.specs.Instance.{Instance}
use Rattle.mono_problem.specs.Holds.{Satisfies}
use Rattle.mono_steps.specs.declared.step.Step.{Step}
use Rattle.mono_steps.specs.Renumbering.{pick}
use Rattle.mono_steps.specs.Needed.{is_set}
use Rattle.mono_search.specs.Outcomes.{HasModel}
use Rattle.mono_problem.specs.Assuming.{assuming}
use Rattle.mono_steps.specs.New.{IsProgress}
use Rattle.mono_steps.specs.Trimmed.{IsTrimRefutation}
use Rattle.mono_core.specs.declared.outcome.Need.{Need}
use Rattle.mono_core.specs.declared.outcome.Need.TheVariants as need
use Rattle.mono_core.specs.declared.outcome.CoreOutcome.{CoreOutcome}
use Rattle.mono_core.specs.declared.outcome.CoreOutcome.TheVariants as outcome

-- ---- needs. A core is told by flags, one for each assumption; j is the place of one that is kept

-- the others were tried, and perhaps more of the assumptions, but not the one at j: the budget was spent
pub record IsTried (p : Instance) (budget : ℕ) (assumed : List ℤ) (kept : List Bool) (j : ℕ) (tried : List ℤ) (steps : List Step) : Type 0 where
  pub flags : List Bool
  pub as_many : length flags ≡ length assumed
  pub is : tried ≡ pick flags assumed
  pub without : is_set flags j ≡ false
  pub others : (i : ℕ) → i ≢ j → is_set kept i ≡ true → is_set flags i ≡ true
  pub progress : IsProgress (assuming p tried) budget steps

-- the core without the one at j
abbrev pub others_of : List ℤ → List Bool → ℕ → List ℤ
others_of assumed kept j = pick (slice_set kept j false) assumed

abbrev pub IsNeed : Instance → ℕ → List ℤ → List Bool → ℕ → Need → Type 0
IsNeed p budget assumed kept j (need.Model values) = HasModel (assuming p (others_of assumed kept j)) values
IsNeed p budget assumed kept j (need.Tried tried steps) = IsTried p budget assumed kept j tried steps

-- one need for each flag that is set, in order; the first flag is that of the place j
abbrev pub AreNeeds : (ℕ → Need → Type 0) → ℕ → List Bool → List Need → Type 0
AreNeeds N j [] [] = Unit {0}
AreNeeds N j [] (n ∷ ns) = ⊥
AreNeeds N j (false ∷ kept) ns = AreNeeds N (suc j) kept ns
AreNeeds N j (true ∷ kept) [] = ⊥
AreNeeds N j (true ∷ kept) (n ∷ ns) = N j n × AreNeeds N (suc j) kept ns

-- ---- cores

-- some of the assumptions, in order, with a refutation under them each of whose steps but the last is named later, and a need for
-- each of them
pub record IsCore (p : Instance) (budget : ℕ) (assumed lits : List ℤ) (steps : List Step) (needs : List Need) : Type 0 where
  pub kept : List Bool
  pub as_many : length kept ≡ length assumed
  pub is : lits ≡ pick kept assumed
  pub refutes : IsTrimRefutation (assuming p lits) steps
  pub needed : AreNeeds (IsNeed p budget assumed kept) 0 kept needs

abbrev pub IsCoreOutcome : Instance → ℕ → List ℤ → CoreOutcome → Type 0
IsCoreOutcome p budget assumed (outcome.Model values) = HasModel (assuming p assumed) values
IsCoreOutcome p budget assumed (outcome.Core lits steps needs) = IsCore p budget assumed lits steps needs
IsCoreOutcome p budget assumed (outcome.Unknown steps) = IsProgress (assuming p assumed) budget steps

-- ---- on the way

-- a refutation under the assumptions whose flag is set
pub record IsRefuted (p : Instance) (assumed : List ℤ) (kept : List Bool) (steps : List Step) : Type 0 where
  pub as_many : length kept ≡ length assumed
  pub refutes : IsTrimRefutation (assuming p (pick kept assumed)) steps

-- each flag that is set is set in the others
pub record AreAmong (kept flags : List Bool) : Type 0 where
  pub as_many : length kept ≡ length flags
  pub each : (i : ℕ) → is_set kept i ≡ true → is_set flags i ≡ true

-- a model with values for all variables, and perhaps for more
pub record IsWideModel (p : Instance) (values : List Bool) : Type 0 where
  pub enough : p.vars ≤ length values
  pub satisfies : Satisfies p (value_in values)

-- what was found of the assumption at j: it isn't kept, or there is a need, perhaps of a core from which more was dropped since
abbrev pub IsFoundAt : Instance → ℕ → List ℤ → List Bool → ℕ → Option Need → Type 0
IsFoundAt p budget assumed kept j None = is_set kept j ≡ false
IsFoundAt p budget assumed kept j (Some (need.Model values)) = IsWideModel (assuming p (others_of assumed kept j)) values
IsFoundAt p budget assumed kept j (Some (need.Tried tried steps)) = IsTried p budget assumed kept j tried steps

-- what was found of the last assumptions, the last one first
pub record AreFound (p : Instance) (budget : ℕ) (assumed : List ℤ) (kept : List Bool) (found : List (Option Need)) : Type 0 where
  pub at : (i : ℕ) (o : Option Need) → i < length found → IsFoundAt p budget assumed kept (length assumed - 1 - i) (slice_index_or found i o)

-- what is left of that where a smaller budget may have been spent, which shows nothing
abbrev pub IsLeftAt : Instance → List ℤ → List Bool → ℕ → Option Need → Type 0
IsLeftAt p assumed kept j None = is_set kept j ≡ false
IsLeftAt p assumed kept j (Some (need.Model values)) = IsWideModel (assuming p (others_of assumed kept j)) values
IsLeftAt p assumed kept j (Some (need.Tried tried steps)) = Unit {0}

-- what is left of that of the first assumptions, the first one first
pub record AreLeft (p : Instance) (assumed : List ℤ) (kept : List Bool) (found : List (Option Need)) : Type 0 where
  pub at : (i : ℕ) (o : Option Need) → i < length found → IsLeftAt p assumed kept i (slice_index_or found i o)
