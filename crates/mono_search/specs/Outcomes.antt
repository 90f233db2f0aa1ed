-- How a run of a search ends.
use Rattle.std.specs.Prelude.{◌≡◌, ℕ, ◌++◌, ◌^◌, ◌<◌, Bool, true, false, max, List, length, Option, Some, None, Result, Ok, Err, IsTrue}
use Rattle.mono_base.specs.Literal.{value_in}
use Rattle.mono_problem.specs.Instance.{Instance}
use Rattle.mono_problem.specs.Holds.{Satisfies}
use Rattle.mono_steps.specs.declared.step.Step.{Step}
use Rattle.mono_steps.specs.Steps.{is_refutation}
use Rattle.mono_steps.specs.Journals.{chain_count}
use Rattle.mono_steps.specs.New.{AreNew}
use Rattle.mono_search.specs.declared.search.Outcome.{Outcome}
use Rattle.mono_search.specs.declared.search.Outcome.TheVariants as outcome

-- a value for each variable, by which the problem is satisfied
pub record HasModel (p : Instance) (model : List Bool) : Type 0 where
  pub len : length model ≡ p.vars
  pub satisfies : Satisfies p (value_in model)

-- as many clauses were learned as the budget says, or as there were before where these were more. All are new, and the budget is
-- below 3 to the number of variables: there are fewer such clauses than that
pub record IsSpent (budget before : ℕ) (p : Instance) (steps : List Step) : Type 0 where
  pub chains : chain_count steps ≡ max budget before
  pub new : AreNew p steps
  pub few : budget < 3 ^ p.vars

-- how a run ends: with a model, a refutation, or when the budget was spent. `before` clauses were learned when it began
abbrev pub EndsAs : ℕ → ℕ → Instance → List Step → Outcome → Type 0
EndsAs budget before p steps (outcome.Sat model) = HasModel p model
EndsAs budget before p steps outcome.Unsat = IsTrue (is_refutation p steps)
EndsAs budget before p steps outcome.Unknown = IsSpent budget before p steps

-- the steps from before stay, and what joined stands behind them
pub record HasMoreSteps (old new : List Step) : Type 0 where
  pub more : List Step
  pub joined : new ≡ old ++ more

-- how many chains with the empty clause a run adds: the last step of a refutation
abbrev pub empty_chains : Outcome → ℕ
empty_chains (outcome.Sat model) = 0
empty_chains outcome.Unsat = 1
empty_chains outcome.Unknown = 0

-- how many chains beyond its budget a run may leave
abbrev pub beyond_budget : {E : Type 0} → Result Outcome E → ℕ
beyond_budget (Ok o) = empty_chains o
beyond_budget (Err e) = 0

abbrev pub is_unknown : Outcome → Bool
is_unknown (outcome.Sat model) = false
is_unknown outcome.Unsat = false
is_unknown outcome.Unknown = true

-- the run goes on where it has no outcome yet, and may go on after Unknown
abbrev pub may_go_on : Option Outcome → Bool
may_go_on None = true
may_go_on (Some o) = is_unknown o

-- a search stays live after Unknown alone
abbrev pub stays_live : {E : Type 0} → Result Outcome E → Bool
stays_live (Ok o) = is_unknown o
stays_live (Err e) = false
