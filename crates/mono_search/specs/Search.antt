-- A search, as contracts see it, and what it keeps.
use Rattle.std.specs.Prelude.{Bool, List, IsTrue}
use Rattle.mono_problem.specs.Instance.{Instance}
use Rattle.mono_steps.specs.declared.step.Step.{Step}
use Rattle.mono_steps.specs.Journals.{chain_count}
use Rattle.mono_search.specs.Restarts.{Counted, CountedAfter}
use Rattle.mono_search.specs.State.{StateView, IsJournal, IsReady}

-- the problem, the steps of the journal, whether it may be run, and the sign by which each variable is decided next, variable 1 first,
-- unless a theory wants or prefers it to be true
pub record SearchView : Type 0 where
  pub problem : Instance
  pub steps : List Step
  pub live : Bool
  pub signs : List Bool

-- the journal is one, and while the search is live it may go on, and as many clauses were counted as were learned
pub record IsSearch (v : StateView) (c : Counted) (live : Bool) : Type 0 where
  pub journal : IsJournal v.theories.problem v.steps
  pub ready : IsTrue live → IsReady v
  pub counted : IsTrue live → CountedAfter (chain_count v.steps) c
