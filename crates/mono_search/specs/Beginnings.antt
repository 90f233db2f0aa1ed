-- What a search begins with.
use Rattle.std.specs.Prelude.{◌≡◌, true, false, replicate}
use Rattle.mono_problem.specs.Instance.{Instance}
use Rattle.mono_trail.specs.TrailView.{IsSoundTrail, no_literals}
use Rattle.mono_search.specs.Runs.{HoldsInputs}
use Rattle.mono_search.specs.declared.inputs.Inputs.{Inputs}

-- no variable has a value, the store holds the problem's clauses, and every variable waits in the order
pub record AreInputsOf (p : Instance) (i : Inputs) : Type 0 where
  pub trail : i.trail ≡ no_literals p.vars
  pub sound : IsSoundTrail i.trail
  pub store : HoldsInputs p i.trail i.store
  pub order : i.order ≡ record { waits = replicate p.vars true; phases = replicate p.vars false }
