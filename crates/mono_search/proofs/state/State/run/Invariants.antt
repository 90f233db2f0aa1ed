use Rattle.std.proofs.Common.{◌≡◌, ◌≤◌, max}
use Rattle.mono_steps.specs.Journals.{chain_count}
use Rattle.mono_search.specs.Restarts.{KeepsCount}
use Rattle.mono_search.specs.Outcomes.{HasMoreSteps}
use Rattle.mono_search.specs.State.{IsReady, work_left}
use Rattle.mono_search.proofs.state.State.run.Given as goal

abbrev pub invariant-loop-outcome : goal.invariant-loop-outcome
invariant-loop-outcome g l = record {
  ready : IsReady l.self;
  problem : l.self.theories.problem ≡ l.fn.self.theories.problem;
  few : chain_count l.self.steps ≤ max l.budget (chain_count l.fn.self.steps);
  no_fewer : chain_count l.fn.self.steps ≤ chain_count l.self.steps;
  keeps : HasMoreSteps l.fn.self.steps l.self.steps;
  counted : KeepsCount (chain_count l.fn.self.steps) (chain_count l.self.steps) l.fn.restarts l.restarts;
}

abbrev pub decreases-loop-outcome : goal.decreases-loop-outcome
decreases-loop-outcome g l = work_left l.budget l.self
