use Rattle.std.proofs.Common.{List, ap}
use Rattle.mono_steps.specs.declared.step.Step.{Step}
use Rattle.mono_steps.specs.Journals.{chain_count}
use Rattle.mono_search.specs.Restarts.{CountedAfter}
use Rattle.mono_search.proofs.search.Search.new.Goals as goal

pub invariant_of-result : goal.invariant_of-result
invariant_of-result g c = record {
  journal = c.in_ok-state.ensures.ready.whole.journal.journal;
  ready = λ live. c.in_ok-state.ensures.ready;
  counted = λ live. CountedAfter.at_first (chain_count c.in_ok-state.state.steps) c.new-2.result (ap (λ (s : List Step). chain_count s) c.in_ok-state.ensures.steps) c.new-2.ensures;
}
