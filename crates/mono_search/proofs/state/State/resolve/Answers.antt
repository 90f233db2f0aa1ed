use Rattle.std.proofs.Common.{◌≤◌, ◌∙◌, ap, arith}
use Rattle.mono_steps.specs.Journals.{chain_count}
use Rattle.mono_search.proofs.Counting.{counted_none, counted_one}
use Rattle.mono_search.proofs.LearnedClauses.{spent}
use Rattle.mono_search.proofs.MoreSteps.{more_none}
use Rattle.mono_search.proofs.state.State.resolve.Goals as goal

pub returns-then-learned-budget-clause-ends : goal.returns-then-learned-budget-clause-ends
returns-then-learned-budget-clause-ends g c =
    let le : c.args.budget ≤ chain_count c.args.self.now.steps = omega (arith, c.if-learned-budget.true, c.learned.ensures) in
    spent c.args.self.now c.restart.new.self c.args.budget c.args.conflict c.requires c.restart.ensures.ready c.restart.ensures.problem c.restart.ensures.steps le

pub returns-then-learned-budget-clause-counted : goal.returns-then-learned-budget-clause-counted
returns-then-learned-budget-clause-counted g c = λ on. counted_none c.args.self.now.steps c.restart.new.self.steps c.args.restarts.now c.restart.ensures.steps

pub returns-clause-counted : goal.returns-clause-counted
returns-clause-counted g c = λ on. counted_one (chain_count c.args.self.now.steps) (chain_count c.turn.new.self.steps) c.args.restarts.now c.count_clause-anew.new.self c.count_clause-anew.result (ap chain_count c.turn.ensures.steps ∙ c.in_ok-learn.ensures.chains) c.count_clause-anew.ensures

pub returns-clause-back : goal.returns-clause-back
returns-clause-back g c = record { restarts = c.count_clause-anew.result; counts = c.count_clause-anew.ensures; gone = c.learn.new.self; back = c.in_ok-learn.ensures.back; turned = c.turn.ensures.turned }

pub returns-then-learned-budget-clause-keeps : goal.returns-then-learned-budget-clause-keeps
returns-then-learned-budget-clause-keeps g c = more_none c.args.self.now.steps c.restart.new.self.steps c.restart.ensures.steps
