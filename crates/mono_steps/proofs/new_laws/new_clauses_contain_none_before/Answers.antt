use Rattle.mono_steps.specs.Journals.{chain_clauses}
use Rattle.mono_steps.proofs.NewSteps.{clauses_of_new, none_of_the_problem, pairs_apart, pairs_differ}
use Rattle.mono_steps.proofs.new_laws.new_clauses_contain_none_before.Goals as goal

pub returns-clause-problem : goal.returns-clause-problem
returns-clause-problem c = none_of_the_problem

pub returns-clause-chains : goal.returns-clause-chains
returns-clause-chains c = λ p steps h. pairs_apart p.clauses (chain_clauses steps) (clauses_of_new p steps h)

pub returns-clause-differ : goal.returns-clause-differ
returns-clause-differ c = λ p steps h. pairs_differ p.clauses (chain_clauses steps) (clauses_of_new p steps h)
