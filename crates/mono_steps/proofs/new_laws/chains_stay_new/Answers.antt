use Rattle.mono_steps.proofs.NewSteps.{fresh-lemmas, fresh-chain, fresh-empty, new-front}
use Rattle.mono_steps.proofs.new_laws.chains_stay_new.Goals as goal

pub returns-clause-none : goal.returns-clause-none
returns-clause-none c = λ p. tt

pub returns-clause-lemmas : goal.returns-clause-lemmas
returns-clause-lemmas c = fresh-lemmas

pub returns-clause-chain : goal.returns-clause-chain
returns-clause-chain c = λ p steps d h new. fresh-chain p steps d h (λ full. new)

pub returns-clause-empty : goal.returns-clause-empty
returns-clause-empty c = fresh-empty

pub returns-clause-front : goal.returns-clause-front
returns-clause-front c = λ p steps more h. new-front p.clauses p.clauses steps more h
