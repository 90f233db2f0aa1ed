-- The steps that a search made: what they add to the clauses, and which of their clauses were learned.
use Rattle.std.specs.Prelude.{◌≡◌, ℕ, Bool, not, ℤ, List, [], ◌∷◌, ◌++◌, length, map}
use Rattle.std.specs.List.{list_all}
use Rattle.mono_problem.specs.Instance.{Instance}
use Rattle.mono_steps.specs.declared.lemma.Lemma.{Lemma}
use Rattle.mono_steps.specs.declared.step.Step.{Step}
use Rattle.mono_steps.specs.declared.step.Step.TheVariants as step
use Rattle.mono_steps.specs.Steps.{is_empty_chain}

-- the clauses of the chains: what was learned
abbrev pub chain_clauses : List Step → List (List ℤ)
chain_clauses [] = []
chain_clauses (step.Lemma l ∷ ss) = chain_clauses ss
chain_clauses (step.Chain c ∷ ss) = c.clause ∷ chain_clauses ss

abbrev pub chain_count : List Step → ℕ
chain_count steps = length (chain_clauses steps)

-- the clauses of the problem and those that were learned: unit propagation goes over these, and not over the clauses of lemmas
abbrev pub known_clauses : Instance → List Step → List (List ℤ)
known_clauses p steps = p.clauses ++ chain_clauses steps

-- no chain has the empty clause
abbrev pub has_no_empty : List Step → Bool
has_no_empty steps = list_all (λ s. not (is_empty_chain s)) steps

-- lemmas as steps
abbrev pub lemma_steps : List Lemma → List Step
lemma_steps ls = map (λ l. step.Lemma l) ls

-- lemmas joined, and nothing else
pub record AddsLemmas (old new : List Step) : Type 0 where
  pub lemmas : List Lemma
  pub pushed : new ≡ old ++ lemma_steps lemmas
