-- What asking for lemmas leaves while a conflict is worked on.
use Rattle.std.specs.Prelude.{◌≡◌, ℕ, ◌+◌, ℤ, List, [], ◌∷◌, ◌++◌, length, map, Some, slice_get, IsTrue}
use Rattle.mono_problem.specs.Instance.{Instance}
use Rattle.mono_steps.specs.declared.lemma.Lemma.{Lemma}
use Rattle.mono_steps.specs.declared.step.Chain.{Chain}
use Rattle.mono_steps.specs.declared.step.Step.{Step}
use Rattle.mono_steps.specs.declared.step.Step.TheVariants as step
use Rattle.mono_steps.specs.Steps.{are_justified, clauses_after}
use Rattle.mono_trail.specs.TrailView.{TrailView}
use Rattle.mono_steps.specs.Journals.{lemma_steps}
use Rattle.mono_steps.specs.New.{IsExactEnd}
use Rattle.mono_learn.specs.Settled.{Settles, IsAskedFor}
use Rattle.mono_learn.specs.Learned.{IsLearnt, IsMinimal}

-- lemmas joined the steps, each the reason now of a literal whose reason was late, and nothing else of the trail changed
pub record AsksFor (p : Instance) (t0 : TrailView) (j0 : List Step) (t : TrailView) (j : List Step) : Type 0 where
  pub lemmas : List Lemma
  pub pushed : j ≡ j0 ++ lemma_steps lemmas
  pub settles : Settles (clauses_after p j) t0 t
  pub asked : (i : ℕ) (m : Lemma) → slice_get lemmas i ≡ Some m → IsAskedFor t0 t m (length (clauses_after p j0) + 1 + i)
  pub keeps : IsTrue (are_justified p j0) → IsTrue (are_justified p j)

-- chains joined the steps
pub record AddsChains (old new : List Step) : Type 0 where
  pub chains : List Chain
  pub pushed : new ≡ old ++ map (λ c. step.Chain c) chains

-- one chain joined the steps: the clause is exactly its end, and n is its number
pub record PushesChain (p : Instance) (old new : List Step) (c : List ℤ) (n : ℕ) : Type 0 where
  pub used : List ℕ
  pub pushed : new ≡ old ++ step.Chain (record { clause = c; used = used }) ∷ []
  pub number : n ≡ length (clauses_after p new)
  pub exact : IsExactEnd (clauses_after p old) (record { clause = c; used = used })

-- what is learned: the clause, the chain that it is the end of, and the level to go back to
pub record IsDerived (cs : List (List ℤ)) (t : TrailView) (c : List ℤ) (used : List ℕ) (back_to : ℕ) : Type 0 where
  pub learnt : IsLearnt t c back_to
  pub exact : IsExactEnd cs (record { clause = c; used = used })
  pub minimal : IsMinimal cs t c
