-- Steps: what justifies them, what is wrong with one, and what makes them a refutation. `earlier` are all clauses before a
-- step, those of the problem and then those of the earlier steps; they are numbered from 1.
use Rattle.std.specs.Prelude.{Bool, true, false, not, ◌&&◌, ◌==◌, ℤ, List, [], ◌∷◌, ◌++◌, length, map, Option}
use Rattle.mono_problem.specs.Instance.{Instance}
use Rattle.mono_steps.specs.declared.step.Step.{Step}
use Rattle.mono_steps.specs.declared.step.Step.TheVariants as step
use Rattle.mono_steps.specs.declared.fault.StepFault.{StepFault}
use Rattle.mono_steps.specs.ChainSteps.{is_justified_chain, chain_fault}
use Rattle.mono_steps.specs.Witnesses.{justifies, lemma_fault, is_small}

abbrev pub clause_of : Step → List ℤ
clause_of (step.Lemma l) = l.clause
clause_of (step.Chain c) = c.clause

-- the clauses of the problem, and then those of the steps
abbrev pub clauses_after : Instance → List Step → List (List ℤ)
clauses_after p steps = p.clauses ++ map clause_of steps

-- the labels and amounts of a lemma are at most 2^60
abbrev pub is_small_step : Step → Bool
is_small_step (step.Lemma l) = is_small l.witness
is_small_step (step.Chain c) = true

-- ---- justified steps

abbrev pub is_justified_step : Instance → List (List ℤ) → Step → Bool
is_justified_step p earlier (step.Lemma l) = justifies p l
is_justified_step p earlier (step.Chain c) = is_justified_chain p earlier c

-- each step is justified after the clauses and the steps before it
abbrev pub are_justified_after : Instance → List (List ℤ) → List Step → Bool
are_justified_after p earlier [] = true
are_justified_after p earlier (s ∷ ss) = is_justified_step p earlier s && are_justified_after p (earlier ++ clause_of s ∷ []) ss

abbrev pub are_justified : Instance → List Step → Bool
are_justified p steps = are_justified_after p p.clauses steps

-- ---- refutations

-- the step is a chain, with the empty clause or with another one
abbrev pub is_empty_chain : Step → Bool
is_empty_chain (step.Lemma l) = false
is_empty_chain (step.Chain c) = length c.clause == 0

abbrev pub is_full_chain : Step → Bool
is_full_chain (step.Lemma l) = false
is_full_chain (step.Chain c) = not (length c.clause == 0)

abbrev pub ends_empty : List Step → Bool
ends_empty [] = false
ends_empty (s ∷ []) = is_empty_chain s
ends_empty (s ∷ t ∷ ss) = ends_empty (t ∷ ss)

-- justified steps whose last is a chain with the empty clause
abbrev pub is_refutation : Instance → List Step → Bool
is_refutation p steps = are_justified p steps && ends_empty steps

-- ---- the first fault

abbrev pub step_fault : Instance → List (List ℤ) → Step → Option StepFault
step_fault p earlier (step.Lemma l) = lemma_fault p l
step_fault p earlier (step.Chain c) = chain_fault p earlier c
