-- Small searches for the worked rows.
use Rattle.std.specs.Prelude.{ℕ, ℤ, pos, Bool, List, [], ◌∷◌}
use Rattle.mono_graph.specs.Digraph.{Digraph}
use Rattle.mono_problem.specs.declared.atom.Atom.{Atom}
use Rattle.mono_problem.specs.declared.atom.Predicate.TheVariants as kind
use Rattle.mono_problem.specs.Instance.{Instance}
use Rattle.mono_steps.specs.declared.lemma.Witness.TheVariants as by
use Rattle.mono_steps.specs.declared.step.Step.{Step}
use Rattle.mono_steps.specs.declared.step.Step.TheVariants as step
use Rattle.mono_steps.specs.Worked.{clauses_over}
use Rattle.mono_steps.specs.WorkedLemmas.{minus, chain, of_1}
use Rattle.mono_theory.specs.Theories.{Facts}
use Rattle.mono_trail.specs.Order.{OrderView}
use Rattle.mono_search.specs.Restarts.{Counted}

-- so many clauses learned since the last restart, and so many restarts
abbrev pub after : ℕ → ℕ → Counted
after learned restarts = record { learned = learned; restarts = restarts }

-- which variables wait to be decided, and their signs
abbrev pub order : List Bool → List Bool → OrderView
order waits phases = record { waits = waits; phases = phases }

-- {1, 2} and {1, -2}
abbrev pub two_clauses : Instance
two_clauses = clauses_over 2 ((pos 1 ∷ pos 2 ∷ []) ∷ (pos 1 ∷ minus 2 ∷ []) ∷ [])

-- {1} from {1, 2} and {1, -2}
abbrev pub learned_clause : Step
learned_clause = chain (pos 1 ∷ []) (1 ∷ 2 ∷ [])

abbrev pub first_learned : List Step
first_learned = learned_clause ∷ []

-- {1} from both, behind a lemma
abbrev pub learned_behind_a_lemma : List Step
learned_behind_a_lemma = step.Lemma (of_1 (pos 2 ∷ []) (by.Path [])) ∷ first_learned

-- {1} and {-1}
abbrev pub both_signs : Instance
both_signs = clauses_over 1 ((pos 1 ∷ []) ∷ (minus 1 ∷ []) ∷ [])

-- a theory of these atoms over the graph, which has seen these literals
abbrev pub theory : Digraph → List Atom → List ℤ → Facts
theory g atoms seen = record { graph = g; atoms = atoms; seen = seen }

-- an atom with the number 1 that isn't the one of `barred`
abbrev pub another : List Atom
another = record { number = 1; graph = 0; var = 3; predicate = kind.Reach 1 0 } ∷ []
