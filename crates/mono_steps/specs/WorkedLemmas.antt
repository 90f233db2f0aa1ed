-- Small problems for the worked lemmas.
use Rattle.std.specs.Prelude.{ℕ, ℤ, pos, neg_ℤ, List, [], ◌∷◌}
use Rattle.mono_graph.specs.Digraph.{Digraph}
use Rattle.mono_graph.specs.Worked.{round_trip}
use Rattle.mono_problem.specs.declared.atom.Predicate.{Predicate}
use Rattle.mono_problem.specs.declared.atom.Predicate.TheVariants as kind
use Rattle.mono_problem.specs.Instance.{Instance}
use Rattle.mono_steps.specs.declared.lemma.Lemma.{Lemma}
use Rattle.mono_steps.specs.declared.lemma.Witness.{Witness}
use Rattle.mono_steps.specs.declared.lemma.Witness.TheVariants as by
use Rattle.mono_steps.specs.declared.step.Step.{Step}
use Rattle.mono_steps.specs.declared.step.Step.TheVariants as step

-- ten variables, one graph, and one predicate over it with the variable x
abbrev pub asks : Digraph → Predicate → ℕ → Instance
asks g q x = record { vars = 10; graphs = (0, g) ∷ []; atoms = record { number = 1; graph = 0; var = x; predicate = q } ∷ []; clauses = [] }

-- a lemma of predicate 1
abbrev pub of_1 : List ℤ → Witness → Lemma
of_1 c w = record { atom = 1; clause = c; witness = w }

-- the literal of a variable that is false
abbrev pub minus : ℕ → ℤ
minus x = neg_ℤ (pos x)

-- edge 1 leads from node 0 to node 1, its variable is true, and the variable of 'node 1 can be reached' is false
abbrev pub barred : Instance
barred = record (asks (round_trip 2 3) (kind.Reach 0 1) 3) { clauses = (pos 1 ∷ []) ∷ (minus 3 ∷ []) ∷ [] }

-- from edge 1 it follows that node 1 can be reached
abbrev pub edge_1_reaches : Step
edge_1_reaches = step.Lemma (of_1 (minus 1 ∷ pos 3 ∷ []) (by.Path (1 ∷ [])))

abbrev pub chain : List ℤ → List ℕ → Step
chain c ns = step.Chain (record { clause = c; used = ns })

-- the lemma twice, and a chain that names the second one alone; the same without the first one
abbrev pub with_two_lemmas : List Step
with_two_lemmas = edge_1_reaches ∷ edge_1_reaches ∷ chain [] (4 ∷ 1 ∷ 2 ∷ []) ∷ []

abbrev pub with_one_lemma : List Step
with_one_lemma = edge_1_reaches ∷ chain [] (3 ∷ 1 ∷ 2 ∷ []) ∷ []
