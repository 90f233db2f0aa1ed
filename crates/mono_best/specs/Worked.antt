-- Small problems for the worked rows, and what is found of them.
use Rattle.std.specs.Prelude.{ℕ, ◌+◌, Bool, true, false, ℤ, pos, List, [], ◌∷◌}
use Rattle.mono_base.specs.declared.limits.TheConstants.{MAX_BOUND}
use Rattle.mono_graph.specs.Worked.{label, pipe}
use Rattle.mono_problem.specs.declared.atom.Atom.{Atom}
use Rattle.mono_problem.specs.declared.atom.Predicate.TheVariants as kind
use Rattle.mono_problem.specs.Instance.{Instance}
use Rattle.mono_steps.specs.declared.lemma.Witness.TheVariants as by
use Rattle.mono_steps.specs.declared.step.Step.{Step}
use Rattle.mono_steps.specs.declared.step.Step.TheVariants as step
use Rattle.mono_steps.specs.WorkedLemmas.{minus, chain}

-- a walk of at most this weight leads from node 0 to node 2
abbrev pub distance_to_2 : ℕ → ℕ → ℤ → Atom
distance_to_2 n x most = record { number = n; graph = 0; var = x; predicate = kind.Distance 0 2 most }

-- over the edges from node 0 over node 1 to node 2, of the weights 3 and 2 and with the variables 1 and 2, and these clauses.
-- Variable 5 stands for a walk of at most 9
abbrev pub weighed : List (List ℤ) → Instance
weighed cs = record { vars = 5; graphs = (0, pipe 3 2) ∷ []; atoms = distance_to_2 1 5 (pos 9) ∷ []; clauses = cs }

-- over edges of the weights 2^53 + 1 and 0, without a clause
abbrev pub heavy : Instance
heavy = record (weighed []) { graphs = (0, pipe (MAX_BOUND + 1) 0) ∷ [] }

-- over these edges, of the weight 2^53 + 1 each, variable 5 stands for a flow of at least 1 from node 0 to node 2
abbrev pub wide : Instance
wide = record (weighed []) {
  graphs = (0, pipe (MAX_BOUND + 1) (MAX_BOUND + 1)) ∷ [];
  atoms = record { number = 1; graph = 0; var = 5; predicate = kind.Flow 0 2 (pos 1) } ∷ [];
}

-- both edges are there, and variable 6 is true
abbrev pub both_there : List Bool
both_there = true ∷ true ∷ false ∷ false ∷ true ∷ true ∷ []

-- both edges are there, and variable 6 is false
abbrev pub new_one_false : List Bool
new_one_false = true ∷ true ∷ false ∷ false ∷ true ∷ false ∷ []

-- the labels 0, 3 and 5 show that no walk from node 0 to node 2 weighs 4 or less
abbrev pub none_of_4 : Step
none_of_4 = step.Lemma (record { atom = 2; clause = minus 6 ∷ []; witness = by.Label (label 0 0 ∷ label 1 3 ∷ label 2 5 ∷ []) })

abbrev pub four_refuted : List Step
four_refuted = none_of_4 ∷ chain [] (2 ∷ 1 ∷ []) ∷ []

-- the lemma twice, of which the chain names the second alone
abbrev pub four_refuted_twice : List Step
four_refuted_twice = none_of_4 ∷ none_of_4 ∷ chain [] (3 ∷ 1 ∷ []) ∷ []

-- without the edge from node 0 no walk leads to node 2
abbrev pub none_without_the_edge : Step
none_without_the_edge = step.Lemma (record { atom = 2; clause = pos 1 ∷ minus 6 ∷ []; witness = by.Label (label 0 0 ∷ []) })

abbrev pub all_refuted : List Step
all_refuted = none_without_the_edge ∷ chain [] (3 ∷ 2 ∷ 1 ∷ []) ∷ []
