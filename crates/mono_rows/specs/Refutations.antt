-- Refutations of a barred walk for the worked rows. Both lemmas have the literals -1 and 3: the clause of the second one is
-- turned round.
use Rattle.std.specs.Prelude.{pos, List, [], ◌∷◌}
use Rattle.mono_steps.specs.declared.lemma.Witness.TheVariants as by
use Rattle.mono_steps.specs.declared.step.Step.{Step}
use Rattle.mono_steps.specs.declared.step.Step.TheVariants as step
use Rattle.mono_steps.specs.WorkedLemmas.{minus, of_1, edge_1_reaches, chain}

abbrev pub turned_lemma : Step
turned_lemma = step.Lemma (of_1 (pos 3 ∷ minus 1 ∷ []) (by.Path (1 ∷ [])))

-- both lemmas, and a chain that names the first one alone
abbrev pub with_unnamed_lemma : List Step
with_unnamed_lemma = edge_1_reaches ∷ turned_lemma ∷ chain [] (3 ∷ 1 ∷ 2 ∷ []) ∷ []

-- the second one, and a chain that names it
abbrev pub with_turned_lemma : List Step
with_turned_lemma = turned_lemma ∷ chain [] (3 ∷ 1 ∷ 2 ∷ []) ∷ []
