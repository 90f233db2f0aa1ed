-- Lemmas that are asked for, in the worked rows.
use Rattle.std.specs.Prelude.{ℕ, pos, [], ◌∷◌}
use Rattle.mono_steps.specs.declared.lemma.Lemma.{Lemma}
use Rattle.mono_steps.specs.declared.lemma.Witness.TheVariants as by
use Rattle.mono_steps.specs.WorkedLemmas.{minus}

-- a lemma of the atom, with the literals -3 and 4
abbrev pub of_atom : ℕ → Lemma
of_atom n = record { atom = n; clause = minus 3 ∷ pos 4 ∷ []; witness = by.Path [] }
