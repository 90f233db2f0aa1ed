-- What `core` writes.
use Rattle.std.specs.Prelude.{ℕ, ℤ, List, [], ◌∷◌, ◌++◌, flat_map, codes}
use Rattle.mono_text.specs.Text.{spaced}
use Rattle.mono_answer.specs.declared.answer.Answer.TheVariants as answer
use Rattle.mono_answer.specs.Printed.{numbers_text, with_zero, literals_from, answer_lines, answer_text}
use Rattle.mono_core.specs.declared.outcome.Need.{Need}
use Rattle.mono_core.specs.declared.outcome.Need.TheVariants as need
use Rattle.mono_core.specs.declared.outcome.CoreOutcome.{CoreOutcome}
use Rattle.mono_core.specs.declared.outcome.CoreOutcome.TheVariants as outcome

-- a line that `check-with` skips
abbrev pub note : List (List ℕ) → List ℕ
note tokens = spaced (codes "c" ∷ tokens)

abbrev pub core_line : List ℤ → List ℕ
core_line lits = note (codes "core" ∷ numbers_text (with_zero lits))

-- the need of the assumption l: a model without it, or what was tried, and the progress that was made
abbrev pub need_text : ℤ → Need → List ℕ
need_text l (need.Model values) = note (codes "needed" ∷ numbers_text (l ∷ with_zero (literals_from 1 values)))
need_text l (need.Tried tried steps) = note (codes "open" ∷ numbers_text (l ∷ with_zero tried)) ++ flat_map note (answer_lines (answer.Progress steps))

-- one for each assumption of the core, in order
abbrev pub needs_text : List ℤ → List Need → List ℕ
needs_text [] ns = []
needs_text (l ∷ ls) [] = []
needs_text (l ∷ ls) (n ∷ ns) = need_text l n ++ needs_text ls ns

abbrev pub outcome_text : CoreOutcome → List ℕ
outcome_text (outcome.Model values) = answer_text (answer.Model values)
outcome_text (outcome.Core lits steps needs) = core_line lits ++ needs_text lits needs ++ answer_text (answer.Refutation steps)
outcome_text (outcome.Unknown steps) = answer_text (answer.Progress steps)
