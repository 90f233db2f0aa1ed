-- Lines of an input.
use Rattle.std.specs.Prelude.{ℕ, ℤ, List, ◌∷◌, map, decimal}
use Rattle.mono_text.specs.Text.{spaced}
use Rattle.mono_gnf.specs.Printed.{clause_line}

-- the line of a word and numbers
abbrev pub line : List ℕ → List ℕ → List ℕ
line word numbers = spaced (word ∷ map decimal numbers)

-- the line of a clause: its literals, and a 0
abbrev pub clause : List ℤ → List ℕ
clause lits = spaced (clause_line lits)
