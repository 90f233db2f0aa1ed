-- Where atoms stand in a list.
use Rattle.std.specs.Prelude.{ℕ, ◌==◌, List}
use Rattle.std.specs.List.{position_or_len}
use Rattle.mono_problem.specs.declared.atom.Atom.{Atom}

-- the place of the atom with this number, or how many atoms there are where none has it
abbrev pub place_of_atom : List Atom → ℕ → ℕ
place_of_atom atoms n = position_or_len (λ x. x.number == n) atoms
