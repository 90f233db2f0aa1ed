-- Lists of numbers.
use Rattle.std.specs.Prelude.{ℕ, ◌==◌, Bool, List}
use Rattle.std.specs.List.{list_any}

-- the number stands in the list
abbrev pub has : List ℕ → ℕ → Bool
has s u = list_any (λ v. v == u) s
