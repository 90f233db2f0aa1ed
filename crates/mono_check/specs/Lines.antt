-- Lines, each judged over those before it.
use Rattle.std.specs.Prelude.{ℕ, List, [], ◌∷◌, ◌++◌, map, Option, None, option_map, unwrap_or}
use Rattle.std.specs.List.{last_or}
use Rattle.std.specs.Option.{option_or}
use Rattle.mono_answer.specs.declared.item.Item.{Item}
use Rattle.mono_check.specs.declared.reason.Reason.{Reason}

-- the first line at fault, where `fault` tells the fault of a line over the lines before it
abbrev pub first_fault : (List (ℕ × Option Item) → Option Item → Option Reason)
    → List (ℕ × Option Item) → List (ℕ × Option Item) → Option (ℕ × Reason)
first_fault fault before [] = None
first_fault fault before ((n, i) ∷ ls) = option_or (option_map (λ r. (n, r)) (fault before i)) (first_fault fault (before ++ (n, i) ∷ []) ls)

-- the number of the last line, if there is one
abbrev pub last_of : List (ℕ × Option Item) → Option ℕ
last_of ls = last_or None (map (λ l. l.0) ls)

-- the number of the last line, or that of the status line, line n
abbrev pub last_line : ℕ → List (ℕ × Option Item) → ℕ
last_line n ls = unwrap_or (last_of ls) n
