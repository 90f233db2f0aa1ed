-- What a shelf over files shows.
use Rattle.std.specs.Prelude.{◌≡◌, ◌≤◌, ℕ, false, List, length, drop, Option, Some, IfSome}
use Rattle.mono_io.specs.Shelf.{Texts, ShelfView}

-- The place in the open file, how often a name was begun, which is how often a file was opened, and how often a call failed.
-- Beside it, where the access to the files tells it: what the files give, by their names, the name of the open one and what it
-- will still give; and how often a call of the access was refused.
pub record FileState : Type 0 where
  pub place : Option ℕ
  pub begun : ℕ
  pub faults : ℕ
  pub contents : Option Texts
  pub opened : List ℕ
  pub rest : Option (List ℕ)
  pub refusals : ℕ

-- what it shows as a shelf; it is never steady
abbrev pub shown_by : FileState → ShelfView
shown_by s = record { texts = s.contents; chosen = s.opened; place = s.place; begun = s.begun; faults = s.faults; steady = false }

-- what will still be given is what stands behind the place
pub record StandsBehind (text : List ℕ) (place : ℕ) (rest : Option (List ℕ)) : Type 0 where
  pub within : place ≤ length text
  pub left : rest ≡ Some (drop place text)

-- where the text of the open file is told, and a file is open
abbrev pub IsReadOn : Option (List ℕ) → Option ℕ → Option (List ℕ) → Type 0
IsReadOn told place rest = IfSome told (λ text. IfSome place (λ at. StandsBehind text at rest))
