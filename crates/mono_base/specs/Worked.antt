-- Assignments, lists of places and orders for the worked rows.
use Rattle.std.specs.Prelude.{ℕ, Bool, true, false, [], ◌∷◌}
use Rattle.mono_base.specs.Literal.{value_in}
use Rattle.mono_base.specs.Ranking.{RankingView}
use Rattle.mono_base.specs.Worklist.{WorklistView}

-- variable 1 is true, 2 is false, 3 is true, and each after them is false
abbrev pub tft : ℕ → Bool
tft = value_in (true ∷ false ∷ true ∷ [])

-- each number is true, even 0
abbrev pub all_on : ℕ → Bool
all_on n = true

-- of the places 0 to 2 those but 1 are listed, and 2 joined first
abbrev pub two_of_three : WorklistView
two_of_three = record { listed = true ∷ false ∷ true ∷ []; places = 2 ∷ 0 ∷ [] }

-- the items 1, 2 and 0 in that order
abbrev pub turned : RankingView
turned = record { items = 1 ∷ 2 ∷ 0 ∷ []; places = 2 ∷ 0 ∷ 1 ∷ [] }
