-- Shelves for the worked rows.
use Rattle.std.specs.Prelude.{ℕ, true, List, [], ◌∷◌, Option, Some, codes}
use Rattle.mono_io.specs.Shelf.{Texts, ShelfView}

-- two texts, of which the second is named twice
abbrev pub two_texts : Texts
two_texts = (codes "f", codes "ab") ∷ (codes "g", []) ∷ (codes "g", codes "c") ∷ []

-- a steady shelf that tells these texts, with this name chosen
abbrev pub steady_shelf : Texts → List ℕ → Option ℕ → ℕ → ℕ → ShelfView
steady_shelf texts chosen place begun faults = record { texts = Some texts; chosen = chosen; place = place; begun = begun; faults = faults; steady = true }
