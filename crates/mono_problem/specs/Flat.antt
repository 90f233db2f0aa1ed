-- A list of lists in one flat list: the items one list after the other, and where each list ends.
use Rattle.std.specs.Prelude.{◌≡◌, ℕ, zero, suc, ◌≤◌, List, [], ◌∷◌, slice_range, slice_index}

-- the lists, the first of which begins at a place
abbrev pub lists_from : {A : Type 0} → ℕ → List A → List ℕ → List (List A)
lists_from start items [] = []
lists_from start items (end ∷ ends) = slice_range items start end ∷ lists_from end items ends

-- the ends rise from a place to the number of items
abbrev pub AreEnds : ℕ → List ℕ → ℕ → Type 0
AreEnds start [] len = start ≡ len
AreEnds start (end ∷ ends) len = (start ≤ end) × AreEnds end ends len

-- where the list at a place begins
abbrev pub start_at : ℕ → List ℕ → ℕ → ℕ
start_at start ends zero = start
start_at start ends (suc k) = slice_index ends k
