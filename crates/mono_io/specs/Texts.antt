-- A list of texts by name, read by place.
use Rattle.std.specs.Prelude.{◌≡◌, ◌<◌, ◌≤◌, ℕ, List, [], length, slice_index_or, Option, Some, None}
use Rattle.mono_io.specs.Shelf.{Texts, text_named}

-- the name and the text at a place
abbrev pub entry_at : Texts → ℕ → List ℕ × List ℕ
entry_at texts at = slice_index_or texts at ([], [])

-- the name at a place, if there is one
abbrev pub name_at : Texts → Option ℕ → List ℕ
name_at texts None = []
name_at texts (Some at) = (entry_at texts at).0

-- at this place stands the text of that name
pub record StandsAt (texts : Texts) (name : List ℕ) (at : ℕ) : Type 0 where
  pub within : at < length texts
  pub named : (entry_at texts at).0 ≡ name
  pub text : text_named name texts ≡ Some (entry_at texts at).1

-- The text of that name was added or replaced, and the others stay.
pub record Puts (before now : Texts) (name text : List ℕ) : Type 0 where
  pub put : text_named name now ≡ Some text
  pub others : (other : List ℕ) → (other ≡ name → ⊥) → text_named other now ≡ text_named other before

-- at this place stands the text of its name, which has been read up to there
pub record IsReading (texts : Texts) (at place : ℕ) : Type 0 where
  pub stands : StandsAt texts (entry_at texts at).0 at
  pub within : place ≤ length (entry_at texts at).1
