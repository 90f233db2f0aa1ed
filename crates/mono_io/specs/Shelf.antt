-- Texts by name, what contracts see of a shelf, and what a reader is told of the text that it chose.
use Rattle.std.specs.Prelude.{◌≡◌, ◌<◌, ◌≤◌, ◌+◌, ℕ, Bool, List, [], ◌∷◌, length, take, drop, if◌then◌else◌, bytes_eq, Option, Some, None, option_map, option_and_then, IfSome, IsSomeAnd, IsNone, Result, Ok, Err, IfOk}

-- the texts with their names, as pairs
abbrev pub Texts : Type 0
Texts = List (List ℕ × List ℕ)

-- the first text of that name
abbrev pub text_named : List ℕ → Texts → Option (List ℕ)
text_named name [] = None
text_named name (entry ∷ texts) = if bytes_eq name entry.0 then Some entry.1 else text_named name texts

-- What contracts see of a shelf.
pub record ShelfView : Type 0 where
  -- the texts by name, where the shelf tells them
  pub texts : Option Texts
  -- the name of the chosen text; it means something only where the texts are told
  pub chosen : List ℕ
  -- how many bytes of the chosen text were read, or nothing where no text is chosen
  pub place : Option ℕ
  -- how often a name was begun
  pub begun : ℕ
  -- how often a call failed
  pub faults : ℕ
  -- The shelf tells its texts. A call fails only for a name that it lacks, and a read also where nothing is chosen.
  pub steady : Bool

-- the text of that name, where the texts are told and hold it
abbrev pub told_text : Option Texts → List ℕ → Option (List ℕ)
told_text texts name = option_and_then (text_named name) texts

-- the chosen text, where it is told
abbrev pub chosen_text : ShelfView → Option (List ℕ)
chosen_text shelf = told_text shelf.texts shelf.chosen

-- the texts are told, and none has that name
abbrev pub Lacks : Option Texts → List ℕ → Type 0
Lacks texts name = IsSomeAnd texts (λ entries. IsNone (text_named name entries))

-- how many bytes a call took or gave
abbrev pub moved : {E : Type 0} → Result ℕ E → ℕ
moved (Ok count) = count
moved (Err _) = 0

-- the place, that many bytes on
abbrev pub advanced : ℕ → Option ℕ → Option ℕ
advanced count place = option_map (λ at. at + count) place

-- The first `count` bytes of the buffer are the next ones of the text. There is none only at the end of the text, or for an empty buffer.
pub record GivesNext (text : List ℕ) (place : ℕ) (buffer : List ℕ) (count : ℕ) : Type 0 where
  pub bytes : take count buffer ≡ take count (drop place text)
  pub within : place + count ≤ length text
  pub at_end : count ≡ 0 → 0 < length buffer → place ≡ length text

-- at Ok, where the text is told
abbrev pub ReadsNext : {E : Type 0} → Option (List ℕ) → Option ℕ → List ℕ → Result ℕ E → Type 0
ReadsNext text place buffer result =
    IfOk result (λ count. IfSome text (λ bytes. IfSome place (λ at. GivesNext bytes at buffer count)))
