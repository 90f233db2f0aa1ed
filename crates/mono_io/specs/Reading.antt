-- What reading the whole text of a name comes to, by what contracts see of the shelf before and after it.
use Rattle.std.specs.Prelude.{◌≡◌, ◌<◌, ◌≤◌, ◌+◌, ℕ, List, length, take, Some, None, IfSome, IsSomeAnd, IsTrue}
use Rattle.mono_io.specs.Faults.{counted}
use Rattle.mono_io.specs.Shelf.{ShelfView, text_named, chosen_text, Lacks}

-- The name was begun once. The texts stay, and a steady shelf stays steady.
pub record BeginsOnce (old new : ShelfView) : Type 0 where
  pub begun : new.begun ≡ counted old.begun
  pub texts : new.texts ≡ old.texts
  pub steady : IsTrue old.steady → IsTrue new.steady

-- These are the bytes of the text of that name, where the texts are told, and no more than the limit. No call failed.
pub record IsRead (name : List ℕ) (limit : ℕ) (old new : ShelfView) (bytes : List ℕ) : Type 0 where
  pub once : BeginsOnce old new
  pub whole : IfSome old.texts (λ texts. text_named name texts ≡ Some bytes)
  pub within : length bytes ≤ limit
  pub place : new.place ≡ Some (length bytes)
  pub faults : new.faults ≡ old.faults

-- The text has more bytes than the limit: one more was read. No call failed.
pub record IsTooLong (name : List ℕ) (limit : ℕ) (old new : ShelfView) : Type 0 where
  pub once : BeginsOnce old new
  pub longer : IfSome old.texts (λ texts. IsSomeAnd (text_named name texts) (λ text. limit < length text))
  pub place : new.place ≡ Some (limit + 1)
  pub faults : new.faults ≡ old.faults

-- Exactly one call failed: over a steady shelf, since no text has that name, and nothing is chosen then. No byte beyond the limit
-- was read.
pub record IsNotRead (name : List ℕ) (limit : ℕ) (old new : ShelfView) : Type 0 where
  pub once : BeginsOnce old new
  pub lacking : IsTrue old.steady → Lacks old.texts name
  pub nothing : IsTrue old.steady → new.place ≡ None
  pub place : IfSome new.place (λ place. place ≤ limit)
  pub faults : new.faults ≡ counted old.faults

-- The reading was given up, though no call failed. No byte beyond the limit was read.
pub record IsGivenUp (limit : ℕ) (old new : ShelfView) : Type 0 where
  pub once : BeginsOnce old new
  pub place : IfSome new.place (λ place. place ≤ limit)
  pub faults : new.faults ≡ old.faults

-- the text of that name was read whole, and it was taken
pub record IsReadInto (name : List ℕ) (limit : ℕ) (old new : ShelfView) (takes : List ℕ → Type 0) : Type 0 where
  pub text : List ℕ
  pub read : IsRead name limit old new text
  pub taken : takes text

-- ---- on the way

-- the bytes are the first ones of the text
pub record IsFront (bytes text : List ℕ) : Type 0 where
  pub within : length bytes ≤ length text
  pub same : take (length bytes) text ≡ bytes

-- the same text is chosen, and no name was begun
pub record KeepsChoice (old new : ShelfView) : Type 0 where
  pub texts : new.texts ≡ old.texts
  pub chosen : new.chosen ≡ old.chosen
  pub begun : new.begun ≡ old.begun
  pub steady : IsTrue old.steady → IsTrue new.steady

-- so many bytes were taken, those before the shelf's place; where the chosen text is told, they are its front
pub record HasTaken (shelf : ShelfView) (limit count : ℕ) (takes : List ℕ → Type 0) : Type 0 where
  pub bytes : List ℕ
  pub many : length bytes ≡ count
  pub within : count ≤ limit
  pub place : shelf.place ≡ Some count
  pub front : IfSome (chosen_text shelf) (IsFront bytes)
  pub taken : takes bytes

-- all bytes of the chosen text were taken
pub record HasTakenAll (shelf : ShelfView) (limit : ℕ) (takes : List ℕ → Type 0) : Type 0 where
  pub bytes : List ℕ
  pub within : length bytes ≤ limit
  pub place : shelf.place ≡ Some (length bytes)
  pub whole : IfSome (chosen_text shelf) (λ text. bytes ≡ text)
  pub taken : takes bytes
