-- What a shelf in memory holds.
use Rattle.std.specs.Prelude.{ℕ, List, [], drop, Option, unwrap_or}
use Rattle.mono_io.specs.FaultPlan.{Plan}
use Rattle.mono_io.specs.Shelf.{Texts, text_named}

-- the texts, what is chosen, the most bytes that a read gives, how often a name was begun, and the calls that fail
pub record ShelfState : Type 0 where
  pub texts : Texts
  pub chosen : List ℕ
  pub place : Option ℕ
  pub most : ℕ
  pub begun : ℕ
  pub plan : Plan

-- what is left to read of the chosen text
abbrev pub left_to_read : ShelfState → List ℕ
left_to_read shelf = drop (unwrap_or shelf.place 0) (unwrap_or (text_named shelf.chosen shelf.texts) [])
