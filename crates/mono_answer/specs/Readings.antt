-- What reading a line gives.
use Rattle.std.specs.Prelude.{◌≡◌, ℕ, false, List, Option, Some, None, Result, Ok, Err, IsTrue}
use Rattle.mono_text.specs.Text.{is_skipped}
use Rattle.mono_answer.specs.declared.item.Item.{Item}
use Rattle.mono_answer.specs.declared.item.ItemRefusal.{ItemRefusal}
use Rattle.mono_answer.specs.declared.item.ItemRefusal.TheVariants as refusal
use Rattle.mono_answer.specs.Items.{item_of}

-- nothing where the line is blank or a comment, and otherwise what the line says, or that it says nothing of the grammar
abbrev pub IsReading : List (List ℕ) → Result (Option Item) ItemRefusal → Type 0
IsReading line (Ok None) = IsTrue (is_skipped line)
IsReading line (Ok (Some i)) = (is_skipped line ≡ false) × (item_of line ≡ Some i)
IsReading line (Err refusal.BadLine) = (is_skipped line ≡ false) × (item_of line ≡ None)
IsReading line (Err refusal.Memory) = Unit {0}
