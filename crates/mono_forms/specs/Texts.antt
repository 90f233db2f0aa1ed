-- The text that a run writes.
use Rattle.std.specs.Prelude.{◌≡◌, ◌≢◌, ℕ, List, Result, IfOk, OnErr, OnOk}
use Rattle.mono_forms.specs.declared.ending.Ending.{Ending}
use Rattle.mono_forms.specs.declared.ending.Ending.TheVariants as ending
use Rattle.mono_forms.specs.Endings.{TakesMemory, text_of}
use Rattle.mono_forms.specs.declared.text.Text.{Text}
use Rattle.mono_forms.specs.declared.text.Text.TheVariants as text

-- its bytes: those of a line without the room behind it
abbrev pub bytes_of : Text → List ℕ
bytes_of (text.Fixed bytes) = bytes.now
bytes_of (text.Line line) = line.bytes
bytes_of (text.Owned bytes) = bytes.items

-- what a call answers of the text that is due: its bytes are those of the ending's text, and memory was wanting only where it takes some.
-- Where the ending is want of memory there is no text
pub record IsTextOf {E : Type 0} (e : Ending) (r : Result Text E) : Type 0 where
  pub ok : IfOk r (λ it. bytes_of it ≡ text_of e)
  pub err : OnErr r (TakesMemory e)
  pub found : OnOk r (e ≢ ending.Memory)
