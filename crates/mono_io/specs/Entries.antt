-- The texts that entries hold.
use Rattle.std.specs.Prelude.{List, map, string_bytes}
use Rattle.mono_io.specs.Shelf.{Texts}
use Rattle.mono_io.specs.declared.text_table.Entry.{Entry}

abbrev pub texts_of : List Entry → Texts
texts_of entries = map (λ entry. (string_bytes entry.name, entry.text.items)) entries
