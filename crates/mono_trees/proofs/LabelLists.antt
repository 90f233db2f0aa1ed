-- Lists by label, after a change at one label.
use Rattle.std.proofs.Common.{◌≡◌, ℕ, ◌<◌, List, [], Vec, length, get_or, set, sym, ap, ◌∙◌}
use Rattle.std.specs.declared.alloc.Global.{Global}
use Rattle.std.proofs.lemmas.List.{map-set, get_or-map}
use Rattle.mono_trees.specs.Lists.{lists_of}

-- one list replaced by another with these items
pub lists_of-set : {T : Type 0} (lists : List (Vec T Global)) (key : ℕ) (list : Vec T Global) (items : List T) → list.items ≡ items → lists_of (set lists key list) ≡ set (lists_of lists) key items
lists_of-set lists key list items is = map-set (λ l. l.items) lists key list ∙ ap (λ its. set (lists_of lists) key its) is

-- the list at a label, as it is read
pub list_at : {T : Type 0} (lists : List (Vec T Global)) (key : ℕ) (list : Vec T Global) → key < length lists → list ≡ get_or lists key list → list.items ≡ get_or (lists_of lists) key []
list_at lists key list lt is = ap (λ l. l.items) is ∙ sym (get_or-map (λ l. l.items) lists key list [] lt)
