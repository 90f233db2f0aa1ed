-- Lists of nodes by label.
use Rattle.std.specs.Prelude.{List, Vec, map}
use Rattle.std.specs.declared.alloc.Global.{Global}

-- what the lists hold
abbrev pub lists_of : {T : Type 0} → List (Vec T Global) → List (List T)
lists_of lists = map (λ list. list.items) lists
