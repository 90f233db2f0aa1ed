-- Where the variables of a list of literals stand, and the levels and reasons by place.
use Rattle.std.specs.Prelude.{ℕ, ◌+◌, ◌==◌, ℤ, List, [], ◌∷◌, Option, Some, None, if◌then◌else◌, slice_index_or, option_map}
use Rattle.mono_base.specs.Literal.{var_of}
use Rattle.mono_trail.specs.declared.reason.Mark.{Mark}
use Rattle.mono_trail.specs.declared.reason.Reason.{Reason}
use Rattle.mono_trail.specs.declared.reason.Reason.TheVariants.{Late}

-- the place of the variable's literal, if it has one
abbrev pub place_in : List ℤ → ℕ → Option ℕ
place_in [] v = None
place_in (l ∷ t) v = if var_of l == v then Some 0 else option_map (λ k. k + 1) (place_in t v)

abbrev pub no_mark : Mark
no_mark = record { level = 0; reason = Late 0 0 }

-- the mark at a place, and what it says
abbrev pub mark_at : List Mark → ℕ → Mark
mark_at ms k = slice_index_or ms k no_mark

abbrev pub level_at : List Mark → ℕ → ℕ
level_at ms k = (mark_at ms k).level

abbrev pub reason_at : List Mark → ℕ → Reason
reason_at ms k = (mark_at ms k).reason
