-- The levels of literals.
use Rattle.std.specs.Prelude.{ℕ, ℤ, List, fold, max, unwrap_or, option_map}
use Rattle.mono_base.specs.Literal.{var_of}
use Rattle.mono_trail.specs.Places.{level_at, place_in}
use Rattle.mono_trail.specs.TrailView.{TrailView}

-- the level of a literal's variable, 0 where it has none
abbrev pub level_by : TrailView → ℤ → ℕ
level_by t l = unwrap_or (option_map (level_at t.marks) (place_in t.lits (var_of l))) 0

-- the greatest level of the literals, or 0
abbrev pub highest_of : TrailView → List ℤ → ℕ
highest_of t c = fold (λ n l. max n (level_by t l)) 0 c
