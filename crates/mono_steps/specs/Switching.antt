-- Edges that come into a part, or leave it, with the literals of a clause.
use Rattle.std.specs.Prelude.{ℕ, ◌==◌, Bool, ℤ, pos, neg_ℤ, if◌then◌else◌, Option, Some, None}
use Rattle.mono_problem.specs.declared.uses.Use.{Use}
use Rattle.mono_problem.specs.declared.uses.Use.TheVariants as use_of

-- the place of an edge of the graph at the place k, where that is what the variable switches
abbrev pub place_in : ℕ → Use → Option ℕ
place_in k (use_of.Edge g e) = if g == k then Some e else None
place_in k (use_of.Atom n) = None

-- the literal that says whether the variable is true
abbrev pub literal_of : Bool → ℕ → ℤ
literal_of sign x = if sign then pos x else neg_ℤ (pos x)
