-- What unit propagation gives.
use Rattle.std.specs.Prelude.{Bool, true, ◌&&◌, ◌||◌, ℤ, List, [], ◌∷◌}
use Rattle.std.specs.List.{list_any}
use Rattle.mono_base.specs.Literal.{has_lit}
use Rattle.mono_base.specs.Partial.{is_false_clause, others_false}

-- some clause is unit, with this literal: it has the literal, and its other literals are false
abbrev pub is_unit_with : List ℤ → List (List ℤ) → ℤ → Bool
is_unit_with t clauses l = list_any (λ c. has_lit c l && others_false t c l) clauses

-- the literals come by unit propagation, the last one first: each is among those assumed, or a clause was unit with it
abbrev pub is_propagated : List (List ℤ) → List ℤ → List ℤ → Bool
is_propagated clauses assumed [] = true
is_propagated clauses assumed (l ∷ t) = (has_lit assumed l || is_unit_with t clauses l) && is_propagated clauses assumed t

-- some clause is false
abbrev pub has_false : List (List ℤ) → List ℤ → Bool
has_false clauses t = list_any (is_false_clause t) clauses
