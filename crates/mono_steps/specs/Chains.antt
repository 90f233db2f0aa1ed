-- Resolution. Clauses are lists of literals, read as sets.
use Rattle.std.specs.Prelude.{ℕ, ◌&&◌, ◌==◌, ℤ, pos, neg_ℤ, if◌then◌else◌, List, [], ◌∷◌, ◌++◌, filter, Option, Some, None, option_map, option_and_then}
use Rattle.std.specs.List.{list_all}
use Rattle.mono_base.specs.Literal.{has_lit, var_of, without}

-- a variable clashes in two clauses where one has it and the other has its negation: the literals of the second clause whose
-- negation is in the first
abbrev pub clashing : List ℤ → List ℤ → List ℤ
clashing c d = filter (λ l. has_lit c (neg_ℤ l)) d

-- the variable of all these literals, where it is exactly one
abbrev pub only_var : List ℤ → Option ℕ
only_var [] = None
only_var (l ∷ ls) = if list_all (λ m. var_of m == var_of l) ls then Some (var_of l) else None

-- what is left of two clauses that clash in x: the first without x and the second without -x, where these are there, or else
-- the other way round
abbrev pub joined_at : List ℤ → List ℤ → ℕ → List ℤ
joined_at c d x =
    if has_lit c (pos x) && has_lit d (neg_ℤ (pos x)) then without c (pos x) ++ without d (neg_ℤ (pos x))
    else without c (neg_ℤ (pos x)) ++ without d (pos x)

-- the resolvent, where exactly one variable clashes
abbrev pub resolvent : List ℤ → List ℤ → Option (List ℤ)
resolvent c d = option_map (joined_at c d) (only_var (clashing c d))

-- the end of a chain that has come to the clause c
abbrev pub end_from : List ℤ → List (List ℤ) → Option (List ℤ)
end_from c [] = Some c
end_from c (d ∷ ds) = option_and_then (λ e. end_from e ds) (resolvent c d)

-- the end of a chain: its first clause, resolved with each next one in turn
abbrev pub chain_end : List (List ℤ) → Option (List ℤ)
chain_end [] = None
chain_end (c ∷ ds) = end_from c ds
