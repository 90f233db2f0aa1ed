-- Literals, clauses and their truth (DIMACS CNF). A literal is a whole number other than 0: x says that the variable x is true, -x that it is false.
use Rattle.std.specs.Prelude.{ℕ, zero, suc, ◌+◌, ◌*◌, ◌<◌, ◌≤◌, nat_le, Bool, false, not, ◌&&◌, ℤ, pos, negsuc, nat_abs, neg_ℤ, List, slice_index_or, filter, Option, option_map, position}
use Rattle.std.specs.Ordering.{int_eq}
use Rattle.std.specs.List.{list_any, list_all}

-- the variable of a literal
abbrev pub var_of : ℤ → ℕ
var_of l = nat_abs l

-- a literal is a whole number other than 0
abbrev pub is_lit : ℤ → Bool
is_lit l = nat_le 1 (var_of l)

-- a literal over the variables from 1 to `vars`
abbrev pub IsLitWithin : ℕ → ℤ → Type 0
IsLitWithin vars l = (0 < nat_abs l) × (nat_abs l ≤ vars)

-- where a table by literals holds what it says of one: at 2x for x, and at 2x + 1 for -x
abbrev pub slot : ℤ → ℕ
slot (pos n) = 2 * n
slot (negsuc n) = 2 * n + 3

-- the truth of a literal, where `a x` is the value of the variable x. 0 is no literal, and never true
abbrev pub lit_true : (ℕ → Bool) → ℤ → Bool
lit_true a (pos zero) = false
lit_true a (pos (suc n)) = a (suc n)
lit_true a (negsuc n) = not (a (suc n))

-- the literal at a place of a list
abbrev pub lit_at : List ℤ → ℕ → ℤ
lit_at c k = slice_index_or c k (pos 0)

-- a clause is true where one of its literals is, so the empty clause never is
abbrev pub clause_true : (ℕ → Bool) → List ℤ → Bool
clause_true a c = list_any (lit_true a) c

abbrev pub all_true : (ℕ → Bool) → List (List ℤ) → Bool
all_true a cs = list_all (clause_true a) cs

-- a clause is read as the set of its literals: the literal is one of them
abbrev pub has_lit : List ℤ → ℤ → Bool
has_lit c l = list_any (int_eq l) c

-- each literal of the first clause is one of the second
abbrev pub within : List ℤ → List ℤ → Bool
within c d = list_all (has_lit d) c

-- the two clauses have the same literals
abbrev pub is_same_set : List ℤ → List ℤ → Bool
is_same_set c d = within c d && within d c

-- the clause has a literal and its negation, so it is always true
abbrev pub has_opposites : List ℤ → Bool
has_opposites c = list_any (λ l. has_lit c (neg_ℤ l)) c

-- the clause without the literal
abbrev pub without : List ℤ → ℤ → List ℤ
without c l = filter (λ m. not (int_eq l m)) c

-- the value of a variable in a list of values, variable 1 first. Beyond the list a variable is false
abbrev pub value_in : List Bool → ℕ → Bool
value_in a zero = false
value_in a (suc n) = slice_index_or a n false

-- the number of the first clause that is false, from 1
abbrev pub first_false : (ℕ → Bool) → List (List ℤ) → Option ℕ
first_false a cs = option_map (λ k. k + 1) (position (λ c. not (clause_true a c)) cs)
