-- Partial assignments: lists of literals over different variables, which are taken to be true.
use Rattle.std.specs.Prelude.{ℕ, ◌==◌, Bool, true, false, not, ◌&&◌, ◌||◌, ℤ, neg_ℤ, List, [], ◌∷◌, filter, IsTrue, if◌then◌else◌}
use Rattle.std.specs.Ordering.{int_eq}
use Rattle.std.specs.List.{list_any, list_all}
use Rattle.mono_base.specs.declared.value.Value.{Value}
use Rattle.mono_base.specs.declared.value.Value.TheVariants.{Yes, No, Unset}
use Rattle.mono_base.specs.Literal.{var_of, is_lit, has_lit, lit_true, without}

-- some literal of the list is over the variable
abbrev pub has_var : List ℤ → ℕ → Bool
has_var t x = list_any (λ l. var_of l == x) t

-- the list is a partial assignment: literals over different variables
abbrev pub is_partial : List ℤ → Bool
is_partial [] = true
is_partial (l ∷ t) = is_lit l && not (has_var t (var_of l)) && is_partial t

-- the literal is true, false, or open
abbrev pub is_true_in : List ℤ → ℤ → Bool
is_true_in t l = has_lit t l

abbrev pub is_false_in : List ℤ → ℤ → Bool
is_false_in t l = has_lit t (neg_ℤ l)

abbrev pub is_open_in : List ℤ → ℤ → Bool
is_open_in t l = not (is_true_in t l) && not (is_false_in t l)

-- the value of a literal
abbrev pub value_by : List ℤ → ℤ → Value
value_by t l = if is_true_in t l then Yes else if is_false_in t l then No else Unset

-- the clause has no literal that isn't false
abbrev pub is_false_clause : List ℤ → List ℤ → Bool
is_false_clause t c = list_all (is_false_in t) c

-- every literal of the clause but l is false
abbrev pub others_false : List ℤ → List ℤ → ℤ → Bool
others_false t c l = is_false_clause t (without c l)

-- the assignment makes each literal of the partial one true
abbrev pub extends : (ℕ → Bool) → List ℤ → Bool
extends a t = list_all (lit_true a) t

abbrev pub Extends : (ℕ → Bool) → List ℤ → Type 0
Extends a t = IsTrue (extends a t)

-- two literals of the list differ
abbrev pub has_two : List ℤ → Bool
has_two [] = false
has_two (l ∷ ls) = list_any (λ m. not (int_eq l m)) ls

-- unit propagation has nothing to do for the clause: it has a true literal, or at least two different open ones
abbrev pub is_quiet : List ℤ → List ℤ → Bool
is_quiet t c = list_any (is_true_in t) c || has_two (filter (is_open_in t) c)

abbrev pub unit_quiet : List (List ℤ) → List ℤ → Bool
unit_quiet clauses t = list_all (is_quiet t) clauses

-- no literal of the clauses is open
abbrev pub has_no_open : List ℤ → List (List ℤ) → Bool
has_no_open t clauses = list_all (λ c. list_all (λ l. not (is_open_in t l)) c) clauses

abbrev pub HasNoOpen : List ℤ → List (List ℤ) → Type 0
HasNoOpen t clauses = IsTrue (has_no_open t clauses)
