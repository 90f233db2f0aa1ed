-- The lines of a model. `before` are the lines before a line and behind the status line, each beside its number.
use Rattle.std.specs.Prelude.{ℕ, ◌-◌, ◌==◌, Bool, false, not, ◌&&◌, ◌||◌, nat_lt, ℤ, pos, if◌then◌else◌, List, [], ◌++◌, length, map, filter, flat_map, find, take, Option, Some, None, option_map}
use Rattle.std.specs.List.{list_any, range_with_len}
use Rattle.std.specs.Ordering.{int_eq}
use Rattle.mono_base.specs.Literal.{has_lit, value_in, first_false}
use Rattle.mono_base.specs.Partial.{is_partial}
use Rattle.mono_problem.specs.Instance.{Instance}
use Rattle.mono_steps.specs.ChainSteps.{names_vars}
use Rattle.mono_answer.specs.declared.item.Item.{Item}
use Rattle.mono_answer.specs.declared.item.Item.TheVariants as says
use Rattle.mono_check.specs.declared.reason.Reason.{Reason}
use Rattle.mono_check.specs.declared.reason.Reason.TheVariants as reason

-- ---- the numbers of one line: literals, and a 0 where they end

abbrev pub is_end : ℤ → Bool
is_end z = int_eq z (pos 0)

abbrev pub literals_among : List ℤ → List ℤ
literals_among zs = filter (λ z. not (is_end z)) zs

abbrev pub has_end : List ℤ → Bool
has_end zs = list_any is_end zs

-- a number stands behind a 0: a 0 stands before the last number
abbrev pub goes_on : List ℤ → Bool
goes_on zs = has_end (take (length zs - 1) zs)

-- ---- lines

abbrev pub lits_in : Option Item → List ℤ
lits_in (Some (says.Values zs)) = literals_among zs
lits_in i = []

abbrev pub ends_in : Option Item → Bool
ends_in (Some (says.Values zs)) = has_end zs
ends_in i = false

-- all literals, and whether the ending 0 was there
abbrev pub literals_in : List (ℕ × Option Item) → List ℤ
literals_in ls = flat_map (λ l. lits_in l.1) ls

abbrev pub has_ended : List (ℕ × Option Item) → Bool
has_ended ls = list_any (λ l. ends_in l.1) ls

-- the line of the ending 0
abbrev pub end_line : List (ℕ × Option Item) → Option ℕ
end_line ls = option_map (λ l. l.0) (find (λ l. ends_in l.1) ls)

-- ---- faults

-- the literals are over the problem's variables, each variable at most once
abbrev pub are_values : Instance → List ℤ → Bool
are_values p lits = names_vars p lits && is_partial lits

-- a number stands behind the ending 0, which was in an earlier line or is in this one
abbrev pub passes_end : Bool → List ℤ → Bool
passes_end ended zs = (ended && not (length zs == 0)) || goes_on zs

-- the fault of a line behind these literals, and maybe behind the ending 0: no number comes behind the ending 0, and there each variable has its literal
abbrev pub value_fault : Instance → List ℤ → Bool → Option Item → Option Reason
value_fault p before ended (Some (says.Values zs)) =
    let lits = before ++ literals_among zs in
    if passes_end ended zs then Some reason.BadLine
    else if not (are_values p lits) || (has_end zs && nat_lt (length lits) p.vars) then Some reason.ModelVariables
    else None
value_fault p before ended i = Some reason.BadLine

abbrev pub model_line_fault : Instance → List (ℕ × Option Item) → Option Item → Option Reason
model_line_fault p before i = value_fault p (literals_in before) (has_ended before) i

-- ---- the model

-- the values of all variables: a variable is true exactly where it is a literal
abbrev pub model_of : Instance → List ℤ → List Bool
model_of p lits = map (λ x. has_lit lits (pos x)) (range_with_len 1 p.vars)

-- the number of the first clause that the values make false
abbrev pub false_clause : Instance → List Bool → Option ℕ
false_clause p values = first_false (value_in values) p.clauses
