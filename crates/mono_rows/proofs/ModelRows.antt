-- What the lines of a model's text say, for rows.
use Rattle.std.proofs.Common.{◌≡◌, ℕ, Bool, true, false, List, [], ◌∷◌, ◌++◌, length, map, flat_map, Option, Some, refl, sym, ap, ◌∙◌, ℤ, pos}
use Rattle.std.specs.Prelude.{drop}
use Rattle.mono_problem.specs.Instance.{Instance}
use Rattle.mono_answer.specs.declared.item.Item.{Item}
use Rattle.mono_answer.specs.declared.item.Item.TheVariants as item
use Rattle.mono_answer.specs.Items.{items_of}
use Rattle.mono_check.specs.Answers.{SaysModel, values_item}

-- the numbers of lines of values
abbrev pub numbers_in : List (Option Item) → List ℤ
numbers_in [] = []
numbers_in (Some (item.Values zs) ∷ ls) = zs ++ numbers_in ls
numbers_in (i ∷ ls) = numbers_in ls

-- all lines are lines of values
abbrev pub all_values : List (Option Item) → Bool
all_values [] = true
all_values (Some (item.Values zs) ∷ ls) = all_values ls
all_values (i ∷ ls) = false

numbers_of_rows : (rows : List (List ℤ)) → numbers_in (map values_item rows) ≡ flat_map (λ zs. zs) rows
numbers_of_rows [] = refl
numbers_of_rows (row ∷ rows) = ap (λ (zs : List ℤ). row ++ zs) (numbers_of_rows rows)

rows_are_values : (rows : List (List ℤ)) → all_values (map values_item rows) ≡ true
rows_are_values [] = refl
rows_are_values (row ∷ rows) = rows_are_values rows

-- all but the last number
abbrev pub init : List ℤ → List ℤ
init [] = []
init (z ∷ []) = []
init (z ∷ y ∷ zs) = z ∷ init (y ∷ zs)

init_push : (zs : List ℤ) (y : ℤ) → init (zs ++ y ∷ []) ≡ zs
init_push [] y = refl
init_push (z ∷ []) y = refl
init_push (z ∷ x ∷ zs) y = ap (λ (ys : List ℤ). z ∷ ys) (init_push (x ∷ zs) y)

-- what the lines behind the first one say
abbrev pub behind : List (ℕ × Option Item) → List (Option Item)
behind ls = map (λ l. l.1) (drop 1 ls)

-- the literals are those of the text, without the ending 0
pub lits_said : (p : Instance) (text : List ℕ) (values : List Bool) (h : SaysModel p text values) → h.lits ≡ init (numbers_in (behind (items_of (length p.clauses) text)))
lits_said p text values h =
    let lines : behind (items_of (length p.clauses) text) ≡ map (λ l. l.1) h.lines = ap behind h.behind.1 in
    let numbers = ap numbers_in lines ∙ ap numbers_in h.alone ∙ numbers_of_rows h.rows ∙ h.numbers in
    sym (ap init numbers ∙ init_push h.lits (pos 0))

pub lines_are_values : (p : Instance) (text : List ℕ) (values : List Bool) → SaysModel p text values → all_values (behind (items_of (length p.clauses) text)) ≡ true
lines_are_values p text values h =
    let lines : behind (items_of (length p.clauses) text) ≡ map (λ l. l.1) h.lines = ap behind h.behind.1 in
    ap all_values lines ∙ ap all_values h.alone ∙ rows_are_values h.rows
