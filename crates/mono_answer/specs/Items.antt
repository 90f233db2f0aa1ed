-- What the lines of an answer say. A line is the list of its tokens.
use Rattle.std.specs.Prelude.{ℕ, ◌+◌, ◌-◌, ◌^◌, not, ℤ, pos, if◌then◌else◌, List, [], ◌∷◌, map, filter, Option, Some, None, option_map, option_and_then, codes, bytes_eq}
use Rattle.std.specs.Result.{result_ok}
use Rattle.std.specs.Ordering.{int_eq}
use Rattle.mono_base.specs.declared.limits.TheConstants.{MAX_VARS, MAX_WITNESS_VALUE}
use Rattle.mono_text.specs.Text.{lines_of, numbered_from, tokens_of, is_skipped}
use Rattle.mono_text.specs.Numbers.{natural, signed, within, signed_within}
use Rattle.mono_graph.specs.declared.label.Label.{Label}
use Rattle.mono_graph.specs.declared.amount.Amount.{Amount}
use Rattle.mono_steps.specs.declared.lemma.Witness.{Witness}
use Rattle.mono_steps.specs.declared.lemma.Witness.TheVariants as witness
use Rattle.mono_steps.specs.declared.step.Step.TheVariants as step
use Rattle.mono_answer.specs.declared.kind.Kind.{Kind}
use Rattle.mono_answer.specs.declared.kind.Kind.TheVariants as kind
use Rattle.mono_answer.specs.declared.word.Word.{Word}
use Rattle.mono_answer.specs.declared.word.Word.TheVariants as word
use Rattle.mono_answer.specs.declared.item.Item.{Item}
use Rattle.mono_answer.specs.declared.item.Item.TheVariants as item
use Rattle.mono_answer.specs.declared.version.Version.TheVariants as version
use Rattle.mono_answer.specs.Versions.{is_version_two, items_by}

-- ---- numbers, each within its limit

-- a literal, or a 0
abbrev pub literal_or_zero : List ℕ → Option ℤ
literal_or_zero t = result_ok (signed_within MAX_VARS (signed t))

-- the number of a predicate, a node or an edge
abbrev pub name_of : List ℕ → Option ℕ
name_of t = result_ok (within (2 ^ 32 - 1) (natural t))

-- a label or an amount
abbrev pub value_of : List ℕ → Option ℕ
value_of t = result_ok (within MAX_WITNESS_VALUE (natural t))

abbrev pub clause_number_of : List ℕ → Option ℕ
clause_number_of t = result_ok (within (2 ^ 64 - 1) (natural t))

-- ---- lists to the end of the line, or none where a token isn't one of them

abbrev pub onto : {A : Type 0} → A → Option (List A) → Option (List A)
onto x xs = option_map (λ ys. x ∷ ys) xs

abbrev pub values_of : List (List ℕ) → Option (List ℤ)
values_of [] = Some []
values_of (t ∷ ts) = option_and_then (λ z. onto z (values_of ts)) (literal_or_zero t)

abbrev pub names_of : List (List ℕ) → Option (List ℕ)
names_of [] = Some []
names_of (t ∷ ts) = option_and_then (λ n. onto n (names_of ts)) (name_of t)

abbrev pub clause_numbers_of : List (List ℕ) → Option (List ℕ)
clause_numbers_of [] = Some []
clause_numbers_of (t ∷ ts) = option_and_then (λ n. onto n (clause_numbers_of ts)) (clause_number_of t)

-- nodes, each before its label
abbrev pub labels_of : List (List ℕ) → Option (List Label)
labels_of [] = Some []
labels_of (t ∷ []) = None
labels_of (t ∷ u ∷ ts) = option_and_then (λ n. option_and_then (λ x. onto (record { node = n; value = x }) (labels_of ts)) (value_of u)) (name_of t)

-- edges, each before its amount
abbrev pub amounts_of : List (List ℕ) → Option (List Amount)
amounts_of [] = Some []
amounts_of (t ∷ []) = None
amounts_of (t ∷ u ∷ ts) = option_and_then (λ n. option_and_then (λ x. onto (record { edge = n; amount = x }) (amounts_of ts)) (value_of u)) (name_of t)

-- the literals up to the first 0, and the tokens behind it
abbrev pub literals_of : List (List ℕ) → Option (List ℤ × List (List ℕ))
literals_of [] = None
literals_of (t ∷ ts) =
    option_and_then (λ z. if int_eq z (pos 0) then Some ([], ts) else option_map (λ p. (z ∷ p.0, p.1)) (literals_of ts)) (literal_or_zero t)

-- ---- lines, by what stands behind their first token

abbrev pub kind_of : List ℕ → Option Kind
kind_of t =
    if bytes_eq t (codes "SATISFIABLE") then Some kind.Model
    else if bytes_eq t (codes "UNSATISFIABLE") then Some kind.Refutation
    else if bytes_eq t (codes "UNKNOWN") then Some kind.Progress
    else None

-- exactly one token, which names the kind of the answer
abbrev pub status_of : List (List ℕ) → Option Item
status_of [] = None
status_of (t ∷ []) = option_map (λ k. item.Status k) (kind_of t)
status_of (t ∷ u ∷ ts) = None

-- the chain of a clause that uses the clauses of these numbers
abbrev pub chain_item : List ℤ → List ℕ → Item
chain_item c used = item.Step (step.Chain (record { clause = c; used = used }))

-- a clause, and one or more numbers of clauses
abbrev pub chain_of : List (List ℕ) → Option Item
chain_of ts = option_and_then used (literals_of ts)
  where
    used : List ℤ × List (List ℕ) → Option Item
    used (c, []) = None
    used (c, u ∷ us) = option_map (chain_item c) (clause_numbers_of (u ∷ us))

abbrev pub word_of : List ℕ → Option Word
word_of t =
    if bytes_eq t (codes "path") then Some word.Path
    else if bytes_eq t (codes "cut") then Some word.Cut
    else if bytes_eq t (codes "label") then Some word.Label
    else if bytes_eq t (codes "flow") then Some word.Flow
    else if bytes_eq t (codes "flowcut") then Some word.FlowCut
    else if bytes_eq t (codes "tree") then Some word.Tree
    else if bytes_eq t (codes "split") then Some word.Split
    else if bytes_eq t (codes "least") then Some word.Least
    else if bytes_eq t (codes "cycle") then Some word.Cycle
    else if bytes_eq t (codes "order") then Some word.Order
    else None

-- a witness by its word and its list
abbrev pub witness_of : Word → List (List ℕ) → Option Witness
witness_of word.Path ts = option_map witness.Path (names_of ts)
witness_of word.Cut ts = option_map witness.Cut (names_of ts)
witness_of word.Label ts = option_map witness.Label (labels_of ts)
witness_of word.Flow ts = option_map witness.Flow (amounts_of ts)
witness_of word.FlowCut ts = option_map witness.FlowCut (names_of ts)
witness_of word.Tree ts = option_map witness.Tree (names_of ts)
witness_of word.Split ts = option_map witness.Split (names_of ts)
witness_of word.Least ts = option_map witness.Least (names_of ts)
witness_of word.Cycle ts = option_map witness.Cycle (names_of ts)
witness_of word.Order ts = option_map witness.Order (names_of ts)

-- the lemma on the predicate of this number
abbrev pub lemma_item : ℕ → List ℤ → Witness → Item
lemma_item a c x = item.Step (step.Lemma (record { atom = a; clause = c; witness = x }))

-- a predicate's number, a clause and a witness
abbrev pub lemma_of : Word → List (List ℕ) → Option Item
lemma_of w [] = None
lemma_of w (t ∷ ts) =
    option_and_then (λ a. option_and_then (λ p. option_map (lemma_item a p.0) (witness_of w p.1)) (literals_of ts)) (name_of t)

-- what the line says, or none where the grammar has no such line
abbrev pub item_of : List (List ℕ) → Option Item
item_of [] = None
item_of (t ∷ ts) =
    if bytes_eq t (codes "s") then status_of ts
    else if bytes_eq t (codes "v") then option_map item.Values (values_of ts)
    else if bytes_eq t (codes "chain") then chain_of ts
    else option_and_then (λ w. lemma_of w ts) (word_of t)

-- ---- lines

-- the lines that are no blank lines and no comments
abbrev pub spoken : List (ℕ × List ℕ) → List (ℕ × List ℕ)
spoken lines = filter (λ l. not (is_skipped (tokens_of l.1))) lines

-- what each line says, beside its number
abbrev pub said_in : List (ℕ × List ℕ) → List (ℕ × Option Item)
said_in lines = map (λ l. (l.0, item_of (tokens_of l.1))) lines

-- what the lines say that are no blank lines and no comments, each beside its line's number. Chains' numbers are those that are
-- written
abbrev pub items_in : List (ℕ × List ℕ) → List (ℕ × Option Item)
items_in lines = said_in (spoken lines)

-- ---- answers, given by their lines that are no blank lines and no comments. A version line comes first, or there is none

-- the number of the version line, or 1
abbrev pub version_line : List (ℕ × List ℕ) → ℕ
version_line [] = 1
version_line (l ∷ ls) = if is_version_two (tokens_of l.1) then l.0 else 1

-- the items of an answer to a problem of c clauses. The version line is none of them, and behind it a chain's numbers count backwards
abbrev pub answer_said_in : ℕ → List (ℕ × List ℕ) → List (ℕ × Option Item)
answer_said_in c [] = []
answer_said_in c (l ∷ ls) = if is_version_two (tokens_of l.1) then items_by version.Two (c + 1) (said_in ls) else said_in (l ∷ ls)

-- ---- texts

abbrev pub spoken_of : List ℕ → List (ℕ × List ℕ)
spoken_of text = spoken (numbered_from 1 (lines_of text))

-- the line that is named where no status line comes: the version line, or line 1
abbrev pub first_line_of : List ℕ → ℕ
first_line_of text = version_line (spoken_of text)

-- the items of an answer to a problem of c clauses
abbrev pub items_of : ℕ → List ℕ → List (ℕ × Option Item)
items_of c text = answer_said_in c (spoken_of text)
