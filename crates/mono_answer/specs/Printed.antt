-- The text of an answer, and what it says.
use Rattle.std.specs.Prelude.{ℕ, ◌+◌, ◌-◌, ◌^◌, Bool, not, ◌&&◌, ℤ, pos, neg_ℤ, nat_abs, nat_le, if◌then◌else◌, List, [], ◌∷◌, ◌++◌, length, map, flat_map, Option, Some, codes, decimal, ◌==◌}
use Rattle.std.specs.Fmt.{signed_decimal}
use Rattle.std.specs.List.{list_all, enumerate_from}
use Rattle.mono_base.specs.declared.limits.TheConstants.{MAX_VARS, MAX_WITNESS_VALUE}
use Rattle.mono_text.specs.Text.{spaced}
use Rattle.mono_graph.specs.declared.label.Label.{Label}
use Rattle.mono_graph.specs.declared.amount.Amount.{Amount}
use Rattle.mono_steps.specs.declared.lemma.Witness.{Witness}
use Rattle.mono_steps.specs.declared.lemma.Witness.TheVariants as witness
use Rattle.mono_steps.specs.declared.step.Step.{Step}
use Rattle.mono_steps.specs.declared.step.Step.TheVariants as step
use Rattle.mono_answer.specs.declared.kind.Kind.{Kind}
use Rattle.mono_answer.specs.declared.kind.Kind.TheVariants as kind
use Rattle.mono_answer.specs.declared.word.Word.{Word}
use Rattle.mono_answer.specs.declared.word.Word.TheVariants as word
use Rattle.mono_answer.specs.declared.item.Item.{Item}
use Rattle.mono_answer.specs.declared.item.Item.TheVariants as item
use Rattle.mono_answer.specs.declared.answer.Answer.{Answer}
use Rattle.mono_answer.specs.declared.answer.Answer.TheVariants as answer
use Rattle.mono_answer.specs.declared.version.Version.{Version}
use Rattle.mono_answer.specs.declared.version.Version.TheVariants as version
use Rattle.mono_answer.specs.Versions.{turned_answer, answer_names_earlier}

-- ---- the lines, as lists of tokens

abbrev pub kind_text : Kind → List ℕ
kind_text kind.Model = codes "SATISFIABLE"
kind_text kind.Refutation = codes "UNSATISFIABLE"
kind_text kind.Progress = codes "UNKNOWN"

abbrev pub status_line : Kind → List (List ℕ)
status_line k = codes "s" ∷ kind_text k ∷ []

-- the literal of the variable n that is true where it has the value
abbrev pub literal_of : ℕ → Bool → ℤ
literal_of n b = if b then pos n else neg_ℤ (pos n)

-- the literals that the values of the variables from n on make true
abbrev pub literals_from : ℕ → List Bool → List ℤ
literals_from n [] = []
literals_from n (b ∷ bs) = literal_of n b ∷ literals_from (n + 1) bs

-- numbers, and the ending 0
abbrev pub with_zero : List ℤ → List ℤ
with_zero c = c ++ pos 0 ∷ []

abbrev pub numbers_text : List ℤ → List (List ℕ)
numbers_text c = map signed_decimal c

abbrev pub values_line : List Bool → List (List ℕ)
values_line values = codes "v" ∷ numbers_text (with_zero (literals_from 1 values))

abbrev pub word_for : Witness → Word
word_for (witness.Path ks) = word.Path
word_for (witness.Cut s) = word.Cut
word_for (witness.Label ls) = word.Label
word_for (witness.Flow fs) = word.Flow
word_for (witness.FlowCut s) = word.FlowCut
word_for (witness.Tree ks) = word.Tree
word_for (witness.Split s) = word.Split
word_for (witness.Least ks) = word.Least
word_for (witness.Cycle ks) = word.Cycle
word_for (witness.Order us) = word.Order

abbrev pub word_text : Word → List ℕ
word_text word.Path = codes "path"
word_text word.Cut = codes "cut"
word_text word.Label = codes "label"
word_text word.Flow = codes "flow"
word_text word.FlowCut = codes "flowcut"
word_text word.Tree = codes "tree"
word_text word.Split = codes "split"
word_text word.Least = codes "least"
word_text word.Cycle = codes "cycle"
word_text word.Order = codes "order"

-- each node before its label
abbrev pub labels_text : List Label → List (List ℕ)
labels_text [] = []
labels_text (l ∷ ls) = decimal l.node ∷ decimal l.value ∷ labels_text ls

-- each edge before its amount
abbrev pub amounts_text : List Amount → List (List ℕ)
amounts_text [] = []
amounts_text (f ∷ fs) = decimal f.edge ∷ decimal f.amount ∷ amounts_text fs

abbrev pub witness_text : Witness → List (List ℕ)
witness_text (witness.Path ks) = map decimal ks
witness_text (witness.Cut s) = map decimal s
witness_text (witness.Label ls) = labels_text ls
witness_text (witness.Flow fs) = amounts_text fs
witness_text (witness.FlowCut s) = map decimal s
witness_text (witness.Tree ks) = map decimal ks
witness_text (witness.Split s) = map decimal s
witness_text (witness.Least ks) = map decimal ks
witness_text (witness.Cycle ks) = map decimal ks
witness_text (witness.Order us) = map decimal us

-- literals and lists stand in the order in which they are held
abbrev pub step_line : Step → List (List ℕ)
step_line (step.Lemma l) = word_text (word_for l.witness) ∷ decimal l.atom ∷ (numbers_text (with_zero l.clause) ++ witness_text l.witness)
step_line (step.Chain c) = codes "chain" ∷ (numbers_text (with_zero c.clause) ++ map decimal c.used)

abbrev pub answer_lines : Answer → List (List (List ℕ))
answer_lines (answer.Model values) = status_line kind.Model ∷ values_line values ∷ []
answer_lines (answer.Refutation steps) = status_line kind.Refutation ∷ map step_line steps
answer_lines (answer.Progress steps) = status_line kind.Progress ∷ map step_line steps

-- the lines with single spaces, each ended by a line feed
abbrev pub answer_text : Answer → List ℕ
answer_text a = flat_map spaced (answer_lines a)

abbrev pub version_tokens : List (List ℕ)
version_tokens = codes "version" ∷ codes "2" ∷ []

-- the text in a version, for a problem of c clauses. In version 2 the version line comes first, and chains' numbers are counted
-- backwards
abbrev pub answer_text_as : Answer → Version → ℕ → List ℕ
answer_text_as a version.One c = answer_text a
answer_text_as a version.Two c = flat_map spaced (version_tokens ∷ answer_lines (turned_answer c a))

-- ---- what it says

abbrev pub answer_items : Answer → List Item
answer_items (answer.Model values) = item.Status kind.Model ∷ item.Values (with_zero (literals_from 1 values)) ∷ []
answer_items (answer.Refutation steps) = item.Status kind.Refutation ∷ map item.Step steps
answer_items (answer.Progress steps) = item.Status kind.Progress ∷ map item.Step steps

-- one a line, from line 1 on
abbrev pub in_lines : List Item → List (ℕ × Option Item)
in_lines items = enumerate_from 1 (map Some items)

-- one a line, behind the version line where there is one
abbrev pub in_lines_as : Version → List Item → List (ℕ × Option Item)
in_lines_as version.One items = enumerate_from 1 (map Some items)
in_lines_as version.Two items = enumerate_from 2 (map Some items)

-- ---- answers that the format can write

-- a number other than 0 whose variable is within the limit
abbrev pub is_literal : ℤ → Bool
is_literal z = not (nat_abs z == 0) && nat_le (nat_abs z) MAX_VARS

abbrev pub is_name : ℕ → Bool
is_name n = nat_le n (2 ^ 32 - 1)

abbrev pub is_value : ℕ → Bool
is_value n = nat_le n MAX_WITNESS_VALUE

abbrev pub is_clause_number : ℕ → Bool
is_clause_number n = nat_le n (2 ^ 64 - 1)

abbrev pub is_witness_within : Witness → Bool
is_witness_within (witness.Path ks) = list_all is_name ks
is_witness_within (witness.Cut s) = list_all is_name s
is_witness_within (witness.Label ls) = list_all (λ l. is_name l.node && is_value l.value) ls
is_witness_within (witness.Flow fs) = list_all (λ f. is_name f.edge && is_value f.amount) fs
is_witness_within (witness.FlowCut s) = list_all is_name s
is_witness_within (witness.Tree ks) = list_all is_name ks
is_witness_within (witness.Split s) = list_all is_name s
is_witness_within (witness.Least ks) = list_all is_name ks
is_witness_within (witness.Cycle ks) = list_all is_name ks
is_witness_within (witness.Order us) = list_all is_name us

abbrev pub is_step_within : Step → Bool
is_step_within (step.Lemma l) = is_name l.atom && list_all is_literal l.clause && is_witness_within l.witness
is_step_within (step.Chain c) = list_all is_literal c.clause && list_all is_clause_number c.used && not (length c.used == 0)

-- each number is within the format, and each chain names a clause
abbrev pub is_within_format : Answer → Bool
is_within_format (answer.Model values) = nat_le (length values) MAX_VARS
is_within_format (answer.Refutation steps) = list_all is_step_within steps
is_within_format (answer.Progress steps) = list_all is_step_within steps

-- in a version, for a problem of c clauses
abbrev pub is_within_format_as : Version → ℕ → Answer → Bool
is_within_format_as version.One c a = is_within_format a
is_within_format_as version.Two c a = is_within_format (turned_answer c a) && answer_names_earlier c a
