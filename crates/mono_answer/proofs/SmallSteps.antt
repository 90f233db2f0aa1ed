-- A step within the format is small: the labels and amounts that a line gives are at most 2^60.
use Rattle.std.proofs.Common.{ℕ, ◌+◌, Bool, true, false, not, ◌&&◌, cond, List, [], ◌∷◌, map, filter, Option, Some, None, refl}
use Rattle.std.specs.Prelude.{IsTrue, if◌then◌else◌}
use Rattle.std.specs.List.{list_all}
use Rattle.std.proofs.lemmas.Bool.{and_parts, and_from}
use Rattle.mono_text.specs.Text.{is_skipped, tokens_of}
use Rattle.mono_graph.specs.declared.label.Label.{Label}
use Rattle.mono_graph.specs.declared.amount.Amount.{Amount}
use Rattle.mono_steps.specs.declared.lemma.Witness.{Witness}
use Rattle.mono_steps.specs.declared.lemma.Witness.TheVariants as witness
use Rattle.mono_steps.specs.declared.step.Step.{Step}
use Rattle.mono_steps.specs.declared.step.Step.TheVariants as step
use Rattle.mono_steps.specs.Witnesses.{is_small}
use Rattle.mono_steps.specs.Steps.{is_small_step}
use Rattle.mono_answer.specs.declared.item.Item.{Item}
use Rattle.mono_answer.specs.declared.item.Item.TheVariants as says
use Rattle.mono_answer.specs.Items.{item_of, items_in, said_in, answer_said_in}
use Rattle.mono_answer.specs.Printed.{is_literal, is_name, is_value, is_witness_within, is_step_within}
use Rattle.mono_answer.specs.declared.version.Version.{Version}
use Rattle.mono_answer.specs.declared.version.Version.TheVariants as version
use Rattle.mono_answer.specs.Versions.{is_version_two, turned, step_by, item_by, number_behind, items_by}
use Rattle.mono_answer.proofs.Within.{IsWithinItem, item_within}

abbrev pub IsSmallItem : Option Item → Type 0
IsSmallItem (Some (says.Step s)) = IsTrue (is_small_step s)
IsSmallItem i = Unit {0}

-- ---- steps within the format

values_small : {A : Type 0} (name value : A → Bool) (xs : List A) → IsTrue (list_all (λ x. name x && value x) xs) → IsTrue (list_all value xs)
values_small name value [] h = refl
values_small name value (x ∷ xs) h =
    let parts = and_parts (name x && value x) (list_all (λ y. name y && value y) xs) h in
    and_from (value x) (list_all value xs) (and_parts (name x) (value x) parts.0).1 (values_small name value xs parts.1)

witness_small : (w : Witness) → IsTrue (is_witness_within w) → IsTrue (is_small w)
witness_small (witness.Path ks) h = refl
witness_small (witness.Cut s) h = refl
witness_small (witness.Label ls) h = values_small (λ (l : Label). is_name l.node) (λ (l : Label). is_value l.value) ls h
witness_small (witness.Flow fs) h = values_small (λ (f : Amount). is_name f.edge) (λ (f : Amount). is_value f.amount) fs h
witness_small (witness.FlowCut s) h = refl
witness_small (witness.Tree ks) h = refl
witness_small (witness.Split s) h = refl
witness_small (witness.Least ks) h = refl
witness_small (witness.Cycle ks) h = refl
witness_small (witness.Order us) h = refl

within_small : (s : Step) → IsTrue (is_step_within s) → IsTrue (is_small_step s)
within_small (step.Lemma l) h = witness_small l.witness (and_parts (is_name l.atom && list_all is_literal l.clause) (is_witness_within l.witness) h).1
within_small (step.Chain c) h = refl

item_small : (i : Option Item) → IsWithinItem i → IsSmallItem i
item_small None h = tt
item_small (Some (says.Status k)) h = tt
item_small (Some (says.Values zs)) h = tt
item_small (Some (says.Step s)) h = within_small s h

line_small : (ts : List (List ℕ)) → IsSmallItem (item_of ts)
line_small ts = item_small (item_of ts) (item_within ts)

-- ---- texts

abbrev pub AreSmallLines : List (ℕ × Option Item) → Type 0
AreSmallLines [] = Unit {0}
AreSmallLines (l ∷ ls) = IsSmallItem l.1 × AreSmallLines ls

pub lines_small : (lines : List (ℕ × List ℕ)) → AreSmallLines (items_in lines)
lines_small [] = tt
lines_small (l ∷ ls) = by_test (not (is_skipped (tokens_of l.1))) (lines_small ls)
  where
    by_test : (b : Bool) → AreSmallLines (items_in ls) → AreSmallLines (map (λ (k : ℕ × List ℕ). (k.0, item_of (tokens_of k.1))) (cond b (l ∷ filter (λ (k : ℕ × List ℕ). not (is_skipped (tokens_of k.1))) ls) (filter (λ (k : ℕ × List ℕ). not (is_skipped (tokens_of k.1))) ls)))
    by_test true h = (line_small (tokens_of l.1), h)
    by_test false h = h

said_small : (lines : List (ℕ × List ℕ)) → AreSmallLines (said_in lines)
said_small [] = tt
said_small (l ∷ ls) = (line_small (tokens_of l.1), said_small ls)

turned_small : (m : ℕ) (s : Step) → IsTrue (is_small_step s) → IsTrue (is_small_step (turned m s))
turned_small m (step.Lemma l) h = h
turned_small m (step.Chain c) h = h

step_small : (v : Version) (m : ℕ) (s : Step) → IsTrue (is_small_step s) → IsTrue (is_small_step (step_by v m s))
step_small version.One m s h = h
step_small version.Two m s h = turned_small m s h

item_by_small : (v : Version) (m : ℕ) (i : Option Item) → IsSmallItem i → IsSmallItem (item_by v m i)
item_by_small v m None h = tt
item_by_small v m (Some (says.Status k)) h = tt
item_by_small v m (Some (says.Values zs)) h = tt
item_by_small v m (Some (says.Step s)) h = step_small v m s h

pub items_small : (v : Version) (m : ℕ) (ls : List (ℕ × Option Item)) → AreSmallLines ls → AreSmallLines (items_by v m ls)
items_small v m [] h = tt
items_small v m ((n, i) ∷ ls) h = (item_by_small v m i h.0, items_small v (number_behind m i) ls h.1)

-- of an answer in either version
pub answer_small : (c : ℕ) (lines : List (ℕ × List ℕ)) → AreSmallLines (answer_said_in c lines)
answer_small c [] = tt
answer_small c (l ∷ ls) = by_test (is_version_two (tokens_of l.1)) (items_small version.Two (c + 1) (said_in ls) (said_small ls)) (said_small (l ∷ ls))
  where
    by_test : (b : Bool) → AreSmallLines (items_by version.Two (c + 1) (said_in ls)) → AreSmallLines (said_in (l ∷ ls)) → AreSmallLines (if b then items_by version.Two (c + 1) (said_in ls) else said_in (l ∷ ls))
    by_test true h k = h
    by_test false h k = k
