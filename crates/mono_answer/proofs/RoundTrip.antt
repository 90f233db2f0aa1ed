-- The items of an answer's printed text are the answer's items.
use Rattle.std.proofs.Common.{◌≡◌, ℕ, ◌+◌, ◌-◌, ◌<◌, ◌≤◌, Bool, true, false, not, ◌&&◌, List, [], ◌∷◌, ◌++◌, length, map, flat_map, Option, Some, option_map, decimal, ℤ, pos, refl, ap, ◌∙◌, arith}
use Rattle.std.specs.Prelude.{IsTrue, nat_le, nat_lt, nat_abs, neg_ℤ, ◌==◌}
use Rattle.std.specs.List.{list_all, enumerate_from}
use Rattle.std.proofs.lemmas.Bool.{and_parts, leb-true, ltb-true}
use Rattle.std.proofs.lemmas.Int.{ints}
use Rattle.mono_base.specs.declared.limits.TheConstants.{MAX_VARS}
use Rattle.mono_text.specs.Text.{spaced}
use Rattle.mono_steps.specs.declared.lemma.Witness.{Witness}
use Rattle.mono_steps.specs.declared.step.Step.{Step}
use Rattle.mono_steps.specs.declared.step.Step.TheVariants as step
use Rattle.mono_answer.specs.declared.kind.Kind.TheVariants as kind
use Rattle.mono_answer.specs.declared.word.Word.{Word}
use Rattle.mono_answer.specs.declared.item.Item.{Item}
use Rattle.mono_answer.specs.declared.item.Item.TheVariants as item
use Rattle.mono_answer.specs.declared.answer.Answer.{Answer}
use Rattle.mono_answer.specs.declared.answer.Answer.TheVariants as answer
use Rattle.mono_answer.specs.declared.version.Version.{Version}
use Rattle.mono_answer.specs.declared.version.Version.TheVariants as version
use Rattle.mono_answer.specs.Items.{item_of, items_of, witness_of, chain_item, lemma_item, lemma_of}
use Rattle.mono_answer.specs.Versions.{items_by, turned_numbers, turned, turned_steps, turned_answer, names_earlier, all_name_earlier, answer_names_earlier}
use Rattle.mono_answer.specs.Printed.{values_line, literals_from, literal_of, with_zero, numbers_text, witness_text, word_for, step_line, answer_lines, answer_text, answer_text_as, version_tokens, answer_items, in_lines, in_lines_as, is_literal, is_name, is_clause_number, is_witness_within, is_step_within, is_within_format, is_within_format_as}
use Rattle.mono_answer.proofs.KeptLines.{word_line, printed_items, items_behind_version}
use Rattle.mono_answer.proofs.ReadBack.{AreSmall, values_read, name_read, literals_read, clause_numbers_read, witness_read}

-- ---- what printed lines say

-- the literals of the values, and the ending 0
literals_small : (n : ℕ) (bs : List Bool) → n + length bs ≤ MAX_VARS + 1 → AreSmall (with_zero (literals_from n bs))
literals_small n [] h = (omega arith, tt)
literals_small n (b ∷ bs) h = (small b, literals_small (n + 1) bs (omega arith))
  where
    below : n ≤ MAX_VARS
    below = omega arith

    abs_neg : nat_abs (neg_ℤ (pos n)) ≤ MAX_VARS
    abs_neg = let low = below in omega (arith, ints)

    small : (c : Bool) → nat_abs (literal_of n c) ≤ MAX_VARS
    small true = below
    small false = abs_neg

values_say : (values : List Bool) → length values ≤ MAX_VARS → item_of (values_line values) ≡ Some (item.Values (with_zero (literals_from 1 values)))
values_say values few = ap (option_map item.Values) (values_read (with_zero (literals_from 1 values)) (literals_small 1 values (omega arith)))

pub chain_said : (c : List ℤ) (u : ℕ) (us : List ℕ) → IsTrue (list_all is_literal c) → IsTrue (list_all is_clause_number (u ∷ us))
    → item_of (step_line (step.Chain (record { clause = c; used = u ∷ us }))) ≡ Some (chain_item c (u ∷ us))
chain_said c u us lits numbers =
    rw (literals_read c (map decimal (u ∷ us)) lits) (ap (option_map (chain_item c)) (clause_numbers_read (u ∷ us) numbers))

chain_says : (c : List ℤ) (used : List ℕ) → IsTrue (list_all is_literal c) → IsTrue (list_all is_clause_number used) → IsTrue (not (length used == 0))
    → item_of (step_line (step.Chain (record { clause = c; used = used }))) ≡ Some (chain_item c used)
chain_says c [] lits numbers some = absurd cc
chain_says c (u ∷ us) lits numbers some = chain_said c u us lits numbers

lemma_read : (w : Word) (a : ℕ) (c : List ℤ) (x : Witness) → w ≡ word_for x → IsTrue (is_name a) → IsTrue (list_all is_literal c) → IsTrue (is_witness_within x)
    → lemma_of w (decimal a ∷ (numbers_text (with_zero c) ++ witness_text x)) ≡ Some (lemma_item a c x)
lemma_read w a c x is name lits within =
    rw (name_read a name, literals_read c (witness_text x) lits)
    (ap (option_map (lemma_item a c)) (ap (λ (v : Word). witness_of v (witness_text x)) is ∙ witness_read x within))

step_says : (s : Step) → IsTrue (is_step_within s) → item_of (step_line s) ≡ Some (item.Step s)
step_says (step.Lemma l) h =
    let p = and_parts (is_name l.atom && list_all is_literal l.clause) (is_witness_within l.witness) h in
    let q = and_parts (is_name l.atom) (list_all is_literal l.clause) p.0 in
    (word_line (word_for l.witness) (decimal l.atom ∷ (numbers_text (with_zero l.clause) ++ witness_text l.witness))).1
    ∙ lemma_read (word_for l.witness) l.atom l.clause l.witness refl q.0 q.1 p.1
step_says (step.Chain c) h =
    let p = and_parts (list_all is_literal c.clause && list_all is_clause_number c.used) (not (length c.used == 0)) h in
    let q = and_parts (list_all is_literal c.clause) (list_all is_clause_number c.used) p.0 in
    chain_says c.clause c.used q.0 q.1 p.1

steps_say : (steps : List Step) → IsTrue (list_all is_step_within steps) → map item_of (map step_line steps) ≡ map Some (map item.Step steps)
steps_say [] h = refl
steps_say (s ∷ ss) h = let p = and_parts (is_step_within s) (list_all is_step_within ss) h in rw (step_says s p.0, steps_say ss p.1) refl

answer_says : (a : Answer) → IsTrue (is_within_format a) → map item_of (answer_lines a) ≡ map Some (answer_items a)
answer_says (answer.Model values) h = ap (λ (i : Option Item). Some (item.Status kind.Model) ∷ i ∷ []) (values_say values (leb-true (length values) MAX_VARS h))
answer_says (answer.Refutation steps) h = ap (λ (is : List (Option Item)). Some (item.Status kind.Refutation) ∷ is) (steps_say steps h)
answer_says (answer.Progress steps) h = ap (λ (is : List (Option Item)). Some (item.Status kind.Progress) ∷ is) (steps_say steps h)

-- ---- texts

pub printed_is_read : (c : ℕ) (a : Answer) → IsTrue (is_within_format a) → items_of c (answer_text a) ≡ in_lines (answer_items a)
printed_is_read c a h = printed_items c a ∙ ap (enumerate_from 1) (answer_says a h)

-- in version 2
behind_version : (c : ℕ) (a : Answer) → IsTrue (is_within_format a)
    → items_of c (flat_map spaced (version_tokens ∷ answer_lines a)) ≡ items_by version.Two (c + 1) (enumerate_from 2 (map Some (answer_items a)))
behind_version c a h = items_behind_version c a ∙ ap (λ (is : List (Option Item)). items_by version.Two (c + 1) (enumerate_from 2 is)) (answer_says a h)

-- ---- numbers counted backwards twice

numbers_twice : (m : ℕ) (ds : List ℕ) → IsTrue (list_all (λ d. nat_le 1 d && nat_lt d m) ds) → turned_numbers m (turned_numbers m ds) ≡ ds
numbers_twice m [] h = refl
numbers_twice m (d ∷ ds) h =
    let p = and_parts (nat_le 1 d && nat_lt d m) (list_all (λ e. nat_le 1 e && nat_lt e m) ds) h in
    let below : d < m = ltb-true d m (and_parts (nat_le 1 d) (nat_lt d m) p.0).1 in
    let same : m - (m - d) ≡ d = omega arith in
    rw (same, numbers_twice m ds p.1) refl

pub turned_twice : (m : ℕ) (s : Step) → IsTrue (names_earlier m s) → turned m (turned m s) ≡ s
turned_twice m (step.Lemma l) h = refl
turned_twice m (step.Chain c) h = ap (λ (ds : List ℕ). step.Chain (record { clause = c.clause; used = ds })) (numbers_twice m c.used h)

items_twice : (m n : ℕ) (ss : List Step) → IsTrue (all_name_earlier m ss) → items_by version.Two m (enumerate_from n (map Some (map item.Step (turned_steps m ss)))) ≡ enumerate_from n (map Some (map item.Step ss))
items_twice m n [] h = refl
items_twice m n (s ∷ ss) h =
    let p = and_parts (names_earlier m s) (all_name_earlier (m + 1) ss) h in
    ap (λ (t : Step). (n, Some (item.Step t)) ∷ items_by version.Two (m + 1) (enumerate_from (n + 1) (map Some (map item.Step (turned_steps (m + 1) ss))))) (turned_twice m s p.0)
    ∙ ap (λ (ls : List (ℕ × Option Item)). (n, Some (item.Step s)) ∷ ls) (items_twice (m + 1) (n + 1) ss p.1)

turned_is_read : (c : ℕ) (a : Answer) → IsTrue (is_within_format (turned_answer c a)) → IsTrue (answer_names_earlier c a) → items_of c (answer_text_as a version.Two c) ≡ in_lines_as version.Two (answer_items a)
turned_is_read c (answer.Model values) h k = behind_version c (answer.Model values) h
turned_is_read c (answer.Refutation steps) h k =
    behind_version c (answer.Refutation (turned_steps (c + 1) steps)) h
    ∙ ap (λ (ls : List (ℕ × Option Item)). (2, Some (item.Status kind.Refutation)) ∷ ls) (items_twice (c + 1) 3 steps k)
turned_is_read c (answer.Progress steps) h k =
    behind_version c (answer.Progress (turned_steps (c + 1) steps)) h
    ∙ ap (λ (ls : List (ℕ × Option Item)). (2, Some (item.Status kind.Progress)) ∷ ls) (items_twice (c + 1) 3 steps k)

pub version_is_read : (c : ℕ) (a : Answer) (v : Version) → IsTrue (is_within_format_as v c a) → items_of c (answer_text_as a v c) ≡ in_lines_as v (answer_items a)
version_is_read c a version.One h = printed_is_read c a h
version_is_read c a version.Two h = let p = and_parts (is_within_format (turned_answer c a)) (answer_names_earlier c a) h in turned_is_read c a p.0 p.1
