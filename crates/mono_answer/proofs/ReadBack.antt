-- What is printed is read back: lists, and lines.
use Rattle.std.proofs.Common.{◌≡◌, ℕ, zero, suc, ◌-◌, ◌^◌, ◌<◌, ◌≤◌, false, not, ◌&&◌, List, [], ◌∷◌, ◌++◌, map, Option, Some, option_map, decimal, ℤ, pos, negsuc, refl, ap, ◌∙◌, arith}
use Rattle.std.specs.Prelude.{IsTrue, ◌==◌, nat_abs, nat_le}
use Rattle.std.specs.Fmt.{signed_decimal}
use Rattle.std.specs.Result.{result_ok}
use Rattle.std.specs.Ordering.{int_eq}
use Rattle.std.specs.List.{list_all}
use Rattle.std.proofs.lemmas.Bool.{and_parts, leb-true, not-true}
use Rattle.std.proofs.lemmas.Int.{ints}
use Rattle.mono_base.specs.declared.limits.TheConstants.{MAX_VARS, MAX_WITNESS_VALUE}
use Rattle.mono_text.specs.Numbers.{natural, within}
use Rattle.mono_text.proofs.Decimals.{natural-decimal, signed_within-decimal}
use Rattle.mono_graph.specs.declared.label.Label.{Label}
use Rattle.mono_graph.specs.declared.amount.Amount.{Amount}
use Rattle.mono_steps.specs.declared.lemma.Witness.{Witness}
use Rattle.mono_steps.specs.declared.lemma.Witness.TheVariants as witness
use Rattle.mono_answer.specs.Items.{literal_or_zero, name_of, value_of, clause_number_of, values_of, names_of, clause_numbers_of, labels_of, amounts_of, literals_of, witness_of}
use Rattle.mono_answer.specs.Printed.{with_zero, numbers_text, labels_text, amounts_text, witness_text, word_for, is_literal, is_name, is_value, is_clause_number, is_witness_within}

-- ---- numbers

within-decimal : (limit n : ℕ) → n ≤ limit → n < 2 ^ 64 → result_ok (within limit (natural (decimal n))) ≡ Some n
within-decimal limit n low h = ap (λ (o : Option ℕ). result_ok (within limit o)) (natural-decimal n h) ∙ inside limit n low
  where
    inside : (l m : ℕ) → m ≤ l → result_ok (within l (Some m)) ≡ Some m
    inside l m le = grind (arith)

pub literal_read : (z : ℤ) → nat_abs z ≤ MAX_VARS → literal_or_zero (signed_decimal z) ≡ Some z
literal_read z low = ap result_ok (signed_within-decimal MAX_VARS z low (omega arith))

pub name_read : (n : ℕ) → IsTrue (is_name n) → name_of (decimal n) ≡ Some n
name_read n h = let low : n ≤ 2 ^ 32 - 1 = leb-true n (2 ^ 32 - 1) h in within-decimal (2 ^ 32 - 1) n low (omega arith)

value_read : (n : ℕ) → IsTrue (is_value n) → value_of (decimal n) ≡ Some n
value_read n h = let low : n ≤ MAX_WITNESS_VALUE = leb-true n MAX_WITNESS_VALUE h in within-decimal MAX_WITNESS_VALUE n low (omega arith)

clause_number_read : (n : ℕ) → IsTrue (is_clause_number n) → clause_number_of (decimal n) ≡ Some n
clause_number_read n h = let low : n ≤ 2 ^ 64 - 1 = leb-true n (2 ^ 64 - 1) h in within-decimal (2 ^ 64 - 1) n low (omega arith)

-- ---- lists

abbrev pub AreSmall : List ℤ → Type 0
AreSmall [] = Unit {0}
AreSmall (z ∷ zs) = (nat_abs z ≤ MAX_VARS) × AreSmall zs

pub values_read : (c : List ℤ) → AreSmall c → values_of (numbers_text c) ≡ Some c
values_read [] h = refl
values_read (z ∷ zs) h = rw (literal_read z h.0, values_read zs h.1) refl

pub names_read : (ns : List ℕ) → IsTrue (list_all is_name ns) → names_of (map decimal ns) ≡ Some ns
names_read [] h = refl
names_read (n ∷ ns) h = let p = and_parts (is_name n) (list_all is_name ns) h in rw (name_read n p.0, names_read ns p.1) refl

pub clause_numbers_read : (ns : List ℕ) → IsTrue (list_all is_clause_number ns) → clause_numbers_of (map decimal ns) ≡ Some ns
clause_numbers_read [] h = refl
clause_numbers_read (n ∷ ns) h = let p = and_parts (is_clause_number n) (list_all is_clause_number ns) h in rw (clause_number_read n p.0, clause_numbers_read ns p.1) refl

pub labels_read : (ls : List Label) → IsTrue (list_all (λ l. is_name l.node && is_value l.value) ls) → labels_of (labels_text ls) ≡ Some ls
labels_read [] h = refl
labels_read (l ∷ ls) h =
    let p = and_parts (is_name l.node && is_value l.value) (list_all (λ l. is_name l.node && is_value l.value) ls) h in
    let q = and_parts (is_name l.node) (is_value l.value) p.0 in
    rw (name_read l.node q.0, value_read l.value q.1, labels_read ls p.1) refl

pub amounts_read : (fs : List Amount) → IsTrue (list_all (λ f. is_name f.edge && is_value f.amount) fs) → amounts_of (amounts_text fs) ≡ Some fs
amounts_read [] h = refl
amounts_read (f ∷ fs) h =
    let p = and_parts (is_name f.edge && is_value f.amount) (list_all (λ f. is_name f.edge && is_value f.amount) fs) h in
    let q = and_parts (is_name f.edge) (is_value f.amount) p.0 in
    rw (name_read f.edge q.0, value_read f.amount q.1, amounts_read fs p.1) refl

literal_parts : (z : ℤ) → IsTrue (is_literal z) → (int_eq z (pos 0) ≡ false) × (nat_abs z ≤ MAX_VARS)
literal_parts z h =
    let p = and_parts (not (nat_abs z == 0)) (nat_le (nat_abs z) MAX_VARS) h in
    (nonzero z (not-true (nat_abs z == 0) p.0), leb-true (nat_abs z) MAX_VARS p.1)
  where
    nonzero : (x : ℤ) → (nat_abs x == 0) ≡ false → int_eq x (pos 0) ≡ false
    nonzero (pos zero) e = absurd cc
    nonzero (pos (suc n)) e = grind (arith, ints)
    nonzero (negsuc n) e = grind (arith, ints)

pub literals_read : (c : List ℤ) (rest : List (List ℕ)) → IsTrue (list_all is_literal c) → literals_of (numbers_text (with_zero c) ++ rest) ≡ Some (c, rest)
literals_read [] rest h = rw (literal_read (pos 0) (omega arith)) refl
literals_read (z ∷ zs) rest h =
    let p = and_parts (is_literal z) (list_all is_literal zs) h in
    let q = literal_parts z p.0 in
    rw (literal_read z q.1, q.0, literals_read zs rest p.1) refl

-- ---- witnesses and steps

pub witness_read : (w : Witness) → IsTrue (is_witness_within w) → witness_of (word_for w) (witness_text w) ≡ Some w
witness_read (witness.Path ks) h = ap (option_map witness.Path) (names_read ks h)
witness_read (witness.Cut s) h = ap (option_map witness.Cut) (names_read s h)
witness_read (witness.Label ls) h = ap (option_map witness.Label) (labels_read ls h)
witness_read (witness.Flow fs) h = ap (option_map witness.Flow) (amounts_read fs h)
witness_read (witness.FlowCut s) h = ap (option_map witness.FlowCut) (names_read s h)
witness_read (witness.Tree ks) h = ap (option_map witness.Tree) (names_read ks h)
witness_read (witness.Split s) h = ap (option_map witness.Split) (names_read s h)
witness_read (witness.Least ks) h = ap (option_map witness.Least) (names_read ks h)
witness_read (witness.Cycle ks) h = ap (option_map witness.Cycle) (names_read ks h)
witness_read (witness.Order us) h = ap (option_map witness.Order) (names_read us h)
