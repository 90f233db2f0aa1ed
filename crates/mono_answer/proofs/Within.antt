-- What a line says is within the format: each number within its limit, and each chain names a clause.
use Rattle.std.proofs.Common.{◌≡◌, ℕ, zero, suc, ◌-◌, ◌^◌, Bool, true, false, not, ◌&&◌, List, [], ◌∷◌, length, Option, Some, None, option_map, refl, ap, arith, ℤ, pos, negsuc}
use Rattle.std.specs.Prelude.{IsTrue, nat_abs, nat_le, nat_lt, ◌==◌, if◌then◌else◌, option_and_then, Ok, Err, codes, bytes_eq}
use Rattle.std.specs.List.{list_all}
use Rattle.std.specs.Result.{result_ok}
use Rattle.std.specs.Ordering.{int_eq}
use Rattle.std.proofs.lemmas.Bool.{and_from, le-leb, ltb-false}
use Rattle.mono_base.specs.declared.limits.TheConstants.{MAX_VARS, MAX_WITNESS_VALUE}
use Rattle.mono_text.specs.Numbers.{natural, signed, within, signed_within}
use Rattle.mono_text.specs.declared.number.NumberRefusal.TheVariants as refusal
use Rattle.mono_graph.specs.declared.label.Label.{Label}
use Rattle.mono_graph.specs.declared.amount.Amount.{Amount}
use Rattle.mono_steps.specs.declared.lemma.Witness.{Witness}
use Rattle.mono_steps.specs.declared.lemma.Witness.TheVariants as witness
use Rattle.mono_answer.specs.declared.kind.Kind.{Kind}
use Rattle.mono_answer.specs.declared.word.Word.{Word}
use Rattle.mono_answer.specs.declared.word.Word.TheVariants as word
use Rattle.mono_answer.specs.declared.item.Item.{Item}
use Rattle.mono_answer.specs.declared.item.Item.TheVariants as says
use Rattle.mono_answer.specs.Items.{literal_or_zero, name_of, value_of, clause_number_of, onto, values_of, names_of, clause_numbers_of, labels_of, amounts_of, literals_of, kind_of, status_of, chain_item, chain_of, word_of, witness_of, lemma_item, lemma_of, item_of}
use Rattle.mono_answer.specs.Printed.{is_literal, is_name, is_value, is_clause_number, is_witness_within, is_step_within}

-- what is there meets the test
abbrev pub IfGiven : {A : Type 0} → (A → Bool) → Option A → Type 0
IfGiven test None = Unit {0}
IfGiven test (Some x) = IsTrue (test x)

-- ---- numbers

up_to : (limit : ℕ) (o : Option ℕ) → IfGiven (λ n. nat_le n limit) (result_ok (within limit o))
up_to limit None = tt
up_to limit (Some n) = by_test (nat_lt limit n) refl
  where
    by_test : (b : Bool) → nat_lt limit n ≡ b → IfGiven (λ m. nat_le m limit) (result_ok (if b then Err refusal.TooLarge else Ok n))
    by_test true e = tt
    by_test false e = le-leb n limit (ltb-false limit n e)

literal_up_to : (o : Option ℤ) → IfGiven (λ z. nat_le (nat_abs z) MAX_VARS) (result_ok (signed_within MAX_VARS o))
literal_up_to None = tt
literal_up_to (Some z) = by_test (nat_lt MAX_VARS (nat_abs z)) refl
  where
    by_test : (b : Bool) → nat_lt MAX_VARS (nat_abs z) ≡ b → IfGiven (λ y. nat_le (nat_abs y) MAX_VARS) (result_ok (if b then Err refusal.TooLarge else Ok z))
    by_test true e = tt
    by_test false e = le-leb (nat_abs z) MAX_VARS (ltb-false MAX_VARS (nat_abs z) e)

name_within : (t : List ℕ) → IfGiven is_name (name_of t)
name_within t = up_to (2 ^ 32 - 1) (natural t)

value_within : (t : List ℕ) → IfGiven is_value (value_of t)
value_within t = up_to MAX_WITNESS_VALUE (natural t)

clause_number_within : (t : List ℕ) → IfGiven is_clause_number (clause_number_of t)
clause_number_within t = up_to (2 ^ 64 - 1) (natural t)

-- ---- lists

onto_within : {A : Type 0} (test : A → Bool) (o : Option A) (r : Option (List A)) → IfGiven test o → IfGiven (list_all test) r → IfGiven (list_all test) (option_and_then (λ x. onto x r) o)
onto_within test None r h k = tt
onto_within test (Some x) None h k = tt
onto_within test (Some x) (Some xs) h k = and_from (test x) (list_all test xs) h k

names_within : (ts : List (List ℕ)) → IfGiven (list_all is_name) (names_of ts)
names_within [] = refl
names_within (t ∷ ts) = onto_within is_name (name_of t) (names_of ts) (name_within t) (names_within ts)

clause_numbers_within : (ts : List (List ℕ)) → IfGiven (list_all is_clause_number) (clause_numbers_of ts)
clause_numbers_within [] = refl
clause_numbers_within (t ∷ ts) = onto_within is_clause_number (clause_number_of t) (clause_numbers_of ts) (clause_number_within t) (clause_numbers_within ts)

-- pairs of a name and a value, each made into an item that meets the test
pairs_within : {A : Type 0} (make : ℕ → ℕ → A) (test : A → Bool) → ((n x : ℕ) → IsTrue (is_name n) → IsTrue (is_value x) → IsTrue (test (make n x)))
    → (n x : Option ℕ) (r : Option (List A)) → IfGiven is_name n → IfGiven is_value x → IfGiven (list_all test) r
    → IfGiven (list_all test) (option_and_then (λ a. option_and_then (λ b. onto (make a b) r) x) n)
pairs_within make test each None x r h k m = tt
pairs_within make test each (Some n) None r h k m = tt
pairs_within make test each (Some n) (Some x) None h k m = tt
pairs_within make test each (Some n) (Some x) (Some ps) h k m = and_from (test (make n x)) (list_all test ps) (each n x h k) m

abbrev as_label : ℕ → ℕ → Label
as_label n x = record { node = n; value = x }

abbrev as_amount : ℕ → ℕ → Amount
as_amount n x = record { edge = n; amount = x }

both_within : (n x : ℕ) → IsTrue (is_name n) → IsTrue (is_value x) → IsTrue (is_name n && is_value x)
both_within n x h k = and_from (is_name n) (is_value x) h k

labels_within : (ts : List (List ℕ)) → IfGiven (list_all (λ l. is_name l.node && is_value l.value)) (labels_of ts)
labels_within [] = refl
labels_within (t ∷ []) = tt
labels_within (t ∷ u ∷ ts) =
    pairs_within as_label (λ (l : Label). is_name l.node && is_value l.value) both_within
    (name_of t) (value_of u) (labels_of ts) (name_within t) (value_within u) (labels_within ts)

amounts_within : (ts : List (List ℕ)) → IfGiven (list_all (λ f. is_name f.edge && is_value f.amount)) (amounts_of ts)
amounts_within [] = refl
amounts_within (t ∷ []) = tt
amounts_within (t ∷ u ∷ ts) =
    pairs_within as_amount (λ (f : Amount). is_name f.edge && is_value f.amount) both_within
    (name_of t) (value_of u) (amounts_of ts) (name_within t) (value_within u) (amounts_within ts)

-- ---- literals up to the first 0

some : (n : ℕ) → IsTrue (not (suc n == 0))
some n = let no : (suc n == 0) ≡ false = grind (arith) in ap not no

nonzero : (z : ℤ) → int_eq z (pos 0) ≡ false → IsTrue (not (nat_abs z == 0))
nonzero (pos zero) e = absurd cc
nonzero (pos (suc n)) e = some n
nonzero (negsuc n) e = some n

literals_within : (ts : List (List ℕ)) → IfGiven (λ (p : List ℤ × List (List ℕ)). list_all is_literal p.0) (literals_of ts)
literals_within [] = tt
literals_within (t ∷ ts) = by_literal (literal_or_zero t) (literal_up_to (signed t)) (literals_of ts) (literals_within ts)
  where
    by_test : (z : ℤ) (b : Bool) → int_eq z (pos 0) ≡ b → IsTrue (nat_le (nat_abs z) MAX_VARS) → (r : Option (List ℤ × List (List ℕ))) → IfGiven (λ (p : List ℤ × List (List ℕ)). list_all is_literal p.0) r
        → IfGiven (λ (p : List ℤ × List (List ℕ)). list_all is_literal p.0) (if b then Some ([], ts) else option_map (λ p. (z ∷ p.0, p.1)) r)
    by_test z true e h r k = refl
    by_test z false e h None k = tt
    by_test z false e h (Some p) k = and_from (is_literal z) (list_all is_literal p.0) (and_from (not (nat_abs z == 0)) (nat_le (nat_abs z) MAX_VARS) (nonzero z e) h) k

    by_literal : (o : Option ℤ) → IfGiven (λ z. nat_le (nat_abs z) MAX_VARS) o → (r : Option (List ℤ × List (List ℕ))) → IfGiven (λ (p : List ℤ × List (List ℕ)). list_all is_literal p.0) r
        → IfGiven (λ (p : List ℤ × List (List ℕ)). list_all is_literal p.0) (option_and_then (λ z. if int_eq z (pos 0) then Some ([], ts) else option_map (λ p. (z ∷ p.0, p.1)) r) o)
    by_literal None h r k = tt
    by_literal (Some z) h r k = by_test z (int_eq z (pos 0)) refl h r k

-- ---- witnesses

given : {A B : Type 0} (test : A → Bool) (f : A → B) (other : B → Bool) → ((x : A) → IsTrue (test x) → IsTrue (other (f x))) → (o : Option A) → IfGiven test o → IfGiven other (option_map f o)
given test f other each None h = tt
given test f other each (Some x) h = each x h

witness_within : (w : Word) (ts : List (List ℕ)) → IfGiven is_witness_within (witness_of w ts)
witness_within word.Path ts = given (list_all is_name) witness.Path is_witness_within (λ x h. h) (names_of ts) (names_within ts)
witness_within word.Cut ts = given (list_all is_name) witness.Cut is_witness_within (λ x h. h) (names_of ts) (names_within ts)
witness_within word.Label ts = given (list_all (λ l. is_name l.node && is_value l.value)) witness.Label is_witness_within (λ x h. h) (labels_of ts) (labels_within ts)
witness_within word.Flow ts = given (list_all (λ f. is_name f.edge && is_value f.amount)) witness.Flow is_witness_within (λ x h. h) (amounts_of ts) (amounts_within ts)
witness_within word.FlowCut ts = given (list_all is_name) witness.FlowCut is_witness_within (λ x h. h) (names_of ts) (names_within ts)
witness_within word.Tree ts = given (list_all is_name) witness.Tree is_witness_within (λ x h. h) (names_of ts) (names_within ts)
witness_within word.Split ts = given (list_all is_name) witness.Split is_witness_within (λ x h. h) (names_of ts) (names_within ts)
witness_within word.Least ts = given (list_all is_name) witness.Least is_witness_within (λ x h. h) (names_of ts) (names_within ts)
witness_within word.Cycle ts = given (list_all is_name) witness.Cycle is_witness_within (λ x h. h) (names_of ts) (names_within ts)
witness_within word.Order ts = given (list_all is_name) witness.Order is_witness_within (λ x h. h) (names_of ts) (names_within ts)

-- ---- lines

abbrev pub IsWithinItem : Option Item → Type 0
IsWithinItem (Some (says.Step s)) = IsTrue (is_step_within s)
IsWithinItem i = Unit {0}

lemma_within : (w : Word) (ts : List (List ℕ)) → IsWithinItem (lemma_of w ts)
lemma_within w [] = tt
lemma_within w (t ∷ ts) = by_parts (name_of t) (name_within t) (literals_of ts) (literals_within ts)
  where
    by_witness : (a : ℕ) (c : List ℤ) → IsTrue (is_name a) → IsTrue (list_all is_literal c) → (o : Option Witness) → IfGiven is_witness_within o → IsWithinItem (option_map (lemma_item a c) o)
    by_witness a c h k None m = tt
    by_witness a c h k (Some x) m = and_from (is_name a && list_all is_literal c) (is_witness_within x) (and_from (is_name a) (list_all is_literal c) h k) m

    by_parts : (n : Option ℕ) → IfGiven is_name n → (q : Option (List ℤ × List (List ℕ))) → IfGiven (λ (p : List ℤ × List (List ℕ)). list_all is_literal p.0) q
        → IsWithinItem (option_and_then (λ a. option_and_then (λ p. option_map (lemma_item a p.0) (witness_of w p.1)) q) n)
    by_parts None h q k = tt
    by_parts (Some n) h None k = tt
    by_parts (Some n) h (Some p) k = by_witness n p.0 h k (witness_of w p.1) (witness_within w p.1)

some_number : (u : List ℕ) (us : List (List ℕ)) → IfGiven (λ ns. not (length ns == 0)) (clause_numbers_of (u ∷ us))
some_number u us = by_parts (clause_number_of u) (clause_numbers_of us)
  where
    by_parts : (o : Option ℕ) (r : Option (List ℕ)) → IfGiven (λ ns. not (length ns == 0)) (option_and_then (λ n. onto n r) o)
    by_parts None r = tt
    by_parts (Some n) None = tt
    by_parts (Some n) (Some ns) = some (length ns)

under : (f : List ℤ × List (List ℕ) → Option Item) → ((c : List ℤ) → IsTrue (list_all is_literal c) → IsWithinItem (f (c, [])))
    → ((c : List ℤ) (u : List ℕ) (us : List (List ℕ)) → IsTrue (list_all is_literal c) → IsWithinItem (f (c, u ∷ us)))
    → (o : Option (List ℤ × List (List ℕ))) → IfGiven (λ (p : List ℤ × List (List ℕ)). list_all is_literal p.0) o → IsWithinItem (option_and_then f o)
under f none more None h = tt
under f none more (Some (c, [])) h = none c h
under f none more (Some (c, u ∷ us)) h = more c u us h

chain_within : (ts : List (List ℕ)) → IsWithinItem (chain_of ts)
chain_within ts = under _ (λ c h. tt) (λ c u us h. by_numbers c h (clause_numbers_of (u ∷ us)) (clause_numbers_within (u ∷ us)) (some_number u us)) (literals_of ts) (literals_within ts)
  where
    by_numbers : (c : List ℤ) → IsTrue (list_all is_literal c) → (o : Option (List ℕ)) → IfGiven (list_all is_clause_number) o → IfGiven (λ ns. not (length ns == 0)) o
        → IsWithinItem (option_map (chain_item c) o)
    by_numbers c h None k m = tt
    by_numbers c h (Some ns) k m = and_from (list_all is_literal c && list_all is_clause_number ns) (not (length ns == 0)) (and_from (list_all is_literal c) (list_all is_clause_number ns) h k) m

status_within : (ts : List (List ℕ)) → IsWithinItem (status_of ts)
status_within [] = tt
status_within (t ∷ []) = by_kind (kind_of t)
  where
    by_kind : (o : Option Kind) → IsWithinItem (option_map (λ k. says.Status k) o)
    by_kind None = tt
    by_kind (Some k) = tt
status_within (t ∷ u ∷ ts) = tt

values_within : (o : Option (List ℤ)) → IsWithinItem (option_map says.Values o)
values_within None = tt
values_within (Some zs) = tt

word_within : (ts : List (List ℕ)) (o : Option Word) → IsWithinItem (option_and_then (λ w. lemma_of w ts) o)
word_within ts None = tt
word_within ts (Some w) = lemma_within w ts

one_of : (a b c : Bool) (x y z w : Option Item) → IsWithinItem x → IsWithinItem y → IsWithinItem z → IsWithinItem w → IsWithinItem (if a then x else if b then y else if c then z else w)
one_of true b c x y z w h i j k = h
one_of false true c x y z w h i j k = i
one_of false false true x y z w h i j k = j
one_of false false false x y z w h i j k = k

pub item_within : (ts : List (List ℕ)) → IsWithinItem (item_of ts)
item_within [] = tt
item_within (t ∷ ts) =
    one_of (bytes_eq t (codes "s")) (bytes_eq t (codes "v")) (bytes_eq t (codes "chain")) (status_of ts) (option_map says.Values (values_of ts)) (chain_of ts) (option_and_then (λ w. lemma_of w ts) (word_of t))
    (status_within ts) (values_within (values_of ts)) (chain_within ts) (word_within ts (word_of t))
