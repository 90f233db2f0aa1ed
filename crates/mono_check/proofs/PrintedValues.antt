-- The values of a printed model are read back as these values, in either version.
use Rattle.std.proofs.Common.{◌≡◌, ℕ, zero, suc, ◌+◌, ◌<◌, ◌≤◌, ◌==◌, ◌&&◌, ◌||◌, Bool, true, false, not, ℤ, pos, negsuc, List, [], ◌∷◌, length, get_or, map, Option, append-nil, refl, sym, ap, ◌∙◌, arith}
use Rattle.std.specs.Prelude.{IsTrue, nat_abs, nat_le}
use Rattle.std.specs.List.{range_with_len}
use Rattle.std.specs.Ordering.{int_eq}
use Rattle.std.proofs.lemmas.Bool.{and_from, or_from, not_from_false, ne_eqb, le-leb, false_from_ne_true}
use Rattle.std.proofs.lemmas.Bool.Decides.{Decides-int_eq}
use Rattle.mono_base.specs.declared.limits.TheConstants.{MAX_VARS}
use Rattle.mono_base.specs.Literal.{var_of, is_lit, has_lit}
use Rattle.mono_base.specs.Partial.{has_var, is_partial}
use Rattle.mono_problem.specs.Instance.{Instance}
use Rattle.mono_problem.specs.WellFormed.{IsInstance}
use Rattle.mono_steps.specs.ChainSteps.{names_vars}
use Rattle.mono_answer.specs.declared.kind.Kind.TheVariants as kind
use Rattle.mono_answer.specs.declared.item.Item.{Item}
use Rattle.mono_answer.specs.declared.answer.Answer.TheVariants as answer
use Rattle.mono_answer.specs.declared.version.Version.{Version}
use Rattle.mono_answer.specs.declared.version.Version.TheVariants as version
use Rattle.mono_answer.specs.Printed.{literal_of, literals_from, with_zero, answer_text_as}
use Rattle.mono_answer.proofs.RoundTrip.{version_is_read}
use Rattle.mono_check.specs.Values.{are_values, model_of}
use Rattle.mono_check.specs.Answers.{AreValues, HasLines, SaysModel, values_item}
use Rattle.mono_check.proofs.ValueRows.{one_each}

-- ---- one literal

abs_literal : (n : ℕ) (b : Bool) → nat_abs (literal_of n b) ≡ n
abs_literal n true = refl
abs_literal zero false = refl
abs_literal (suc n) false = refl

-- the positive literal of a variable isn't the literal of another one
other_literal : (x n : ℕ) (b : Bool) → (x ≡ n → ⊥) → int_eq (pos x) (literal_of n b) ≡ false
other_literal x n b other = false_from_ne_true (int_eq (pos x) (literal_of n b)) (λ e.
    other (ap nat_abs ((Decides-int_eq (pos x) (literal_of n b)).0 e) ∙ abs_literal n b))

-- it is that of the variable where it is true
own_literal : (n : ℕ) (b : Bool) → 0 < n → int_eq (pos n) (literal_of n b) ≡ b
own_literal n true low = (Decides-int_eq (pos n) (pos n)).1 refl
own_literal zero false low = absurd (omega (arith, low))
own_literal (suc n) false low = false_from_ne_true (int_eq (pos (suc n)) (negsuc n)) (λ e. let same = (Decides-int_eq (pos (suc n)) (negsuc n)).0 e in cc)

-- ---- all literals

length-literals : (n : ℕ) (bs : List Bool) → length (literals_from n bs) ≡ length bs
length-literals n [] = refl
length-literals n (b ∷ bs) = ap (λ (k : ℕ). suc k) (length-literals (n + 1) bs)

-- ---- values

names : (p : Instance) (n : ℕ) (bs : List Bool) → 0 < n → n + length bs ≤ p.vars + 1 → IsTrue (names_vars p (literals_from n bs))
names p n [] low high = refl
names p n (b ∷ bs) low high =
    let var = abs_literal n b in
    and_from (nat_le 1 (var_of (literal_of n b)) && nat_le (var_of (literal_of n b)) p.vars) (names_vars p (literals_from (n + 1) bs))
    (and_from (nat_le 1 (var_of (literal_of n b))) (nat_le (var_of (literal_of n b)) p.vars) (le-leb 1 (var_of (literal_of n b)) (omega (arith, low, var))) (le-leb (var_of (literal_of n b)) p.vars (omega (arith, high, var))))
    (names p (n + 1) bs (omega arith) (omega (arith, high)))

later_vars : (x n : ℕ) (bs : List Bool) → x < n → has_var (literals_from n bs) x ≡ false
later_vars x n [] less = refl
later_vars x n (b ∷ bs) less =
    or_from (var_of (literal_of n b) == x) (has_var (literals_from (n + 1) bs) x)
    (ne_eqb (var_of (literal_of n b)) x (λ e. omega (arith, less, abs_literal n b, e))) (later_vars x (n + 1) bs (omega (arith, less)))

partial : (n : ℕ) (bs : List Bool) → 0 < n → IsTrue (is_partial (literals_from n bs))
partial n [] low = refl
partial n (b ∷ bs) low =
    let l : ℤ = literal_of n b in
    and_from (is_lit l && not (has_var (literals_from (n + 1) bs) (var_of l))) (is_partial (literals_from (n + 1) bs))
    (and_from (is_lit l) (not (has_var (literals_from (n + 1) bs) (var_of l)))
    (le-leb 1 (var_of l) (omega (arith, low, abs_literal n b)))
    (not_from_false (has_var (literals_from (n + 1) bs) (var_of l)) (later_vars (var_of l) (n + 1) bs (omega (arith, abs_literal n b)))))
    (partial (n + 1) bs (omega arith))

-- the line of all values has no fault
pub one_each_there : (p : Instance) (values : List Bool) → length values ≡ p.vars → AreValues p (literals_from 1 values)
one_each_there p values len = one_each p (literals_from 1 values) right (omega (arith, as_many))
  where
    right : IsTrue (are_values p (literals_from 1 values))
    right = and_from (names_vars p (literals_from 1 values)) (is_partial (literals_from 1 values)) (names p 1 values (omega arith) (omega (arith, len))) (partial 1 values (omega arith))

    as_many : length (literals_from 1 values) ≡ p.vars
    as_many = length-literals 1 values ∙ len

-- ---- the model

later_literals : (x n : ℕ) (bs : List Bool) → x < n → has_lit (literals_from n bs) (pos x) ≡ false
later_literals x n [] less = refl
later_literals x n (b ∷ bs) less =
    or_from (int_eq (pos x) (literal_of n b)) (has_lit (literals_from (n + 1) bs) (pos x))
    (other_literal x n b (λ e. omega (arith, less, e))) (later_literals x (n + 1) bs (omega (arith, less)))

value_at : (n : ℕ) (bs : List Bool) (k : ℕ) → 0 < n → k < length bs → has_lit (literals_from n bs) (pos (n + k)) ≡ get_or bs k false
value_at n [] k low lt = absurd (omega (arith, lt))
value_at n (b ∷ bs) zero low lt =
    let here : n + 0 ≡ n = omega arith in
    ap (λ (x : ℕ). has_lit (literals_from n (b ∷ bs)) (pos x)) here
    ∙ ap (λ (t : Bool). t || has_lit (literals_from (n + 1) bs) (pos n)) (own_literal n b low)
    ∙ ap (λ (t : Bool). b || t) (later_literals n (n + 1) bs (omega arith))
    ∙ or_none b
  where
    or_none : (c : Bool) → (c || false) ≡ c
    or_none true = refl
    or_none false = refl
value_at n (b ∷ bs) (suc k) low lt =
    let next : n + suc k ≡ (n + 1) + k = omega arith in
    ap (λ (t : Bool). t || has_lit (literals_from (n + 1) bs) (pos (n + suc k))) (other_literal (n + suc k) n b (λ e. omega (arith, e)))
    ∙ ap (λ (x : ℕ). has_lit (literals_from (n + 1) bs) (pos x)) next
    ∙ value_at (n + 1) bs k (omega arith) (omega (arith, lt))

mapped : (f : ℕ → Bool) (n : ℕ) (bs : List Bool) → ((k : ℕ) → k < length bs → f (n + k) ≡ get_or bs k false) → map f (range_with_len n (length bs)) ≡ bs
mapped f n [] h = refl
mapped f n (b ∷ bs) h =
    let here : f n ≡ b = ap f (let same : n ≡ n + 0 = omega arith in same) ∙ h 0 (omega arith) in
    ap (λ (c : Bool). c ∷ map f (range_with_len (n + 1) (length bs))) here
    ∙ ap (λ (cs : List Bool). b ∷ cs) (mapped f (n + 1) bs (λ k lt. ap f (let next : (n + 1) + k ≡ n + suc k = omega arith in next) ∙ h (suc k) (omega (arith, lt))))

pub model_is : (p : Instance) (values : List Bool) → length values ≡ p.vars → model_of p (literals_from 1 values) ≡ values
model_is p values len =
    let f : ℕ → Bool = λ x. has_lit (literals_from 1 values) (pos x) in
    ap (λ (n : ℕ). map f (range_with_len 1 n)) (sym len) ∙ mapped f 1 values (λ k lt. value_at 1 values k (omega arith) lt)

-- ---- the text of either version

-- the line of the values stands behind the status line
abbrev values_lines : ℕ → List Bool → List (ℕ × Option Item)
values_lines n values = (n, values_item (with_zero (literals_from 1 values))) ∷ []

model_in : (p : Instance) (values : List Bool) (text : List ℕ) (n : ℕ) → length values ≡ p.vars → HasLines (length p.clauses) kind.Model text (values_lines n values) → SaysModel p text values
model_in p values text n len behind = record {
  lines = values_lines n values;
  rows = with_zero (literals_from 1 values) ∷ [];
  lits = literals_from 1 values;
  behind = behind;
  alone = refl;
  numbers = append-nil (with_zero (literals_from 1 values));
  one_each = one_each_there p values len;
  true_where = sym (model_is p values len);
}

pub model_stands : (p : Instance) (values : List Bool) (v : Version) → IsInstance p → length values ≡ p.vars → SaysModel p (answer_text_as (answer.Model values) v (length p.clauses)) values
model_stands p values v ok len = by_version v
  where
    c : ℕ
    c = length p.clauses

    few : IsTrue (nat_le (length values) MAX_VARS)
    few = le-leb (length values) MAX_VARS (omega (arith, len, ok.vars))

    by_version : (w : Version) → SaysModel p (answer_text_as (answer.Model values) w c) values
    by_version version.One = model_in p values (answer_text_as (answer.Model values) version.One c) 2 len (1, version_is_read c (answer.Model values) version.One few)
    by_version version.Two = model_in p values (answer_text_as (answer.Model values) version.Two c) 3 len (2, version_is_read c (answer.Model values) version.Two (and_from (nat_le (length values) MAX_VARS) true few refl))
