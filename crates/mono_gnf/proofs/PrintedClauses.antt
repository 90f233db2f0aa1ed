-- Printed clauses and headers are read as they were.
use Rattle.std.proofs.Common.{◌≡◌, ℕ, zero, suc, ◌+◌, ◌<◌, ◌≤◌, ◌^◌, max, true, false, List, [], ◌∷◌, ◌++◌, length, map, Ok, refl, sym, ap, subst, ◌∙◌, arith, append_assoc, append-nil, length-append, sum_by, ℤ, pos, negsuc, nat_abs, leb, eqb, codes, decimal, slice_index}
use Rattle.std.specs.Fmt.{signed_decimal}
use Rattle.std.specs.Ordering.{int_eq}
use Rattle.std.proofs.lemmas.Bool.Decides.{nat_tests}
use Rattle.std.proofs.lemmas.List.Sums.{sum_by_push, sum_by-cons}
use Rattle.std.specs.Char.{is_ascii_digit}
use Rattle.std.specs.Prelude.{All}
use Rattle.std.proofs.lemmas.List.Elements.{All-head, All-tail}
use Rattle.mono_text.proofs.Decimals.{signed_within-decimal, decimal_is, AreDigits, fields_of-decimal}
use Rattle.mono_problem.specs.Instance.{Instance, literals_total}
use Rattle.mono_base.specs.Literal.{IsLitWithin}
use Rattle.mono_problem.specs.Growth.{nothing, with_clause, greatest_var}
use Rattle.mono_gnf.specs.declared.statement.Statement.TheVariants as says
use Rattle.mono_gnf.specs.Statements.{MAX_WIDE, statement_of, with_fields}
use Rattle.mono_gnf.specs.Reading.{Seen, nothing_seen, read_tokens, read_number, read_numbers, put, put_number, number_of, is_comment, is_number_token, ◌>>=◌}
use Rattle.mono_gnf.specs.Printed.{clause_line, header_line}
use Rattle.mono_gnf.proofs.LineRuns.{Leads}
use Rattle.mono_base.specs.declared.limits.TheConstants.{MAX_VARS, MAX_CLAUSES, MAX_LITERALS}

-- literals over the first variables
abbrev pub AreLits : ℕ → List ℤ → Type 0
AreLits vars [] = Unit {0}
AreLits vars (z ∷ zs) = (0 < nat_abs z) × (nat_abs z ≤ vars) × AreLits vars zs

abbrev pub AreClauses : ℕ → List (List ℤ) → Type 0
AreClauses vars [] = Unit {0}
AreClauses vars (c ∷ cs) = AreLits vars c × AreClauses vars cs

are_lits : (vars : ℕ) (c : List ℤ) → All (IsLitWithin vars) c → AreLits vars c
are_lits vars [] h = tt
are_lits vars (z ∷ zs) h = let first = All-head (IsLitWithin vars) z zs h in (first.0, first.1, are_lits vars zs (All-tail (IsLitWithin vars) z zs h))

pub are_clauses : (vars : ℕ) (cs : List (List ℤ)) → All (All (IsLitWithin vars)) cs → AreClauses vars cs
are_clauses vars [] h = tt
are_clauses vars (c ∷ cs) h = (are_lits vars c (All-head (All (IsLitWithin vars)) c cs h), are_clauses vars cs (All-tail (All (IsLitWithin vars)) c cs h))

-- the state after the header, between clauses or within one
abbrev pub state : Instance → List ℤ → ℕ → Seen
state p row last = record { problem = p; row = row; last = last; header = true }

-- ---- the numbers of a clause

read_number-signed : (n : ℕ) (s : Seen) (z : ℤ) → nat_abs z ≤ MAX_VARS → read_number n s (signed_decimal z) ≡ put_number n s z
unfolding read_number
read_number-signed n s z h = ap (λ r. number_of r >>= put_number n s) (signed_within-decimal MAX_VARS z h (omega (arith, h)))

read_number-zero : (n : ℕ) (s : Seen) → read_number n s (codes "0") ≡ put_number n s (pos 0)
unfolding read_number
read_number-zero n s = refl

put_literal : (n : ℕ) (p : Instance) (row : List ℤ) (last : ℕ) (z : ℤ) → 0 < nat_abs z → literals_total p + length row < MAX_LITERALS → put_number n (state p row last) z ≡ Ok (state p (row ++ z ∷ []) n)
put_literal n p row last (pos zero) h few = absurd (omega (arith, h))
put_literal n p row last (pos (suc m)) h few =
    let test : leb MAX_LITERALS (literals_total p + length row) ≡ false = grind (arith, nat_tests) in
    let literal : int_eq (pos (suc m)) (pos 0) ≡ false = grind (arith, nat_tests) in
    rw (literal, test) refl
put_literal n p row last (negsuc m) h few = let test : leb MAX_LITERALS (literals_total p + length row) ≡ false = grind (arith, nat_tests) in rw test refl

put_zero : (n : ℕ) (p : Instance) (row : List ℤ) (last : ℕ) → length p.clauses < MAX_CLAUSES → put_number n (state p row last) (pos 0) ≡ Ok (state (with_clause p row) [] last)
put_zero n p row last few = let test : leb MAX_CLAUSES (length p.clauses) ≡ false = grind (arith, nat_tests) in rw test refl

numbers-clause : (n vars : ℕ) (p : Instance) (row : List ℤ) (last : ℕ) (c : List ℤ) → AreLits vars c → vars ≤ MAX_VARS → length p.clauses < MAX_CLAUSES → literals_total p + length row + length c ≤ MAX_LITERALS
    → (k : ℕ) × (read_numbers n (state p row last) (clause_line c) ≡ Ok (state (with_clause p (row ++ c)) [] k))
numbers-clause n vars p row last [] lits small few room =
    (last, ap (λ r. r >>= (λ next. read_numbers n next [])) (read_number-zero n (state p row last) ∙ put_zero n p row last few) ∙ ap (λ c. Ok (state (with_clause p c) [] last)) (sym (append-nil row)))
numbers-clause n vars p row last (z ∷ zs) lits small few room =
    let first = read_number-signed n (state p row last) z (omega (arith, lits.1)) ∙ put_literal n p row last z lits.0 (omega arith) in
    let others = numbers-clause n vars p (row ++ z ∷ []) n zs lits.2 small few (simp length-append (omega arith)) in
    (others.0, ap (λ r. r >>= (λ next. read_numbers n next (clause_line zs))) first ∙ (others.1 ∙ ap (λ c. Ok (state (with_clause p c) [] others.0)) (append_assoc row (z ∷ []) zs)))

-- ---- the line of a clause

first_digits : (ds : List ℕ) → AreDigits ds → 0 < length ds → (is_comment ds ≡ false) × (is_number_token ds ≡ true)
first_digits [] h some = absurd (omega (arith, some))
first_digits (b ∷ bs) h some =
    let not_c : eqb b 99 ≡ false = grind (arith, nat_tests, h.0, h.1) in
    let digit : is_ascii_digit b ≡ true = grind (arith, nat_tests, h.0, h.1) in
    (rw not_c refl, rw digit refl)

first_signed : (z : ℤ) → nat_abs z < 2 ^ 63 → (is_comment (signed_decimal z) ≡ false) × (is_number_token (signed_decimal z) ≡ true)
first_signed (pos n) h = let d = decimal_is n (omega (arith, h)) in first_digits (decimal n) d.digits d.some
first_signed (negsuc n) h = (refl, refl)

number_line : (n : ℕ) (s : Seen) (t : List ℕ) (ts : List (List ℕ)) → is_comment t ≡ false → is_number_token t ≡ true → read_tokens n s (t ∷ ts) ≡ read_numbers n s (t ∷ ts)
number_line n s t ts h k = rw (h, k) refl

read_clause : (n vars : ℕ) (s : Seen) (c : List ℤ) → AreLits vars c → vars ≤ MAX_VARS → read_tokens n s (clause_line c) ≡ read_numbers n s (clause_line c)
read_clause n vars s [] lits small = refl
read_clause n vars s (z ∷ zs) lits small =
    let first = first_signed z (omega (arith, lits.1)) in
    number_line n s (signed_decimal z) (clause_line zs) first.0 first.1

-- ---- all clauses

greatest_var-within : (vars : ℕ) (c : List ℤ) → AreLits vars c → greatest_var vars c ≡ vars
greatest_var-within vars [] h = refl
greatest_var-within vars (z ∷ zs) h =
    let same : max vars (nat_abs z) ≡ vars = omega (arith, h.1) in
    ap (λ v. greatest_var v zs) same ∙ greatest_var-within vars zs h.2

abbrev pub with_clauses : Instance → List (List ℤ) → Instance
with_clauses p cs = record p { clauses = p.clauses ++ cs }

with_clause-within : (p : Instance) (c : List ℤ) → AreLits p.vars c → with_clause p c ≡ with_clauses p (c ∷ [])
with_clause-within p c h = ap (λ v. record p { vars = v; clauses = p.clauses ++ c ∷ [] }) (greatest_var-within p.vars c h)

pub Leads-clauses : (n : ℕ) (p : Instance) (last : ℕ) (cs : List (List ℤ)) → AreClauses p.vars cs → p.vars ≤ MAX_VARS → length p.clauses + length cs ≤ MAX_CLAUSES → literals_total p + sum_by (λ (c : List ℤ). length c) cs ≤ MAX_LITERALS
    → (k : ℕ) × Leads n (state p [] last) (map clause_line cs) (state (with_clauses p cs) [] k)
Leads-clauses n p last [] lits small few room = (last, ap (λ cs. state (record p { clauses = cs }) [] last) (sym (append-nil p.clauses)))
Leads-clauses n p last (c ∷ cs) lits small few room =
    let split = sum_by-cons (λ (c : List ℤ). length c) c cs in
    let one = numbers-clause n p.vars p [] last c lits.0 small (omega arith) (omega arith) in
    let next = with_clauses p (c ∷ []) in
    let step = read_clause n p.vars (state p [] last) c lits.0 small ∙ (one.1 ∙ ap (λ q. Ok (state q [] one.0)) (with_clause-within p c lits.0)) in
    let total = sum_by_push (λ (c : List ℤ). length c) p.clauses c in
    let others = Leads-clauses (n + 1) next one.0 cs lits.1 small (simp length-append (omega arith)) (omega (arith, total)) in
    let P : List (List ℤ) → Type 0 = λ all. Leads (n + 1) (state next [] one.0) (map clause_line cs) (state (record p { clauses = all }) [] others.0) in
    (others.0, (state next [] one.0, step, subst P (append_assoc p.clauses (c ∷ []) cs) others.1))

-- ---- the header

header_says : (vars count : ℕ) → vars ≤ MAX_VARS → count ≤ MAX_WIDE → statement_of (codes "p" ∷ codes "gnf" ∷ decimal vars ∷ decimal count ∷ []) ≡ Ok (says.Header vars)
unfolding statement_of
header_says vars count h k =
    ap (λ r. with_fields r (λ fs. says.Header (slice_index fs 0))) (fields_of-decimal (MAX_VARS ∷ MAX_WIDE ∷ []) (vars ∷ count ∷ []) (h, omega arith, (k, omega arith, tt)))

pub read_header : (p : Instance) → p.vars ≤ MAX_VARS → length p.clauses ≤ MAX_WIDE → read_tokens 1 nothing_seen (header_line p) ≡ Ok (state (record nothing { vars = p.vars }) [] 0)
read_header p h k =
    let zero_max : max 0 p.vars ≡ p.vars = omega arith in
    ap (λ r. r >>= put nothing_seen) (header_says p.vars (length p.clauses) h k) ∙ ap (λ v. Ok (state (record nothing { vars = v }) [] 0)) zero_max
