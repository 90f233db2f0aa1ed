-- Problems with assumptions, one after the other.
use Rattle.std.proofs.Common.{◌≡◌, ℕ, suc, ◌+◌, ◌<◌, ◌≤◌, max, List, [], ◌∷◌, ◌++◌, length, map, All, refl, ap, ◌∙◌, arith, sum_by, length-append}
use Rattle.std.specs.Prelude.{ℤ, nat_abs}
use Rattle.std.proofs.lemmas.List.{length-map}
use Rattle.std.proofs.lemmas.List.Elements.{All-append, All-cons, All-nil, All-weaker}
use Rattle.std.proofs.lemmas.List.Sums.{sum_by-append, sum_by-cons}
use Rattle.mono_base.specs.declared.limits.TheConstants.{MAX_VARS}
use Rattle.mono_base.specs.Literal.{IsLitWithin}
use Rattle.mono_problem.specs.Assuming.{assuming, HasRoom}
use Rattle.mono_problem.specs.Growth.{greatest_var, with_clause}
use Rattle.mono_problem.specs.Instance.{Instance, literals_total}
use Rattle.mono_problem.specs.WellFormed.{IsInstance}
use Rattle.mono_problem.proofs.Wider.{IsInstance-wider}

pub greatest-push : (v : ℕ) (xs : List ℤ) (l : ℤ) → greatest_var v (xs ++ l ∷ []) ≡ max (greatest_var v xs) (nat_abs l)
greatest-push v [] l = refl
greatest-push v (x ∷ xs) l = greatest-push (max v (nat_abs x)) xs l

pub units-push : (xs : List ℤ) (l : ℤ) → map (λ l. l ∷ []) (xs ++ l ∷ []) ≡ map (λ l. l ∷ []) xs ++ (l ∷ []) ∷ []
units-push [] l = refl
units-push (x ∷ xs) l = ap (λ cs. (x ∷ []) ∷ cs) (units-push xs l)

append-push : {A : Type 0} (xs ys : List A) (y : A) → xs ++ (ys ++ y ∷ []) ≡ (xs ++ ys) ++ y ∷ []
append-push [] ys y = refl
append-push (x ∷ xs) ys y = ap (λ zs. x ∷ zs) (append-push xs ys y)

pub assuming-push : (p : Instance) (xs : List ℤ) (l : ℤ) → assuming p (xs ++ l ∷ []) ≡ with_clause (assuming p xs) (l ∷ [])
assuming-push p xs l = rw (greatest-push p.vars xs l, units-push xs l, append-push p.clauses (map (λ l. l ∷ []) xs) (l ∷ [])) refl

length-units : (xs : List ℤ) → sum_by (λ c. length c) (map (λ l. l ∷ []) xs) ≡ length xs
length-units [] = refl
length-units (x ∷ xs) = sum_by-cons (λ (c : List ℤ). length c) (x ∷ []) (map (λ l. l ∷ []) xs) ∙ omega (arith, length-units xs)

pub assuming-clauses : (p : Instance) (xs : List ℤ) → length (assuming p xs).clauses ≡ length p.clauses + length xs
assuming-clauses p xs = length-append p.clauses (map (λ l. l ∷ []) xs) ∙ ap (λ n. length p.clauses + n) (length-map xs (λ l. l ∷ []))

pub assuming-literals : (p : Instance) (xs : List ℤ) → literals_total (assuming p xs) ≡ literals_total p + length xs
assuming-literals p xs = sum_by-append (λ c. length c) p.clauses (map (λ l. l ∷ []) xs) ∙ ap (λ n. literals_total p + n) (length-units xs)

-- ---- the variables

pub greatest_low : (v : ℕ) (xs : List ℤ) → v ≤ greatest_var v xs
greatest_low v [] = omega arith
greatest_low v (x ∷ xs) = omega (arith, greatest_low (max v (nat_abs x)) xs)

pub greatest_high : (v n : ℕ) (xs : List ℤ) → v ≤ n → All (IsLitWithin n) xs → greatest_var v xs ≤ n
greatest_high v n [] up h = up
greatest_high v n (x ∷ xs) up h =
    let first : IsLitWithin n x = h 0 x (omega arith) in
    greatest_high (max v (nat_abs x)) n xs (omega (arith, up, first.1)) (λ k d lt. h (suc k) d (omega (arith, lt)))

units_within : (v n : ℕ) (xs : List ℤ) → greatest_var v xs ≤ n → All (λ (l : ℤ). 0 < nat_abs l) xs → All (All (IsLitWithin n)) (map (λ l. l ∷ []) xs)
units_within v n [] h some = λ k d lt. absurd (omega (arith, lt))
units_within v n (x ∷ xs) h some =
    let first : nat_abs x ≤ n = omega (arith, greatest_low (max v (nat_abs x)) xs, h) in
    let low : 0 < nat_abs x = some 0 x (omega arith) in
    All-cons (All (IsLitWithin n)) (x ∷ []) (map (λ l. l ∷ []) xs) (All-cons (IsLitWithin n) x [] (low, first) (All-nil (IsLitWithin n))) (units_within (max v (nat_abs x)) n xs h (λ k d lt. some (suc k) d (omega (arith, lt))))

-- ---- a problem with assumptions is a problem

pub assuming-instance : (p : Instance) (xs : List ℤ) → IsInstance p → All (IsLitWithin MAX_VARS) xs → HasRoom p xs → IsInstance (assuming p xs)
assuming-instance p xs ok within room =
    let n = greatest_var p.vars xs in
    let wide = IsInstance-wider p n (greatest_low p.vars xs) (greatest_high p.vars MAX_VARS xs ok.vars within) ok in
    let some : All (λ (l : ℤ). 0 < nat_abs l) xs = All-weaker (IsLitWithin MAX_VARS) (λ (l : ℤ). 0 < nat_abs l) (λ l h. h.0) xs within in
    record {
      vars = wide.vars;
      few_graphs = wide.few_graphs;
      few_nodes = wide.few_nodes;
      few_edges = wide.few_edges;
      few_atoms = wide.few_atoms;
      few_clauses = omega (arith, assuming-clauses p xs, room.clauses);
      few_literals = omega (arith, assuming-literals p xs, room.literals);
      identities = wide.identities;
      graphs = wide.graphs;
      numbers = wide.numbers;
      atoms = λ k d low. let x = wide.atoms k d low in record { number = x.number; graph = x.graph; over = x.over; low = x.low; high = x.high };
      clauses = All-append (All (IsLitWithin n)) p.clauses (map (λ l. l ∷ []) xs) wide.clauses (units_within p.vars n xs (omega arith) some);
    }
