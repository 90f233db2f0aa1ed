-- The extended problem, clause by clause.
use Rattle.std.proofs.Common.{◌≡◌, ℕ, ◌+◌, ◌-◌, ◌<◌, ◌≤◌, false, ◌&&◌, max, List, [], ◌∷◌, ◌++◌, length, map, get_or, take, drop, refl, sym, ap, subst, ◌∙◌, arith, ℤ, length-append, append_assoc}
use Rattle.std.specs.Prelude.{IsTrue, nat_le, nat_lt, sum_by, nat_abs, fold}
use Rattle.std.specs.List.{list_all}
use Rattle.std.proofs.lemmas.Bool.{and_parts, or_parts, leb-true, ltb-false}
use Rattle.std.proofs.lemmas.List.{append-nil, map-append, length-map, get_or-append_right, get_or-map, take-append-drop, take_more}
use Rattle.std.proofs.lemmas.List.Sums.{sum_by-append, sum_by-cons}
use Rattle.std.proofs.lemmas.Option.{slice_get-get_or}
use Rattle.mono_base.specs.declared.limits.TheConstants.{MAX_CLAUSES, MAX_LITERALS}
use Rattle.mono_base.specs.Literal.{var_of}
use Rattle.mono_problem.specs.Instance.{Instance, literals_total}
use Rattle.mono_problem.specs.Growth.{greatest_var, with_clause}
use Rattle.mono_steps.specs.declared.step.Step.{Step}
use Rattle.mono_steps.specs.declared.step.Step.TheVariants as step
use Rattle.mono_steps.specs.ChainSteps.{names_vars}
use Rattle.mono_steps.specs.Steps.{clause_of, are_justified}
use Rattle.mono_steps.proofs.StepVars.{vars_after}
use Rattle.mono_portfolio.specs.Extended.{board_clause, extended, has_chain, passes_limits}
use Rattle.mono_portfolio.proofs.Held.{held_number}

-- ---- the clause of a number

pub clause_is : (p : Instance) (board : List Step) (n : ℕ) (s : Step) → IsTrue (has_chain p board n) → board_clause p board n ≡ clause_of (get_or board (n - length p.clauses - 1) s)
clause_is p board n s h =
    let at = held_number p board n h in
    let e : n - 1 - length p.clauses ≡ n - length p.clauses - 1 = omega arith in
    get_or-append_right p.clauses (map clause_of board) (length p.clauses) (n - 1) [] refl (omega (arith, at.low))
    ∙ ap (λ (k : ℕ). get_or (map clause_of board) k []) e
    ∙ get_or-map clause_of board (n - length p.clauses - 1) s [] (omega (arith, at.low, at.high))

-- ---- its variables

greatest_stays : (v : ℕ) (c : List ℤ) → IsTrue (list_all (λ l. nat_le 1 (var_of l) && nat_le (var_of l) v) c) → greatest_var v c ≡ v
greatest_stays v [] h = refl
greatest_stays v (l ∷ c) h =
    let a = and_parts (nat_le 1 (var_of l) && nat_le (var_of l) v) (list_all (λ l. nat_le 1 (var_of l) && nat_le (var_of l) v) c) h in
    let b = and_parts (nat_le 1 (var_of l)) (nat_le (var_of l) v) a.0 in
    let e : max v (nat_abs l) ≡ v = omega (arith, leb-true (var_of l) v b.1) in
    ap (λ (w : ℕ). fold (λ (x : ℕ) (m : ℤ). max x (nat_abs m)) w c) e ∙ greatest_stays v c a.1

-- ---- one more clause

pub extended_more : (p : Instance) (board : List Step) (taken : List ℕ) (n : ℕ) → IsTrue (are_justified p board) → IsTrue (has_chain p board n)
    → with_clause (extended p board taken) (board_clause p board n) ≡ extended p board (taken ++ n ∷ [])
extended_more p board taken n j h =
    let at = held_number p board n h in
    let d : Step = get_or board (n - length p.clauses - 1) (step.Chain (record { clause = []; used = [] })) in
    let there = slice_get-get_or board (n - length p.clauses - 1) (step.Chain (record { clause = []; used = [] })) (omega (arith, at.low, at.high)) in
    let e = clause_is p board n (step.Chain (record { clause = []; used = [] })) h in
    let named : IsTrue (names_vars p (board_clause p board n)) =
    subst (λ (c : List ℤ). IsTrue (names_vars p c)) (sym e) (vars_after p p.clauses board (n - length p.clauses - 1) d j there) in
    let vars : greatest_var p.vars (board_clause p board n) ≡ p.vars = greatest_stays p.vars (board_clause p board n) named in
    let clauses : (p.clauses ++ map (board_clause p board) taken) ++ board_clause p board n ∷ [] ≡ p.clauses ++ map (board_clause p board) (taken ++ n ∷ []) =
    append_assoc p.clauses (map (board_clause p board) taken) (board_clause p board n ∷ []) ∙ ap (λ (cs : List (List ℤ)). p.clauses ++ cs) (sym (map-append (board_clause p board) taken (n ∷ []))) in
    ap (λ (v : ℕ). record p { vars = v; clauses = (p.clauses ++ map (board_clause p board) taken) ++ board_clause p board n ∷ [] }) vars
    ∙ ap (λ (cs : List (List ℤ)). record p { clauses = cs }) clauses

-- nothing taken
pub extended_none : (p : Instance) (board : List Step) → extended p board [] ≡ p
extended_none p board = ap (λ (cs : List (List ℤ)). record p { clauses = cs }) (append-nil p.clauses)

-- ---- its size

pub size_of : (p : Instance) (board : List Step) (taken : List ℕ) → length (extended p board taken).clauses ≡ length p.clauses + length taken
size_of p board taken = length-append p.clauses (map (board_clause p board) taken) ∙ ap (λ (m : ℕ). length p.clauses + m) (length-map taken (board_clause p board))

-- the literals of these clauses
abbrev pub lits_of : Instance → List Step → List ℕ → ℕ
lits_of p board ns = sum_by (λ (c : List ℤ). length c) (map (board_clause p board) ns)

pub literals_of : (p : Instance) (board : List Step) (taken : List ℕ) → literals_total (extended p board taken) ≡ literals_total p + lits_of p board taken
literals_of p board taken = sum_by-append (λ (c : List ℤ). length c) p.clauses (map (board_clause p board) taken)

pub lits_more : (p : Instance) (board : List Step) (taken : List ℕ) (n : ℕ) → lits_of p board (taken ++ n ∷ []) ≡ lits_of p board taken + length (board_clause p board n)
lits_more p board taken n =
    ap (sum_by (λ (c : List ℤ). length c)) (map-append (board_clause p board) taken (n ∷ [])) ∙ sum_by-append (λ (c : List ℤ). length c) (map (board_clause p board) taken) (board_clause p board n ∷ [])
    ∙ ap (λ (k : ℕ). lits_of p board taken + k) (sum_by-cons (λ (c : List ℤ). length c) (board_clause p board n) [] ∙ omega arith)

pub lits_front : (p : Instance) (board : List Step) (xs ys : List ℕ) → lits_of p board xs ≤ lits_of p board (xs ++ ys)
lits_front p board xs ys =
    let e = ap (sum_by (λ (c : List ℤ). length c)) (map-append (board_clause p board) xs ys) ∙ sum_by-append (λ (c : List ℤ). length c) (map (board_clause p board) xs) (map (board_clause p board) ys) in
    omega (arith, e)

-- the first numbers and the next one
pub lits_upto : (p : Instance) (board : List Step) (taken : List ℕ) (i : ℕ) → i < length taken → lits_of p board (take i taken) + length (board_clause p board (get_or taken i 0)) ≤ lits_of p board taken
lits_upto p board taken i lt =
    let a = lits_more p board (take i taken) (get_or taken i 0) in
    let b : lits_of p board (take i taken ++ get_or taken i 0 ∷ []) ≡ lits_of p board (take (i + 1) taken) = ap (lits_of p board) (sym (take_more taken i 0 lt)) in
    let c = lits_front p board (take (i + 1) taken) (drop (i + 1) taken) in
    let d : lits_of p board (take (i + 1) taken ++ drop (i + 1) taken) ≡ lits_of p board taken = ap (lits_of p board) (take-append-drop (i + 1) taken) in
    omega (arith, a, b, c, d)

pub within_limits : (p : Instance) → passes_limits p ≡ false → (length p.clauses ≤ MAX_CLAUSES) × (literals_total p ≤ MAX_LITERALS)
within_limits p h =
    let a = or_parts (nat_lt MAX_CLAUSES (length p.clauses)) (nat_lt MAX_LITERALS (literals_total p)) h in
    (ltb-false MAX_CLAUSES (length p.clauses) a.0, ltb-false MAX_LITERALS (literals_total p) a.1)
