-- Steps that are justified after justified ones, and their clauses by number.
use Rattle.std.proofs.Common.{◌≡◌, ℕ, zero, suc, ◌+◌, ◌-◌, ◌<◌, ◌≤◌, true, List, [], ◌∷◌, ◌++◌, length, map, get_or, Some, refl, sym, ap, subst, ◌∙◌, arith, append_assoc, length-append, ℤ}
use Rattle.std.specs.Prelude.{IsTrue, slice_get}
use Rattle.std.proofs.lemmas.Bool.{and_parts, and_from}
use Rattle.std.proofs.lemmas.List.{append-nil, get_or_append_left, get_or-append_right, length-map}
use Rattle.std.proofs.lemmas.Option.{slice_get-get_or}
use Rattle.mono_problem.specs.Instance.{Instance, numbered}
use Rattle.mono_steps.specs.declared.step.Step.{Step}
use Rattle.mono_steps.specs.Steps.{clause_of, clauses_after, is_justified_step, are_justified_after}

-- a step that is justified after justified steps
pub justified_more : (p : Instance) (earlier : List (List ℤ)) (ss : List Step) (s : Step) → IsTrue (is_justified_step p (earlier ++ map clause_of ss) s) → IsTrue (are_justified_after p earlier ss) → IsTrue (are_justified_after p earlier (ss ++ s ∷ []))
justified_more p earlier [] s h all = and_from (is_justified_step p earlier s) true (subst (λ (cs : List (List ℤ)). IsTrue (is_justified_step p cs s)) (append-nil earlier) h) refl
justified_more p earlier (r ∷ ss) s h all =
    let a = and_parts (is_justified_step p earlier r) (are_justified_after p (earlier ++ clause_of r ∷ []) ss) all in
    and_from (is_justified_step p earlier r) (are_justified_after p (earlier ++ clause_of r ∷ []) (ss ++ s ∷ [])) a.0
    (justified_more p (earlier ++ clause_of r ∷ []) ss s (subst (λ (cs : List (List ℤ)). IsTrue (is_justified_step p cs s)) (sym (append_assoc earlier (clause_of r ∷ []) (map clause_of ss))) h) a.1)

pub slice_get_read : {A : Type 0} (xs : List A) (k : ℕ) (x : A) → k < length xs → x ≡ get_or xs k x → slice_get xs k ≡ Some x
slice_get_read {A} xs k x h e = slice_get-get_or xs k x h ∙ ap Some (sym e)

pub numbered_is : {A : Type 0} (xs : List A) (n k : ℕ) (d : A) → n ≡ k + 1 → k < length xs → numbered xs n ≡ Some (get_or xs k d)
numbered_is xs zero k d e h = absurd (omega arith)
numbered_is {A} xs (suc n) k d e h = let same : n ≡ k = omega arith in subst (λ (j : ℕ). slice_get xs j ≡ Some (get_or xs k d)) (sym same) (slice_get-get_or xs k d h)

pub length_clauses : (p : Instance) (ss : List Step) → length (clauses_after p ss) ≡ length p.clauses + length ss
length_clauses p ss = length-append p.clauses (map clause_of ss) ∙ ap (λ (m : ℕ). length p.clauses + m) (length-map ss clause_of)

-- the clause of a step's number
pub step_clause : (p : Instance) (ss : List Step) (n k : ℕ) (s : Step) → k ≡ length p.clauses → k < n → n ≤ length (clauses_after p ss) → s ≡ get_or ss (n - k - 1) s → numbered (clauses_after p ss) n ≡ Some (clause_of s)
step_clause p ss n k s e low high is =
    let place : n - 1 - k ≡ n - k - 1 = omega arith in
    let in_steps : n - 1 - k < length ss = omega (arith, length_clauses p ss) in
    numbered_is (clauses_after p ss) n (n - 1) (clause_of s) (omega arith) (omega (arith, high))
    ∙ ap Some (get_or-append_right p.clauses (map clause_of ss) k (n - 1) (clause_of s) (sym e) (omega arith) ∙ get_or-mapped ss (n - 1 - k) s ∙ ap clause_of (ap (λ (j : ℕ). get_or ss j s) place ∙ sym is))
  where
    get_or-mapped : (xs : List Step) (j : ℕ) (d : Step) → get_or (map clause_of xs) j (clause_of d) ≡ clause_of (get_or xs j d)
    get_or-mapped [] j d = refl
    get_or-mapped (x ∷ xs) zero d = refl
    get_or-mapped (x ∷ xs) (suc j) d = get_or-mapped xs j d

-- the clause of a problem's number
pub problem_clause : (p : Instance) (ss : List Step) (n : ℕ) → 1 ≤ n → n ≤ length p.clauses → numbered (clauses_after p ss) n ≡ Some (get_or p.clauses (n - 1) [])
problem_clause p ss n low le =
    numbered_is (clauses_after p ss) n (n - 1) [] (omega arith) (omega (arith, length_clauses p ss)) ∙ ap Some (get_or_append_left p.clauses (map clause_of ss) [] (n - 1) (omega arith))

-- a number keeps its clause
pub numbered_more : {A : Type 0} (xs ys : List A) (n : ℕ) → n ≤ length xs → numbered (xs ++ ys) n ≡ numbered xs n
numbered_more xs ys zero h = refl
numbered_more xs ys (suc n) h = get_more xs ys n h
  where
    get_more : {A : Type 0} (xs ys : List A) (k : ℕ) → k < length xs → slice_get (xs ++ ys) k ≡ slice_get xs k
    get_more [] ys k h = absurd (omega arith)
    get_more (x ∷ xs) ys zero h = refl
    get_more (x ∷ xs) ys (suc k) h = get_more xs ys k (omega arith)
