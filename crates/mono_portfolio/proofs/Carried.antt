-- Steps over an extended problem are justified on the board.
use Rattle.std.proofs.Common.{◌≡◌, ℕ, zero, suc, ◌+◌, ◌-◌, ◌<◌, ◌≤◌, Bool, true, false, cond, List, [], ◌∷◌, ◌++◌, length, map, get_or, replicate, Some, refl, sym, ap, subst, ◌∙◌, ◌⊎◌, inl, inr, arith, ℤ, All, length-append}
use Rattle.std.specs.Prelude.{IsTrue, nat_le, slice_get}
use Rattle.std.proofs.lemmas.Bool.{and_parts, and_from, le-leb, lt-leb, cases_lt, cond-true, cond-false}
use Rattle.std.proofs.lemmas.Option.{slice_get_within}
use Rattle.std.proofs.lemmas.List.{append_assoc, append-nil, length-map, length-replicate, get_or-append_right, get_or-map, get_or-replicate}
use Rattle.mono_problem.specs.Instance.{Instance, numbered}
use Rattle.mono_steps.specs.declared.step.Step.{Step}
use Rattle.mono_steps.specs.Needed.{is_set}
use Rattle.mono_steps.specs.Renumbering.{pick, rank, with_numbers, steps_with_numbers, KeepsNamed, MayBeCarried}
use Rattle.mono_steps.specs.Steps.{clause_of, clauses_after, is_justified_step, are_justified_after, are_justified, ends_empty, is_refutation}
use Rattle.mono_steps.proofs.CarriedSteps.{carried_justified, ends_carried}
use Rattle.mono_steps.proofs.NeededSteps.{names_held, names_below}
use Rattle.mono_steps.proofs.StepLists.{length_clauses, numbered_is, numbered_more}
use Rattle.mono_steps.proofs.StepVars.{vars_after}
use Rattle.mono_portfolio.specs.Extended.{board_clause, extended, has_chain}
use Rattle.mono_portfolio.specs.Moved.{moved_number, moved}
use Rattle.mono_portfolio.proofs.Held.{IsHeld, held_number, held_clause}

-- ---- the new numbers

pub number_low : (c : ℕ) (taken : List ℕ) (b n : ℕ) → n ≤ c → moved_number c taken b n ≡ n
number_low c taken b n h = cond-true (nat_le n c) n (cond (nat_le n (c + length taken)) (get_or taken (n - c - 1) 0) (n - length taken + b)) (le-leb n c h)

pub number_taken : (c : ℕ) (taken : List ℕ) (b n : ℕ) → c < n → n ≤ c + length taken → moved_number c taken b n ≡ get_or taken (n - c - 1) 0
number_taken c taken b n low high =
    cond-false (nat_le n c) n (cond (nat_le n (c + length taken)) (get_or taken (n - c - 1) 0) (n - length taken + b)) (lt-leb n c low)
    ∙ cond-true (nat_le n (c + length taken)) (get_or taken (n - c - 1) 0) (n - length taken + b) (le-leb n (c + length taken) high)

pub number_behind : (c : ℕ) (taken : List ℕ) (b n : ℕ) → c + length taken < n → moved_number c taken b n ≡ n - length taken + b
number_behind c taken b n h =
    cond-false (nat_le n c) n (cond (nat_le n (c + length taken)) (get_or taken (n - c - 1) 0) (n - length taken + b)) (lt-leb n c (omega arith))
    ∙ cond-false (nat_le n (c + length taken)) (get_or taken (n - c - 1) 0) (n - length taken + b) (lt-leb n (c + length taken) h)

-- ---- the extended problem's clauses have the same ones on the board

abbrev pub on_board : Instance → List Step → List ℕ → ℕ → ℕ
on_board p board taken = moved_number (length p.clauses) taken (length board)

len_of : (p : Instance) (board : List Step) (taken : List ℕ) → length (p.clauses ++ map (board_clause p board) taken) ≡ length p.clauses + length taken
len_of p board taken = length-append p.clauses (map (board_clause p board) taken) ∙ ap (λ (m : ℕ). length p.clauses + m) (length-map taken (board_clause p board))

steps_behind : (p : Instance) (board : List Step) (taken : List ℕ) (k : ℕ) → on_board p board taken (length (extended p board taken).clauses + 1 + k) ≡ length (clauses_after p board) + 1 + k
steps_behind p board taken k =
    let len = len_of p board taken in
    let n : ℕ = length (p.clauses ++ map (board_clause p board) taken) + 1 + k in
    number_behind (length p.clauses) taken (length board) n (omega (arith, len)) ∙ omega (arith, len, length_clauses p board)

same_clause : (p : Instance) (board : List Step) (taken : List ℕ) (n : ℕ) → All (λ n. IsTrue (has_chain p board n)) taken → n ≤ length (extended p board taken).clauses → numbered (clauses_after p board) (on_board p board taken n) ≡ numbered (extended p board taken).clauses n
same_clause p board taken n held high = by_case (cases_lt (length p.clauses) n)
  where
    order : (n c : ℕ) → n - 1 - c ≡ n - c - 1
    order n c = omega arith

    by_case : (length p.clauses < n) ⊎ (n ≤ length p.clauses) → numbered (clauses_after p board) (on_board p board taken n) ≡ numbered (extended p board taken).clauses n
    by_case (inr k) =
        ap (numbered (clauses_after p board)) (number_low (length p.clauses) taken (length board) n k) ∙ numbered_more p.clauses (map clause_of board) n k ∙ sym (numbered_more p.clauses (map (board_clause p board) taken) n k)
    by_case (inl k) =
        let len = len_of p board taken in
        let e = number_taken (length p.clauses) taken (length board) n k (omega (arith, len)) in
        let m : ℕ = get_or taken (n - length p.clauses - 1) 0 in
        let lt : n - length p.clauses - 1 < length taken = omega (arith, len) in
        let at : IsHeld p board m = held_number p board m (held (n - length p.clauses - 1) 0 lt) in
        let here : get_or (p.clauses ++ map (board_clause p board) taken) (n - 1) [] ≡ board_clause p board m =
        get_or-append_right p.clauses (map (board_clause p board) taken) (length p.clauses) (n - 1) [] refl (omega arith)
        ∙ ap (λ (j : ℕ). get_or (map (board_clause p board) taken) j []) (order n (length p.clauses))
        ∙ get_or-map (board_clause p board) taken (n - length p.clauses - 1) 0 [] lt in
        ap (numbered (clauses_after p board)) e ∙ held_clause p board m at
        ∙ sym (numbered_is (p.clauses ++ map (board_clause p board) taken) n (n - 1) [] (omega arith) (omega (arith, len)) ∙ ap Some here)

-- ---- all steps come along

abbrev pub all_set : ℕ → List Bool
all_set n = replicate n true

pick_all : {A : Type 0} (xs : List A) (n : ℕ) → n ≡ length xs → pick (all_set n) xs ≡ xs
pick_all [] zero e = refl
pick_all [] (suc n) e = refl
pick_all (x ∷ xs) zero e = absurd (omega (arith, e))
pick_all {A} (x ∷ xs) (suc n) e = ap (λ (ys : List A). x ∷ ys) (pick_all xs n (omega (arith, e)))

rank_all : (n k : ℕ) → k ≤ n → rank (all_set n) k ≡ k
rank_all zero k le = omega (arith, le)
rank_all (suc n) zero le = refl
rank_all (suc n) (suc k) le = ap suc (rank_all n k (omega (arith, le)))

pub all_carried : (f : ℕ → ℕ) (ss : List Step) → steps_with_numbers f (all_set (length ss)) ss ≡ map (with_numbers f) ss
all_carried f ss = pick_all (map (with_numbers f) ss) (length ss) (sym (length-map ss (with_numbers f)))

may_move : (p : Instance) (board : List Step) (taken : List ℕ) (steps : List Step) → All (λ n. IsTrue (has_chain p board n)) taken → IsTrue (are_justified (extended p board taken) steps)
    → MayBeCarried (extended p board taken) p (extended p board taken).clauses (clauses_after p board) (all_set (length steps)) (on_board p board taken) steps
may_move p board taken steps held j = record { graphs = refl; atoms = refl; named = named; places = places }
  where
    places : (k : ℕ) → k < length steps → on_board p board taken (length (extended p board taken).clauses + 1 + k) ≡ length (clauses_after p board) + 1 + rank (all_set (length steps)) k
    places k lt = steps_behind p board taken k ∙ ap (λ (m : ℕ). length (clauses_after p board) + 1 + m) (sym (rank_all (length steps) k (omega (arith, lt))))

    named : (k : ℕ) (s : Step) → is_set (all_set (length steps)) k ≡ true → slice_get steps k ≡ Some s → KeepsNamed p (extended p board taken).clauses (clauses_after p board) (all_set (length steps)) (on_board p board taken) s
    named k s on at =
        let lt : k < length steps = slice_get_within steps k s at in
        record {
          vars = vars_after (extended p board taken) (extended p board taken).clauses steps k s j at;
          clauses = λ n names le. same_clause p board taken n held le;
          steps = λ i names.
              let below : i < k = names_below (length (extended p board taken).clauses) k i s ((names_held (extended p board taken) steps j).at k s at) names in
              get_or-replicate (length steps) i true false (omega (arith, below, lt));
        }

-- ---- behind the board

justified_join : (p : Instance) (earlier : List (List ℤ)) (ss rs : List Step) → IsTrue (are_justified_after p earlier ss) → IsTrue (are_justified_after p (earlier ++ map clause_of ss) rs) → IsTrue (are_justified_after p earlier (ss ++ rs))
justified_join p earlier [] rs h k = subst (λ (cs : List (List ℤ)). IsTrue (are_justified_after p cs rs)) (append-nil earlier) k
justified_join p earlier (s ∷ ss) rs h k =
    let a = and_parts (is_justified_step p earlier s) (are_justified_after p (earlier ++ clause_of s ∷ []) ss) h in
    and_from (is_justified_step p earlier s) (are_justified_after p (earlier ++ clause_of s ∷ []) (ss ++ rs)) a.0
    (justified_join p (earlier ++ clause_of s ∷ []) ss rs a.1 (subst (λ (cs : List (List ℤ)). IsTrue (are_justified_after p cs rs)) (sym (append_assoc earlier (clause_of s ∷ []) (map clause_of ss))) k))

pub moved_justified : (p : Instance) (board : List Step) (taken : List ℕ) (steps : List Step) → IsTrue (are_justified p board) → All (λ n. IsTrue (has_chain p board n)) taken
    → IsTrue (are_justified (extended p board taken) steps) → IsTrue (are_justified p (board ++ moved p steps taken board))
moved_justified p board taken steps h held j =
    justified_join p p.clauses board (moved p steps taken board) h
    (subst (λ (ss : List Step). IsTrue (are_justified_after p (clauses_after p board) ss)) (all_carried (on_board p board taken) steps)
    (carried_justified (extended p board taken) p (extended p board taken).clauses (clauses_after p board) (all_set (length steps)) (on_board p board taken) steps (may_move p board taken steps held j) j))

ends_behind : (ss rs : List Step) → IsTrue (ends_empty rs) → IsTrue (ends_empty (ss ++ rs))
ends_behind [] rs h = h
ends_behind (s ∷ []) [] h = absurd cc
ends_behind (s ∷ []) (r ∷ rs) h = h
ends_behind (s ∷ t ∷ ss) rs h = ends_behind (t ∷ ss) rs h

some_steps : (ss : List Step) → IsTrue (ends_empty ss) → 0 < length ss
some_steps [] h = absurd cc
some_steps (s ∷ ss) h = omega arith

pub moved_refutes : (p : Instance) (board : List Step) (taken : List ℕ) (steps : List Step) → IsTrue (are_justified p board) → All (λ n. IsTrue (has_chain p board n)) taken
    → IsTrue (is_refutation (extended p board taken) steps) → IsTrue (is_refutation p (board ++ moved p steps taken board))
moved_refutes p board taken steps h held r =
    let a = and_parts (are_justified (extended p board taken) steps) (ends_empty steps) r in
    let last : is_set (all_set (length steps)) (length steps - 1) ≡ true = get_or-replicate (length steps) (length steps - 1) true false (omega (arith, some_steps steps a.1)) in
    let ends : IsTrue (ends_empty (moved p steps taken board)) =
    subst (λ (ss : List Step). IsTrue (ends_empty ss)) (all_carried (on_board p board taken) steps) (ends_carried (on_board p board taken) (all_set (length steps)) steps (length-replicate (length steps) true) last a.1) in
    and_from (are_justified p (board ++ moved p steps taken board)) (ends_empty (board ++ moved p steps taken board)) (moved_justified p board taken steps h held a.0) (ends_behind board (moved p steps taken board) ends)
