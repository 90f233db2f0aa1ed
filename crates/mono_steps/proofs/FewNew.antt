-- There are fewer new clauses than codes: their codes differ, and none is 0.
use Rattle.std.proofs.Common.{◌≡◌, ◌<◌, ◌≤◌, ◌^◌, ℕ, zero, suc, true, false, not, eqb, ◌&&◌, ◌==◌, List, [], ◌∷◌, ◌++◌, length, map, get_or, refl, sym, ◌∙◌, inl, inr, ℤ, arith}
use Rattle.std.specs.Prelude.{IsTrue}
use Rattle.std.specs.List.{list_any, list_all, AllPairs}
use Rattle.std.proofs.lemmas.Bool.{and_parts, and_from, or_cases, not-true, both_ways, ne_eqb, eqb-true}
use Rattle.std.proofs.lemmas.List.{length-map, get_or-map}
use Rattle.std.proofs.lemmas.List.Sums.{AllPass-from_list_all}
use Rattle.std.proofs.lemmas.Map.Keys.{IsDistinct-from_apart}
use Rattle.std.proofs.lemmas.Map.Steps.{length-le_from_distinct_below}
use Rattle.mono_base.specs.Literal.{within, has_opposites}
use Rattle.mono_problem.specs.Instance.{Instance}
use Rattle.mono_steps.specs.declared.step.Step.{Step}
use Rattle.mono_steps.specs.declared.step.Step.TheVariants as step
use Rattle.mono_steps.specs.Chains.{chain_end}
use Rattle.mono_steps.specs.ChainSteps.{names_vars, names_clauses, clauses_named, covers}
use Rattle.mono_steps.specs.Codes.{code}
use Rattle.mono_steps.specs.Journals.{chain_clauses, chain_count}
use Rattle.mono_steps.specs.New.{AreNew}
use Rattle.mono_steps.specs.Steps.{is_justified_step, are_justified_after, are_justified}
use Rattle.mono_steps.proofs.Digits.{code_below, same_code, code_zero}
use Rattle.mono_steps.proofs.NewSteps.{clauses_of_new, all_nonempty, all_one_sign, pairs_apart}

-- clauses that are not empty, have each variable with one sign, and contain no earlier one
record ArePlain (p : Instance) (cs : List (List ℤ)) : Type 0 where
  over : IsTrue (list_all (names_vars p) cs)
  nonempty : IsTrue (list_all (λ c. not (length c == 0)) cs)
  one_sign : IsTrue (list_all (λ c. not (has_opposites c)) cs)
  apart : AllPairs (λ (d c : List ℤ). within d c ≡ false) cs

-- with the code of the empty clause in front
abbrev codes : ℕ → List (List ℤ) → List ℕ
codes vars cs = 0 ∷ map (code vars) cs

codes_apart : (p : Instance) (cs : List (List ℤ)) → ArePlain p cs → (i j d : ℕ) → i < j → j < length (codes p.vars cs) → eqb (get_or (codes p.vars cs) i d) (get_or (codes p.vars cs) j d) ≡ false
codes_apart p cs h i zero d lt low = absurd (omega arith)
codes_apart p cs h zero (suc j) d lt low =
    let in_list : j < length cs = omega (arith, low, length-map cs (code p.vars)) in
    let c = get_or cs j [] in
    let at : get_or (map (code p.vars) cs) j d ≡ code p.vars c = get_or-map (code p.vars) cs j [] d in_list in
    ne_eqb 0 (get_or (map (code p.vars) cs) j d) (λ e. both_ways (length c == 0)
    (not-true (length c == 0) (AllPass-from_list_all (λ (b : List ℤ). not (length b == 0)) cs h.nonempty j [] in_list))
    (code_zero p c (AllPass-from_list_all (names_vars p) cs h.over j [] in_list) (not-true (has_opposites c) (AllPass-from_list_all (λ (b : List ℤ). not (has_opposites b)) cs h.one_sign j [] in_list)) (sym at ∙ sym e)))
codes_apart p cs h (suc i) (suc j) d lt low =
    let in_list : j < length cs = omega (arith, low, length-map cs (code p.vars)) in
    let before : i < length cs = omega (arith, lt, in_list) in
    let b = get_or cs i [] in
    let c = get_or cs j [] in
    let first : get_or (map (code p.vars) cs) i d ≡ code p.vars b = get_or-map (code p.vars) cs i [] d before in
    let second : get_or (map (code p.vars) cs) j d ≡ code p.vars c = get_or-map (code p.vars) cs j [] d in_list in
    ne_eqb (get_or (map (code p.vars) cs) i d) (get_or (map (code p.vars) cs) j d) (λ e. both_ways (within b c)
    (h.apart i j [] (omega (arith, lt)) in_list)
    (same_code p b c (AllPass-from_list_all (names_vars p) cs h.over i [] before) (not-true (has_opposites b) (AllPass-from_list_all (λ (a : List ℤ). not (has_opposites a)) cs h.one_sign i [] before)) (sym first ∙ e ∙ second)))

code_listed : (vars q : ℕ) (cs : List (List ℤ)) → list_any (eqb q) (map (code vars) cs) ≡ true → q < 3 ^ vars
code_listed vars q [] h = absurd cc
code_listed vars q (c ∷ cs) h = elim (or_cases (eqb q (code vars c)) (list_any (eqb q) (map (code vars) cs)) h) [
  | inl e ↦ omega (arith, code_below vars c, eqb-true q (code vars c) e)
  | inr e ↦ code_listed vars q cs e
]

codes_below : (vars q : ℕ) (cs : List (List ℤ)) → list_any (eqb q) (codes vars cs) ≡ true → q < 3 ^ vars
codes_below vars q cs h = elim (or_cases (eqb q 0) (list_any (eqb q) (map (code vars) cs)) h) [
  | inl e ↦ omega (arith, code_below vars [], eqb-true q 0 e)
  | inr e ↦ code_listed vars q cs e
]

fewer : (p : Instance) (cs : List (List ℤ)) → ArePlain p cs → length cs < 3 ^ p.vars
fewer p cs h =
    let few : length (codes p.vars cs) ≤ 3 ^ p.vars = length-le_from_distinct_below (codes p.vars cs) (3 ^ p.vars) (IsDistinct-from_apart eqb (codes p.vars cs) (codes_apart p cs h)) (λ q. codes_below p.vars q cs) in
    omega (arith, few, length-map cs (code p.vars))

pub fewer_over : (p : Instance) (ss : List Step) → AreNew p ss → IsTrue (list_all (names_vars p) (chain_clauses ss)) → chain_count ss < 3 ^ p.vars
fewer_over p ss h over =
    let new = clauses_of_new p ss h in
    let cs = chain_clauses ss in
    fewer p cs (record { over = over; nonempty = all_nonempty p.clauses cs new; one_sign = all_one_sign p.clauses cs new; apart = pairs_apart p.clauses cs new })

-- the chains of justified steps are over the problem's variables
chains_over : (p : Instance) (earlier : List (List ℤ)) (ss : List Step) → IsTrue (are_justified_after p earlier ss) → IsTrue (list_all (names_vars p) (chain_clauses ss))
chains_over p earlier [] h = refl
chains_over p earlier (step.Lemma l ∷ ss) h = chains_over p (earlier ++ l.clause ∷ []) ss (and_parts (is_justified_step p earlier (step.Lemma l)) (are_justified_after p (earlier ++ l.clause ∷ []) ss) h).1
chains_over p earlier (step.Chain c ∷ ss) h =
    let a = and_parts (is_justified_step p earlier (step.Chain c)) (are_justified_after p (earlier ++ c.clause ∷ []) ss) h in
    let b = and_parts (names_vars p c.clause && names_clauses earlier c.used) (covers c.clause (chain_end (clauses_named earlier c.used))) a.0 in
    let n = and_parts (names_vars p c.clause) (names_clauses earlier c.used) b.0 in
    and_from (names_vars p c.clause) (list_all (names_vars p) (chain_clauses ss)) n.0 (chains_over p (earlier ++ c.clause ∷ []) ss a.1)

pub few_are_new : (p : Instance) (ss : List Step) → IsTrue (are_justified p ss) → AreNew p ss → chain_count ss < 3 ^ p.vars
few_are_new p ss j h = fewer_over p ss h (chains_over p p.clauses ss j)

-- as many chains as a budget says are fewer than that
pub enough : (p : Instance) (ss : List Step) (budget : ℕ) → IsTrue (are_justified p ss) → AreNew p ss → budget ≤ chain_count ss → budget < 3 ^ p.vars
enough p ss budget j h le = omega (arith, le, few_are_new p ss j h)
