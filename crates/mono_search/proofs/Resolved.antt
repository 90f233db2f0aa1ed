-- The clauses of justified steps: each is over the problem's variables, and a chain names clauses that are there.
use Rattle.std.proofs.Common.{◌≡◌, ℕ, zero, suc, ◌+◌, ◌≤◌, ◌&&◌, List, [], ◌∷◌, ◌++◌, map, get_or, length, All, sym, subst, ℤ, Some, arith, length-append, append_assoc}
use Rattle.std.specs.Prelude.{IsTrue, slice_get, nat_le}
use Rattle.std.proofs.lemmas.Bool.{and_parts, leb-true}
use Rattle.std.proofs.lemmas.List.{append-nil}
use Rattle.std.proofs.lemmas.List.Elements.{All-append}
use Rattle.std.proofs.lemmas.Option.{slice_get_within, get_or_from_slice_get}
use Rattle.mono_base.specs.Literal.{IsLitWithin}
use Rattle.mono_problem.specs.Instance.{Instance, numbered}
use Rattle.mono_problem.specs.WellFormed.{IsInstance}
use Rattle.mono_steps.specs.declared.step.Chain.{Chain}
use Rattle.mono_steps.specs.declared.step.Step.{Step}
use Rattle.mono_steps.specs.declared.step.Step.TheVariants as step
use Rattle.mono_steps.specs.Chains.{chain_end}
use Rattle.mono_steps.specs.ChainSteps.{names_vars, names_clauses, clauses_named, covers}
use Rattle.mono_steps.specs.Steps.{clause_of, clauses_after, is_justified_step, are_justified_after, are_justified}
use Rattle.mono_steps.proofs.StepLists.{length_clauses}
use Rattle.mono_steps.proofs.StepVars.{vars_within, step_vars}
use Rattle.mono_search.proofs.Growing.{all_at}
use Rattle.mono_search.proofs.Journals.{all_cons}

-- ---- over the problem's variables

chain_names : (p : Instance) (earlier : List (List ℤ)) (c : Chain) → IsTrue (is_justified_step p earlier (step.Chain c)) → IsTrue (names_vars p c.clause) × IsTrue (names_clauses earlier c.used)
chain_names p earlier c h = and_parts (names_vars p c.clause) (names_clauses earlier c.used) (and_parts (names_vars p c.clause && names_clauses earlier c.used) (covers c.clause (chain_end (clauses_named earlier c.used))) h).0

step_within : (p : Instance) (earlier : List (List ℤ)) (s : Step) → IsTrue (is_justified_step p earlier s) → All (IsLitWithin p.vars) (clause_of s)
step_within p earlier s h = vars_within p (clause_of s) (step_vars p earlier s h)

steps_within : (p : Instance) (earlier : List (List ℤ)) (ss : List Step) → All (All (IsLitWithin p.vars)) earlier → IsTrue (are_justified_after p earlier ss) → All (All (IsLitWithin p.vars)) (earlier ++ map clause_of ss)
steps_within p earlier [] all h = subst (λ (cs : List (List ℤ)). All (All (IsLitWithin p.vars)) cs) (sym (append-nil earlier)) all
steps_within p earlier (s ∷ ss) all h =
    let a = and_parts (is_justified_step p earlier s) (are_justified_after p (earlier ++ clause_of s ∷ []) ss) h in
    let one : All (All (IsLitWithin p.vars)) (clause_of s ∷ []) = all_cons (All (IsLitWithin p.vars)) (clause_of s) [] (step_within p earlier s a.0) (λ k d lt. absurd (omega arith)) in
    subst (λ (cs : List (List ℤ)). All (All (IsLitWithin p.vars)) cs) (append_assoc earlier (clause_of s ∷ []) (map clause_of ss))
    (steps_within p (earlier ++ clause_of s ∷ []) ss (All-append (All (IsLitWithin p.vars)) earlier (clause_of s ∷ []) all one) a.1)

pub clauses_within : (p : Instance) (ss : List Step) → IsInstance p → IsTrue (are_justified p ss) → All (All (IsLitWithin p.vars)) (clauses_after p ss)
clauses_within p ss ok h = steps_within p p.clauses ss ok.clauses h

-- what holds of all clauses holds of the one of a number
pub numbered_has : (P : List ℤ → Type 0) (cs : List (List ℤ)) (n : ℕ) (c : List ℤ) → All P cs → numbered cs n ≡ Some c → P c
numbered_has P cs zero c all e = absurd cc
numbered_has P cs (suc k) c all e = subst P (get_or_from_slice_get cs k c c e) (all k c (slice_get_within cs k c e))

-- ---- what chains name

-- the number is that of one of so many clauses
abbrev pub IsNumber : ℕ → ℕ → Type 0
IsNumber count n = (1 ≤ n) × (n ≤ count)

names_all : (earlier : List (List ℤ)) (ns : List ℕ) (more : ℕ) → IsTrue (names_clauses earlier ns) → All (IsNumber (length earlier + more)) ns
names_all earlier ns more h = λ k d lt.
    let n = get_or ns k d in
    let both = and_parts (nat_le 1 n) (nat_le n (length earlier)) (all_at (λ m. nat_le 1 m && nat_le m (length earlier)) ns k d h lt) in
    (leb-true 1 n both.0, omega (arith, leb-true n (length earlier) both.1))

same_some : {A : Type 0} (x y : A) → Some x ≡ Some y → x ≡ y
same_some x y e = cc

chain_numbers : (p : Instance) (earlier : List (List ℤ)) (ss : List Step) (k : ℕ) (c : Chain) → IsTrue (are_justified_after p earlier ss) → slice_get ss k ≡ Some (step.Chain c) → All (IsNumber (length earlier + length ss)) c.used
chain_numbers p earlier [] k c h e = absurd cc
chain_numbers p earlier (s ∷ ss) zero c h e =
    let a = and_parts (is_justified_step p earlier s) (are_justified_after p (earlier ++ clause_of s ∷ []) ss) h in
    names_all earlier c.used (length (s ∷ ss)) (chain_names p earlier c (subst (λ (r : Step). IsTrue (is_justified_step p earlier r)) (same_some s (step.Chain c) e) a.0)).1
chain_numbers p earlier (s ∷ ss) (suc k) c h e =
    let a = and_parts (is_justified_step p earlier s) (are_justified_after p (earlier ++ clause_of s ∷ []) ss) h in
    let more : length (earlier ++ clause_of s ∷ []) + length ss ≡ length earlier + length (s ∷ ss) = omega (arith, length-append earlier (clause_of s ∷ [])) in
    subst (λ (n : ℕ). All (IsNumber n) c.used) more (chain_numbers p (earlier ++ clause_of s ∷ []) ss k c a.1 e)

pub used_numbers : (p : Instance) (ss : List Step) (k : ℕ) (c : Chain) → IsTrue (are_justified p ss) → slice_get ss k ≡ Some (step.Chain c) → All (IsNumber (length (clauses_after p ss))) c.used
used_numbers p ss k c h e = subst (λ (n : ℕ). All (IsNumber n) c.used) (sym (length_clauses p ss)) (chain_numbers p p.clauses ss k c h e)
