-- Where a resolvent is, and how a chain grows.
use Rattle.std.proofs.Common.{◌≡◌, ℕ, zero, suc, Bool, true, false, ◌&&◌, ◌==◌, cond, List, [], ◌∷◌, ◌++◌, filter, Option, Some, None, refl, sym, ap, subst, ◌∙◌, ◌⊎◌, inl, inr, ℤ, pos, negsuc, neg_ℤ, arith, eq-eqb, ◌≤◌}
use Rattle.std.specs.Prelude.{IsTrue, option_map, option_and_then}
use Rattle.std.specs.Ordering.{int_eq}
use Rattle.std.specs.List.{list_all, cons_option}
use Rattle.std.proofs.lemmas.Bool.{and_parts, and_from, or_left, or_right, cases_Bool}
use Rattle.std.proofs.lemmas.List.Elements.{filter_map-append}
use Rattle.mono_base.specs.Literal.{var_of, has_lit, without}
use Rattle.mono_steps.specs.Chains.{clashing, only_var, joined_at, resolvent, end_from, chain_end}
use Rattle.mono_problem.specs.Instance.{numbered}
use Rattle.mono_steps.specs.ChainSteps.{clauses_named}
use Rattle.mono_steps.proofs.LitTests.{has-filter}
use Rattle.mono_base.proofs.Truth.{lit_itself}

-- x is in the second clause, its negation in the first, and nothing else clashes
pub record ClashesAt (c d : List ℤ) (x : ℤ) : Type 0 where
  pub positive : 1 ≤ var_of x
  pub first : IsTrue (has_lit c (neg_ℤ x))
  pub second : IsTrue (has_lit d x)
  pub only : (l : ℤ) → IsTrue (has_lit d l) → IsTrue (has_lit c (neg_ℤ l)) → l ≡ x

-- every literal of the list is that one
record AllAre (x : ℤ) (c : List ℤ) : Type 0 where
  are : (l : ℤ) → IsTrue (has_lit c l) → l ≡ x

all_vars : (x : ℤ) (c : List ℤ) → AllAre x c → (v : ℕ) → var_of x ≡ v → IsTrue (list_all (λ m. var_of m == v) c)
all_vars x [] a v e = refl
all_vars x (m ∷ c) a v e =
    let same : var_of m ≡ v = ap var_of (a.are m (or_left (int_eq m m) (has_lit c m) (lit_itself m))) ∙ e in
    and_from (var_of m == v) (list_all (λ k. var_of k == v) c) (eq-eqb (var_of m) v same) (all_vars x c (record { are = λ l h. a.are l (or_right (int_eq l m) (has_lit c l) h) }) v e)

only_var_is : (x : ℤ) (c : List ℤ) → AllAre x c → IsTrue (has_lit c x) → only_var c ≡ Some (var_of x)
only_var_is x [] a h = absurd cc
only_var_is x (m ∷ c) a h =
    let at : m ≡ x = a.are m (or_left (int_eq m m) (has_lit c m) (lit_itself m)) in
    let rest : list_all (λ k. var_of k == var_of m) c ≡ true = all_vars x c (record { are = λ l g. a.are l (or_right (int_eq l m) (has_lit c l) g) }) (var_of m) (ap var_of (sym at)) in
    ap (λ (b : Bool). cond b (Some (var_of m)) None) rest ∙ ap (λ (l : ℤ). Some (var_of l)) at

-- what a filter keeps
pub filter_has : (p : ℤ → Bool) (c : List ℤ) (l : ℤ) → IsTrue (has_lit (filter p c) l) → IsTrue (has_lit c l) × IsTrue (p l)
filter_has p c l h = let a = and_parts (p l) (has_lit c l) (sym (has-filter p c l) ∙ h) in (a.1, a.0)

pub filter_keeps : (p : ℤ → Bool) (c : List ℤ) (l : ℤ) → IsTrue (has_lit c l) → IsTrue (p l) → IsTrue (has_lit (filter p c) l)
filter_keeps p c l h q = has-filter p c l ∙ and_from (p l) (has_lit c l) q h

clash_var : (c d : List ℤ) (x : ℤ) → ClashesAt c d x → only_var (clashing c d) ≡ Some (var_of x)
clash_var c d x k = only_var_is x (clashing c d)
    (record { are = λ l h. let r = filter_has (λ m. has_lit c (neg_ℤ m)) d l h in k.only l r.0 r.1 })
    (filter_keeps (λ m. has_lit c (neg_ℤ m)) d x k.second k.first)

-- what is left where they clash
joined_is : (c d : List ℤ) (x : ℤ) → ClashesAt c d x → joined_at c d (var_of x) ≡ without c (neg_ℤ x) ++ without d x
joined_is c d (pos zero) k = absurd (omega (arith, k.positive))
joined_is c d (pos (suc n)) k =
    let off : (has_lit c (pos (suc n)) && has_lit d (negsuc n)) ≡ false = not_both (cases_Bool (has_lit c (pos (suc n)) && has_lit d (negsuc n))) in
    ap (λ (b : Bool). cond b (without c (pos (suc n)) ++ without d (negsuc n)) (without c (negsuc n) ++ without d (pos (suc n)))) off
  where
    not_both : ((has_lit c (pos (suc n)) && has_lit d (negsuc n)) ≡ true) ⊎ ((has_lit c (pos (suc n)) && has_lit d (negsuc n)) ≡ false) → (has_lit c (pos (suc n)) && has_lit d (negsuc n)) ≡ false
    not_both (inr e) = e
    not_both (inl e) = let p = and_parts (has_lit c (pos (suc n))) (has_lit d (negsuc n)) e in let z : ◌≡◌ {A = ℤ} (negsuc n) (pos (suc n)) = k.only (negsuc n) p.1 p.0 in absurd cc
joined_is c d (negsuc n) k =
    let on : (has_lit c (pos (suc n)) && has_lit d (negsuc n)) ≡ true = and_from (has_lit c (pos (suc n))) (has_lit d (negsuc n)) k.first k.second in
    ap (λ (b : Bool). cond b (without c (pos (suc n)) ++ without d (negsuc n)) (without c (negsuc n) ++ without d (pos (suc n)))) on

-- the resolvent of two clauses that clash in one variable alone
pub resolvent_is : (c d : List ℤ) (x : ℤ) → ClashesAt c d x → resolvent c d ≡ Some (without c (neg_ℤ x) ++ without d x)
resolvent_is c d x k = ap (option_map (joined_at c d)) (clash_var c d x k) ∙ ap Some (joined_is c d x k)

-- a chain that goes one clause further
end_from-push : (c : List ℤ) (ds : List (List ℤ)) (e d : List ℤ) → end_from c ds ≡ Some e → end_from c (ds ++ d ∷ []) ≡ resolvent e d
end_from-push c [] e d h = let same : c ≡ e = cc in subst (λ (x : List ℤ). option_and_then (λ y. end_from y []) (resolvent x d) ≡ resolvent e d) (sym same) (some_end (resolvent e d))
  where
    some_end : (o : Option (List ℤ)) → option_and_then (λ y. end_from y []) o ≡ o
    some_end None = refl
    some_end (Some y) = refl
end_from-push c (b ∷ ds) e d h = onward (resolvent c b) (λ y g. end_from-push y ds e d g) h
  where
    onward : (o : Option (List ℤ)) → ((y : List ℤ) → end_from y ds ≡ Some e → end_from y (ds ++ d ∷ []) ≡ resolvent e d) → option_and_then (λ y. end_from y ds) o ≡ Some e → option_and_then (λ y. end_from y (ds ++ d ∷ [])) o ≡ resolvent e d
    onward None ih g = absurd cc
    onward (Some y) ih g = ih y g

chain_end-push : (cs : List (List ℤ)) (e d : List ℤ) → chain_end cs ≡ Some e → chain_end (cs ++ d ∷ []) ≡ resolvent e d
chain_end-push [] e d h = absurd cc
chain_end-push (c ∷ cs) e d h = end_from-push c cs e d h

pub named-push : (cs : List (List ℤ)) (used : List ℕ) (n : ℕ) (e d : List ℤ) → numbered cs n ≡ Some d → chain_end (clauses_named cs used) ≡ Some e → chain_end (clauses_named cs (used ++ n ∷ [])) ≡ resolvent e d
named-push cs used n e d is h =
    let one : clauses_named cs (n ∷ []) ≡ d ∷ [] = ap (λ (o : Option (List ℤ)). cons_option o []) is in
    ap chain_end (filter_map-append (numbered cs) used (n ∷ []) ∙ ap (λ (xs : List (List ℤ)). clauses_named cs used ++ xs) one) ∙ chain_end-push (clauses_named cs used) e d h
