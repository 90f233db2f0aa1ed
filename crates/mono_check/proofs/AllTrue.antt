-- There is no first false clause exactly where every clause is true.
use Rattle.std.proofs.Common.{◌≡◌, ℕ, suc, ◌+◌, Bool, true, false, not, ◌&&◌, cond, List, [], ◌∷◌, length, Some, None, option_map, refl, sym, ◌∙◌, ◌↔◌, inl, inr, ℤ, arith}
use Rattle.std.specs.Prelude.{IsTrue, nat_lt}
use Rattle.std.specs.List.{position_or_len}
use Rattle.std.proofs.lemmas.Bool.{lt-ltb, le-ltb, cases_lt}
use Rattle.mono_base.specs.Literal.{clause_true, all_true, first_false}

ltb-suc : (a b : ℕ) → nat_lt (1 + a) (suc b) ≡ nat_lt a b
ltb-suc a b = elim (cases_lt a b) [
  | inl lt ↦ lt-ltb (1 + a) (suc b) (omega arith) ∙ sym (lt-ltb a b lt)
  | inr le ↦ le-ltb (1 + a) (suc b) (omega arith) ∙ sym (le-ltb a b le)
]

abbrev false_place : (ℕ → Bool) → List (List ℤ) → ℕ
false_place a cs = position_or_len (λ c. not (clause_true a c)) cs

none_before_end : (a : ℕ → Bool) (cs : List (List ℤ)) → nat_lt (false_place a cs) (length cs) ≡ not (all_true a cs)
none_before_end a [] = refl
none_before_end a (c ∷ cs) = by_head (clause_true a c) (none_before_end a cs)
  where
    by_head : (t : Bool) → nat_lt (false_place a cs) (length cs) ≡ not (all_true a cs) → nat_lt (cond (not (not t)) (1 + false_place a cs) 0) (suc (length cs)) ≡ not (t && all_true a cs)
    by_head true ih = ltb-suc (false_place a cs) (length cs) ∙ ih
    by_head false ih = lt-ltb 0 (suc (length cs)) (omega arith)

pub none_false : (a : ℕ → Bool) (cs : List (List ℤ)) → (first_false a cs ≡ None) ↔ IsTrue (all_true a cs)
none_false a cs = by_test (nat_lt (false_place a cs) (length cs)) (all_true a cs) (none_before_end a cs)
  where
    by_test : (b t : Bool) → b ≡ not t → (option_map (λ k. k + 1) (cond b (Some (false_place a cs)) None) ≡ None) ↔ IsTrue t
    by_test true true e = absurd cc
    by_test true false e = (λ h. absurd cc, λ h. absurd cc)
    by_test false true e = (λ h. refl, λ h. refl)
    by_test false false e = absurd cc
