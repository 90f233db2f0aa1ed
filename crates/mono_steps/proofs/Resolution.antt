-- Resolution is sound, and it reads clauses as sets.
use Rattle.std.proofs.Common.{◌≡◌, ℕ, Bool, true, false, not, ◌&&◌, List, [], ◌∷◌, ◌++◌, Option, Some, None, refl, sym, ap, subst, ◌∙◌, inl, inr, ℤ, pos, neg_ℤ, option_map, option_and_then}
use Rattle.std.specs.Prelude.{IsTrue, if◌then◌else◌}
use Rattle.std.specs.Ordering.{int_eq}
use Rattle.std.proofs.lemmas.Bool.{and_parts, or_left, or_right, cases_Bool}
use Rattle.std.proofs.lemmas.Option.{same_Some}
use Rattle.mono_base.specs.Literal.{lit_true, clause_true, all_true, has_lit, without}
use Rattle.mono_base.proofs.Truth.{true_by, true_lit, same_lit, opposite}
use Rattle.mono_steps.specs.Chains.{clashing, only_var, joined_at, resolvent, end_from, chain_end}
use Rattle.mono_steps.proofs.Sets.{has-append, has-without}

-- a literal other than the one left out stays
stays : (c : List ℤ) (l m : ℤ) → int_eq l m ≡ false → IsTrue (has_lit c m) → IsTrue (has_lit (without c l) m)
stays c l m other h = has-without c l m ∙ ap (λ (b : Bool). not b && has_lit c m) other ∙ h

-- what is left of two true clauses, without two literals that are not both true, is true
joined_true : (a : ℕ → Bool) (c d : List ℤ) (l m : ℤ) → (IsTrue (lit_true a l) → IsTrue (lit_true a m) → ⊥) → IsTrue (clause_true a c) → IsTrue (clause_true a d) → IsTrue (clause_true a (without c l ++ without d m))
joined_true a c d l m never hc hd =
    let r = true_lit a c hc in
    let s = true_lit a d hd in
    elim (cases_Bool (int_eq l r.lit)) [
      | inr other ↦ true_by a r.lit (without c l ++ without d m) (has-append (without c l) (without d m) r.lit ∙ or_left (has_lit (without c l) r.lit) (has_lit (without d m) r.lit) (stays c l r.lit other r.has)) r.holds
      | inl same ↦ elim (cases_Bool (int_eq m s.lit)) [
        | inr other ↦ true_by a s.lit (without c l ++ without d m) (has-append (without c l) (without d m) s.lit ∙ or_right (has_lit (without c l) s.lit) (has_lit (without d m) s.lit) (stays d m s.lit other s.has)) s.holds
        | inl same' ↦ absurd (never (subst (λ (x : ℤ). IsTrue (lit_true a x)) (sym (same_lit l r.lit same)) r.holds) (subst (λ (x : ℤ). IsTrue (lit_true a x)) (sym (same_lit m s.lit same')) s.holds))
      ]
    ]

joined_at_true : (a : ℕ → Bool) (c d : List ℤ) (x : ℕ) → IsTrue (clause_true a c) → IsTrue (clause_true a d) → IsTrue (clause_true a (joined_at c d x))
joined_at_true a c d x hc hd = choose (has_lit c (pos x) && has_lit d (neg_ℤ (pos x)))
  where
    choose : (b : Bool) → IsTrue (clause_true a (if b then without c (pos x) ++ without d (neg_ℤ (pos x)) else without c (neg_ℤ (pos x)) ++ without d (pos x)))
    choose true = joined_true a c d (pos x) (neg_ℤ (pos x)) (opposite a (pos x)) hc hd
    choose false = joined_true a c d (neg_ℤ (pos x)) (pos x) (λ n p. opposite a (pos x) p n) hc hd

-- the fact holds of the value, if there is one
pub record HoldsOf {A : Type 0} (P : A → Type 0) (o : Option A) : Type 0 where
  pub of : (x : A) → o ≡ Some x → P x

pub resolvent_true : (a : ℕ → Bool) (c d : List ℤ) → IsTrue (clause_true a c) → IsTrue (clause_true a d) → HoldsOf (λ (e : List ℤ). IsTrue (clause_true a e)) (resolvent c d)
resolvent_true a c d hc hd = by_var (only_var (clashing c d))
  where
    by_var : (o : Option ℕ) → HoldsOf (λ (e : List ℤ). IsTrue (clause_true a e)) (option_map (joined_at c d) o)
    by_var None = record { of = λ x e. absurd cc }
    by_var (Some x) = record { of = λ y e. subst (λ (z : List ℤ). IsTrue (clause_true a z)) (same_Some (joined_at c d x) y e) (joined_at_true a c d x hc hd) }

end_from_true : (a : ℕ → Bool) (c : List ℤ) (ds : List (List ℤ)) → IsTrue (clause_true a c) → IsTrue (all_true a ds) → HoldsOf (λ (e : List ℤ). IsTrue (clause_true a e)) (end_from c ds)
end_from_true a c [] hc hds = record { of = λ y e. subst (λ (z : List ℤ). IsTrue (clause_true a z)) (same_Some c y e) hc }
end_from_true a c (d ∷ ds) hc hds =
    let p = and_parts (clause_true a d) (all_true a ds) hds in
    onward (resolvent c d) (resolvent_true a c d hc p.0) (λ e he. end_from_true a e ds he p.1)
  where
    onward : (o : Option (List ℤ)) → HoldsOf (λ (e : List ℤ). IsTrue (clause_true a e)) o
        → ((e : List ℤ) → IsTrue (clause_true a e) → HoldsOf (λ (x : List ℤ). IsTrue (clause_true a x)) (end_from e ds))
        → HoldsOf (λ (e : List ℤ). IsTrue (clause_true a e)) (option_and_then (λ e. end_from e ds) o)
    onward None h rest = record { of = λ x e. absurd cc }
    onward (Some e) h rest = rest e (h.of e refl)

pub chain_end_true : (a : ℕ → Bool) (cs : List (List ℤ)) → IsTrue (all_true a cs) → HoldsOf (λ (e : List ℤ). IsTrue (clause_true a e)) (chain_end cs)
chain_end_true a [] h = record { of = λ x e. absurd cc }
chain_end_true a (c ∷ ds) h = let p = and_parts (clause_true a c) (all_true a ds) h in end_from_true a c ds p.0 p.1
