-- The end of a chain, as its numbers are gone through.
use Rattle.std.proofs.Common.{◌≡◌, ℕ, ◌+◌, ◌<◌, ◌≤◌, Bool, true, false, List, [], ◌∷◌, ◌++◌, take, drop, get_or, length, Option, Some, None, refl, sym, ap, subst, ◌∙◌, ℤ, option_and_then, append_assoc, is_none, not, ◌||◌}
use Rattle.std.specs.List.{cons_option}
use Rattle.std.proofs.lemmas.Option.{same_Some}
use Rattle.std.proofs.lemmas.List.{take_all, take_more, take-append-drop}
use Rattle.std.proofs.lemmas.List.Elements.{filter_map-append}
use Rattle.mono_base.specs.Literal.{within}
use Rattle.mono_problem.specs.Instance.{Instance, numbered}
use Rattle.mono_steps.specs.Chains.{resolvent, end_from, chain_end}
use Rattle.mono_steps.specs.ChainSteps.{clauses_named, covers, names_vars, names_clauses, chain_fault}
use Rattle.mono_steps.specs.Faults.{first_failed}
use Rattle.mono_steps.specs.Current.{IsSetOf, HasCome}
use Rattle.mono_steps.specs.declared.step.Chain.{Chain}
use Rattle.mono_steps.specs.declared.fault.StepFault.TheVariants as fault
use Rattle.mono_steps.proofs.Sets.{within-same}
use Rattle.mono_steps.proofs.SetSteps.{resolvent_same}

-- the set is the end of the chain of these clauses, where it has begun
abbrev pub IsEndOf : List (List ℤ) → Bool → List ℤ → Type 0
IsEndOf cs false s = (cs ≡ []) × (s ≡ [])
IsEndOf cs true s = (e : List ℤ) × (chain_end cs ≡ Some e) × IsSetOf s e

end_from-append : (c e : List ℤ) (cs ds : List (List ℤ)) → end_from c cs ≡ Some e → end_from c (cs ++ ds) ≡ end_from e ds
end_from-append c e [] ds h = ap (λ (x : List ℤ). end_from x ds) (same_Some c e h)
end_from-append c e (b ∷ cs) ds h = onward (resolvent c b) (λ y g. end_from-append y e cs ds g) h
  where
    onward : (o : Option (List ℤ)) → ((y : List ℤ) → end_from y cs ≡ Some e → end_from y (cs ++ ds) ≡ end_from e ds) → option_and_then (λ y. end_from y cs) o ≡ Some e → option_and_then (λ y. end_from y (cs ++ ds)) o ≡ end_from e ds
    onward None ih g = absurd cc
    onward (Some y) ih g = ih y g

chain_end-append : (e : List ℤ) (cs ds : List (List ℤ)) → chain_end cs ≡ Some e → chain_end (cs ++ ds) ≡ end_from e ds
chain_end-append e [] ds h = absurd cc
chain_end-append e (c ∷ cs) ds h = end_from-append c e cs ds h

-- one more number
named_more : (all : List (List ℤ)) (used : List ℕ) (i n : ℕ) (d : List ℤ) → i < length used → get_or used i 0 ≡ n → numbered all n ≡ Some d → clauses_named all (take (i + 1) used) ≡ clauses_named all (take i used) ++ d ∷ []
named_more all used i n d low at is =
    ap (clauses_named all) (take_more used i 0 low) ∙ filter_map-append (numbered all) (take i used) (get_or used i 0 ∷ [])
    ∙ ap (λ (o : Option (List ℤ)). clauses_named all (take i used) ++ cons_option o []) (ap (numbered all) at ∙ is)

pub end_begun : (all : List (List ℤ)) (used : List ℕ) (i n : ℕ) (d s s' : List ℤ) → i < length used → get_or used i 0 ≡ n → numbered all n ≡ Some d
    → IsEndOf (clauses_named all (take i used)) false s → IsSetOf s' d → IsEndOf (clauses_named all (take (i + 1) used)) true s'
end_begun all used i n d s s' low at is so set =
    (d, ap chain_end (named_more all used i n d low at is ∙ ap (λ (cs : List (List ℤ)). cs ++ d ∷ []) so.0), set)

end_resolved : (cs : List (List ℤ)) (s d s' : List ℤ) → IsEndOf cs true s → HasCome (resolvent s d) true s' → IsEndOf (cs ++ d ∷ []) true s'
end_resolved cs s d s' (e, at, is) h = by_resolvent (resolvent e d) refl (resolvent_same s e d s' true is h)
  where
    by_resolvent : (o : Option (List ℤ)) → resolvent e d ≡ o → HasCome o true s' → IsEndOf (cs ++ d ∷ []) true s'
    by_resolvent None r k = absurd cc
    by_resolvent (Some x) r k = (x, chain_end-append e cs (d ∷ []) at ∙ ap (λ (o : Option (List ℤ)). option_and_then (λ y. end_from y []) o) r, k.1)

pub end_goes_on : (all : List (List ℤ)) (used : List ℕ) (i n : ℕ) (d s s' : List ℤ) → i < length used → get_or used i 0 ≡ n → numbered all n ≡ Some d
    → IsEndOf (clauses_named all (take i used)) true s → HasCome (resolvent s d) true s' → IsEndOf (clauses_named all (take (i + 1) used)) true s'
end_goes_on all used i n d s s' low at is so h =
    subst (λ (cs : List (List ℤ)). IsEndOf cs true s') (sym (named_more all used i n d low at is)) (end_resolved (clauses_named all (take i used)) s d s' so h)

none_from : (o : Option (List ℤ)) (s' : List ℤ) → HasCome o false s' → o ≡ None
none_from None s' h = refl
none_from (Some x) s' h = absurd (let e = h.0 in cc)

pub end_stuck : (all : List (List ℤ)) (used : List ℕ) (i n : ℕ) (d s s' : List ℤ) → i < length used → get_or used i 0 ≡ n → numbered all n ≡ Some d
    → IsEndOf (clauses_named all (take i used)) true s → HasCome (resolvent s d) false s' → HasCome (chain_end (clauses_named all used)) false s'
end_stuck all used i n d s s' low at is (e, ended, set) h =
    let stuck = none_from (resolvent e d) s' (resolvent_same s e d s' false set h) in
    let cs = clauses_named all (take i used) in
    let rest = clauses_named all (drop (i + 1) used) in
    let whole : clauses_named all used ≡ cs ++ d ∷ rest = ap (clauses_named all) (sym (take-append-drop (i + 1) used)) ∙ filter_map-append (numbered all) (take (i + 1) used) (drop (i + 1) used)
    ∙ ap (λ (xs : List (List ℤ)). xs ++ rest) (named_more all used i n d low at is) ∙ append_assoc cs (d ∷ []) rest in
    let none : chain_end (clauses_named all used) ≡ None = ap chain_end whole ∙ chain_end-append e cs (d ∷ rest) ended ∙ ap (λ (o : Option (List ℤ)). option_and_then (λ y. end_from y rest) o) stuck in
    subst (λ (o : Option (List ℤ)). HasCome o false s') (sym none) refl

pub end_reached : (all : List (List ℤ)) (used : List ℕ) (i : ℕ) (b : Bool) (s : List ℤ) → length used ≤ i → IsEndOf (clauses_named all (take i used)) b s → HasCome (chain_end (clauses_named all used)) b s
end_reached all used i b s high so = by_begun b (subst (λ (ns : List ℕ). IsEndOf (clauses_named all ns) b s) (take_all i used high) so)
  where
    by_begun : (d : Bool) → IsEndOf (clauses_named all used) d s → HasCome (chain_end (clauses_named all used)) d s
    by_begun false k = subst (λ (cs : List (List ℤ)). HasCome (chain_end cs) false s) (sym k.0) refl
    by_begun true (e, at, is) = subst (λ (o : Option (List ℤ)). HasCome o true s) (sym at) (refl, is)

-- where the end is known as a set, so is whether a clause contains it
pub end_covered : (o : Option (List ℤ)) (c s : List ℤ) (b : Bool) → HasCome o true s → b ≡ within s c → (is_none o ≡ false) × (covers c o ≡ b)
end_covered None c s b h e = absurd cc
end_covered (Some x) c s b h e = (refl, sym (within-same s x c h.1) ∙ sym e)

-- the fault of a chain that names what there is and has an end
pub fault_by_cover : (p : Instance) (earlier : List (List ℤ)) (c : Chain) (lits : List ℤ) (used : List ℕ) (s : List ℤ) (b : Bool) → lits ≡ c.clause → used ≡ c.used
    → true ≡ names_vars p lits → true ≡ names_clauses earlier used → HasCome (chain_end (clauses_named earlier used)) true s → b ≡ within s lits
    → first_failed ((not b, fault.NotCovered) ∷ []) ≡ chain_fault p earlier c
fault_by_cover p earlier c lits used s b lits_are used_are vars clauses come covered =
    let v : names_vars p c.clause ≡ true = ap (names_vars p) (sym lits_are) ∙ sym vars in
    let n : names_clauses earlier c.used ≡ true = ap (names_clauses earlier) (sym used_are) ∙ sym clauses in
    let h : HasCome (chain_end (clauses_named earlier c.used)) true s = subst (λ (ns : List ℕ). HasCome (chain_end (clauses_named earlier ns)) true s) used_are come in
    let k = end_covered (chain_end (clauses_named earlier c.used)) c.clause s b h (covered ∙ ap (within s) lits_are) in
    by_checks true true false b v n k.0 k.1
  where
    by_checks : (v n u d : Bool) → names_vars p c.clause ≡ v → names_clauses earlier c.used ≡ n → is_none (chain_end (clauses_named earlier c.used)) ≡ u → covers c.clause (chain_end (clauses_named earlier c.used)) ≡ d
        → first_failed ((not v || not n, fault.UnknownNumber) ∷ (u, fault.ChainStuck) ∷ (not d, fault.NotCovered) ∷ []) ≡ chain_fault p earlier c
    by_checks v n u d e f g h = rw (e, f, g, h) refl
