-- What holds under assumptions holds under fewer of them.
use Rattle.std.proofs.Common.{◌≡◌, ℕ, suc, ◌≤◌, Bool, true, false, List, [], ◌∷◌, map, max, refl, sym, subst, arith, ℤ}
use Rattle.std.specs.Prelude.{IsTrue, nat_abs}
use Rattle.std.proofs.lemmas.Bool.{and_parts, and_from}
use Rattle.std.proofs.lemmas.List.Folds.{list_all-append}
use Rattle.mono_base.specs.Literal.{clause_true, all_true, value_in}
use Rattle.mono_problem.specs.Instance.{Instance}
use Rattle.mono_problem.specs.Growth.{greatest_var}
use Rattle.mono_steps.specs.Renumbering.{pick}
use Rattle.mono_steps.specs.Needed.{is_set}
use Rattle.mono_problem.specs.Assuming.{assuming}
use Rattle.mono_core.specs.Cores.{IsWideModel}
use Rattle.mono_problem.proofs.Assumed.{greatest_low}

-- every flag that is set in the first list is set in the second
abbrev Within : List Bool → List Bool → Type 0
Within cs bs = (i : ℕ) → is_set cs i ≡ true → is_set bs i ≡ true

units_fewer : (a : ℕ → Bool) (xs : List ℤ) (bs cs : List Bool) → Within cs bs → IsTrue (all_true a (map (λ l. l ∷ []) (pick bs xs))) → IsTrue (all_true a (map (λ l. l ∷ []) (pick cs xs)))
units_fewer a xs bs [] w h = refl
units_fewer a [] bs (c ∷ cs) w h = refl
units_fewer a (x ∷ xs) [] (true ∷ cs) w h = let e : false ≡ true = w 0 refl in absurd cc
units_fewer a (x ∷ xs) [] (false ∷ cs) w h = units_fewer a xs [] cs (λ i s. w (suc i) s) h
units_fewer a (x ∷ xs) (true ∷ bs) (true ∷ cs) w h =
    let both = and_parts (clause_true a (x ∷ [])) (all_true a (map (λ l. l ∷ []) (pick bs xs))) h in
    and_from (clause_true a (x ∷ [])) (all_true a (map (λ l. l ∷ []) (pick cs xs))) both.0 (units_fewer a xs bs cs (λ i s. w (suc i) s) both.1)
units_fewer a (x ∷ xs) (false ∷ bs) (true ∷ cs) w h = let e : false ≡ true = w 0 refl in absurd cc
units_fewer a (x ∷ xs) (true ∷ bs) (false ∷ cs) w h = units_fewer a xs bs cs (λ i s. w (suc i) s) (and_parts (clause_true a (x ∷ [])) (all_true a (map (λ l. l ∷ []) (pick bs xs))) h).1
units_fewer a (x ∷ xs) (false ∷ bs) (false ∷ cs) w h = units_fewer a xs bs cs (λ i s. w (suc i) s) h

greatest_more : (v w : ℕ) (xs : List ℤ) → v ≤ w → greatest_var v xs ≤ greatest_var w xs
greatest_more v w [] h = h
greatest_more v w (x ∷ xs) h = greatest_more (max v (nat_abs x)) (max w (nat_abs x)) xs (omega (arith, h))

greatest_fewer : (v w : ℕ) (xs : List ℤ) (bs cs : List Bool) → v ≤ w → Within cs bs → greatest_var v (pick cs xs) ≤ greatest_var w (pick bs xs)
greatest_fewer v w xs bs [] up h = omega (arith, greatest_low w (pick bs xs), up)
greatest_fewer v w [] [] (c ∷ cs) up h = up
greatest_fewer v w [] (b ∷ bs) (c ∷ cs) up h = up
greatest_fewer v w (x ∷ xs) [] (true ∷ cs) up h = let e : false ≡ true = h 0 refl in absurd cc
greatest_fewer v w (x ∷ xs) [] (false ∷ cs) up h = greatest_fewer v w xs [] cs up (λ i s. h (suc i) s)
greatest_fewer v w (x ∷ xs) (true ∷ bs) (true ∷ cs) up h = greatest_fewer (max v (nat_abs x)) (max w (nat_abs x)) xs bs cs (omega (arith, up)) (λ i s. h (suc i) s)
greatest_fewer v w (x ∷ xs) (false ∷ bs) (true ∷ cs) up h = let e : false ≡ true = h 0 refl in absurd cc
greatest_fewer v w (x ∷ xs) (true ∷ bs) (false ∷ cs) up h = greatest_fewer v (max w (nat_abs x)) xs bs cs (omega (arith, up)) (λ i s. h (suc i) s)
greatest_fewer v w (x ∷ xs) (false ∷ bs) (false ∷ cs) up h = greatest_fewer v w xs bs cs up (λ i s. h (suc i) s)

pub wide_fewer : (p : Instance) (xs : List ℤ) (bs cs : List Bool) (values : List Bool) → Within cs bs → IsWideModel (assuming p (pick bs xs)) values → IsWideModel (assuming p (pick cs xs)) values
wide_fewer p xs bs cs values w h =
    let a = value_in values in
    let more = map (λ (l : ℤ). l ∷ []) (pick bs xs) in
    let fewer = map (λ (l : ℤ). l ∷ []) (pick cs xs) in
    let both = and_parts (all_true a p.clauses) (all_true a more) (subst (λ (v : Bool). IsTrue v) (list_all-append (clause_true a) p.clauses more) h.satisfies.0) in
    let all = and_from (all_true a p.clauses) (all_true a fewer) both.0 (units_fewer a xs bs cs w both.1) in
    record {
      enough = omega (arith, greatest_fewer p.vars p.vars xs bs cs (omega arith) w, h.enough);
      satisfies = (subst (λ (v : Bool). IsTrue v) (sym (list_all-append (clause_true a) p.clauses fewer)) all, h.satisfies.1);
    }
