-- Rows of what searches find.
use Rattle.std.proofs.Common.{ℕ, zero, suc, Bool, false, true, List, [], ◌∷◌, refl, pos, ◌≡◌, ◌≤ℤ◌, arith}
use Rattle.std.specs.Prelude.{IsTrue, All}
use Rattle.std.proofs.lemmas.Bool.{and_parts, ne_eqb}
use Rattle.std.proofs.lemmas.Int.{ints}
use Rattle.std.proofs.lemmas.List.Elements.{All-nil, All-cons, All-head, All-tail}
use Rattle.mono_graph.specs.declared.label.Label.{Label}
use Rattle.mono_graph.specs.declared.limit.Limit.{Limit}
use Rattle.mono_graph.specs.declared.limit.Limit.TheVariants as limit
use Rattle.mono_graph.specs.Digraph.{has, is_distinct}
use Rattle.mono_graph.specs.Walks.{bound_of, is_light, is_walk}
use Rattle.mono_graph.specs.Worked.{label, pipe, triangle, both, first_alone}
use Rattle.mono_graph.proofs.CutsBoundWalks.{cut_excludes, labelling_excludes}
use Rattle.mono_paths.specs.Asked.{HasPath}
use Rattle.mono_paths.specs.Found.{with_bound}
use Rattle.mono_trees.specs.Unbridged.{IsUnbridged}

-- ---- sets

abbrev IsReached : ℕ → Type 0
IsReached v = HasPath (pipe 1 1) first_alone 0 v limit.Free

abbrev pub AreReached : List ℕ → Type 0
AreReached s = IsTrue (is_distinct s) × All (λ v. HasPath (pipe 1 1) first_alone 0 v limit.Free) s

pub both_reached : AreReached (1 ∷ 0 ∷ [])
both_reached = (refl, All-cons IsReached 1 (0 ∷ []) (0 ∷ [], refl) (All-cons IsReached 0 [] ([], refl) (All-nil IsReached)))

pub none_twice : AreReached (0 ∷ 0 ∷ []) → ⊥
none_twice r = let e : false ≡ true = r.0 in cc

pub not_2 : AreReached (0 ∷ 2 ∷ []) → ⊥
not_2 r =
    let there = All-head IsReached 2 [] (All-tail IsReached 0 (2 ∷ []) r.1) in
    cut_excludes (pipe 1 1) first_alone 0 2 (0 ∷ 1 ∷ []) there.0 refl (and_parts (is_walk (pipe 1 1) first_alone 0 2 there.0) (is_light limit.Free (pipe 1 1) there.0) there.1).0

-- ---- labels

abbrev IsReachedLabel : Limit → Label → Type 0
IsReachedLabel l x = (pos x.value ≤ℤ bound_of l) × HasPath (pipe 3 2) both 0 x.node (with_bound l (pos x.value))

abbrev pub AreReachedLabels : Limit → List Label → Type 0
AreReachedLabels l ls = All (λ x. (pos x.value ≤ℤ bound_of l) × HasPath (pipe 3 2) both 0 x.node (with_bound l (pos x.value))) ls

pub weighs_5 : AreReachedLabels (limit.Weight (pos 5)) (label 2 5 ∷ [])
weighs_5 = All-cons (IsReachedLabel (limit.Weight (pos 5))) (label 2 5) [] (omega (arith, ints), (0 ∷ 1 ∷ [], refl)) (All-nil (IsReachedLabel (limit.Weight (pos 5))))

pub takes_2 : AreReachedLabels (limit.Steps (pos 5)) (label 2 2 ∷ [])
takes_2 = All-cons (IsReachedLabel (limit.Steps (pos 5))) (label 2 2) [] (omega (arith, ints), (0 ∷ 1 ∷ [], refl)) (All-nil (IsReachedLabel (limit.Steps (pos 5))))

pub not_4 : AreReachedLabels (limit.Weight (pos 5)) (label 2 4 ∷ []) → ⊥
not_4 r =
    let there = (All-head (IsReachedLabel (limit.Weight (pos 5))) (label 2 4) [] r).1 in
    labelling_excludes (pipe 3 2) both 0 2 (limit.Weight (pos 4)) (label 0 0 ∷ label 1 3 ∷ []) there.0 (λ e. absurd cc) refl there.1

pub not_1 : AreReachedLabels (limit.Steps (pos 5)) (label 2 1 ∷ []) → ⊥
not_1 r =
    let there = (All-head (IsReachedLabel (limit.Steps (pos 5))) (label 2 1) [] r).1 in
    labelling_excludes (pipe 3 2) both 0 2 (limit.Steps (pos 1)) (label 0 0 ∷ label 1 1 ∷ []) there.0 (λ e. absurd cc) refl there.1

pub not_above_4 : AreReachedLabels (limit.Weight (pos 4)) (label 2 5 ∷ []) → ⊥
not_above_4 r = let low = (All-head (IsReachedLabel (limit.Weight (pos 4))) (label 2 5) [] r).0 in omega (arith, ints, low)

-- ---- the absent third edge of a triangle

abbrev two_of_three : List Bool
two_of_three = true ∷ true ∷ false ∷ []

pub third_alone : (k : ℕ) → IsTrue (has (2 ∷ []) k) → IsUnbridged (triangle 4 2 1) two_of_three (0 ∷ 1 ∷ []) k
third_alone zero h = let e : false ≡ true = h in absurd cc
third_alone (suc zero) h = let e : false ≡ true = h in absurd cc
third_alone (suc (suc zero)) h = record { place = omega arith; absent = refl; apart = refl }
third_alone (suc (suc (suc k))) h = let e = ne_eqb 2 (suc (suc (suc k))) (λ e. omega (arith, e)) in absurd cc

pub third_is_listed : (k : ℕ) → IsUnbridged (triangle 4 2 1) two_of_three (0 ∷ 1 ∷ []) k → IsTrue (has (2 ∷ []) k)
third_is_listed zero u = let e : true ≡ false = u.absent in absurd cc
third_is_listed (suc zero) u = let e : true ≡ false = u.absent in absurd cc
third_is_listed (suc (suc zero)) u = refl
third_is_listed (suc (suc (suc k))) u = let place = u.place in absurd (omega (arith, place))
