-- What is found of the worked problems.
use Rattle.std.proofs.Common.{◌≡◌, ℕ, zero, suc, ◌+◌, ◌<◌, ◌&&◌, ◌||◌, Bool, true, false, List, [], ◌∷◌, length, refl, subst, sym, arith, pos, ◌↔◌}
use Rattle.std.specs.Prelude.{IsTrue, Some, slice_get}
use Rattle.std.proofs.lemmas.List.Elements.{All-cons, All-nil}
use Rattle.std.proofs.lemmas.Option.{same_Some}
use Rattle.mono_base.specs.declared.limits.TheConstants.{MAX_BOUND}
use Rattle.mono_base.specs.Literal.{value_in}
use Rattle.mono_graph.specs.declared.limit.Limit.TheVariants as limit
use Rattle.mono_graph.specs.Digraph.{enabled, present}
use Rattle.mono_graph.specs.Worked.{amount, both, label, pipe}
use Rattle.mono_graph.proofs.CutsBoundWalks.{labelling_excludes}
use Rattle.mono_graph.specs.Flows.{amount_at}
use Rattle.mono_problem.specs.declared.atom.Atom.{Atom}
use Rattle.mono_problem.specs.declared.atom.Predicate.TheVariants as kind
use Rattle.mono_problem.specs.Holds.{Holds, HoldsAtom, Satisfies}
use Rattle.mono_problem.specs.Read.{no_atom}
use Rattle.mono_problem.proofs.Monotone.{Holds-larger}
use Rattle.mono_search.specs.Outcomes.{HasModel}
use Rattle.mono_steps.specs.declared.step.Step.{Step}
use Rattle.mono_steps.specs.Renumbering.{names_step}
use Rattle.mono_steps.specs.Trimmed.{IsNamedLater}
use Rattle.mono_steps.specs.WorkedLemmas.{chain}
use Rattle.mono_best.specs.Asking.{asking, asked_atom}
use Rattle.mono_best.specs.Worked.{weighed, distance_to_2, wide, both_there, none_of_4, four_refuted, four_refuted_twice, all_refuted}

pub five_met : Satisfies (asking (weighed []) 1 (pos 5)) (value_in both_there)
five_met =
    let P : Atom → Type 0 = λ x. IsTrue (value_in both_there x.var) ↔ HoldsAtom (weighed []) (value_in both_there) x in
    let first : P (distance_to_2 1 5 (pos 9)) = ((λ e. (0 ∷ 1 ∷ [], refl)), (λ h. refl)) in
    let second : P (distance_to_2 2 6 (pos 5)) = ((λ e. (0 ∷ 1 ∷ [], refl)), (λ h. refl)) in
    (refl, All-cons P (distance_to_2 1 5 (pos 9)) (distance_to_2 2 6 (pos 5) ∷ []) first (All-cons P (distance_to_2 2 6 (pos 5)) [] second (All-nil P)))

pub six_met : Satisfies (asking (weighed []) 1 (pos 6)) (value_in both_there)
six_met =
    let P : Atom → Type 0 = λ x. IsTrue (value_in both_there x.var) ↔ HoldsAtom (weighed []) (value_in both_there) x in
    let first : P (distance_to_2 1 5 (pos 9)) = ((λ e. (0 ∷ 1 ∷ [], refl)), (λ h. refl)) in
    let second : P (distance_to_2 2 6 (pos 6)) = ((λ e. (0 ∷ 1 ∷ [], refl)), (λ h. refl)) in
    (refl, All-cons P (distance_to_2 1 5 (pos 9)) (distance_to_2 2 6 (pos 6) ∷ []) first (All-cons P (distance_to_2 2 6 (pos 6)) [] second (All-nil P)))

-- with some of the edges no walk weighs 4 or less
in_both : (x y : Bool) (k : ℕ) → IsTrue (present (x ∷ y ∷ []) k) → IsTrue (present both k)
in_both x y zero h = refl
in_both x y (suc zero) h = refl
in_both x y (suc (suc k)) h = h

pub none_of_four : (a : ℕ → Bool) → Holds (pipe 3 2) (enabled a (pipe 3 2)) (kind.Distance 0 2 (pos 4)) → ⊥
none_of_four a h =
    let larger = Holds-larger (pipe 3 2) (enabled a (pipe 3 2)) both (record { keeps = in_both (a 1) (a 2) }) (kind.Distance 0 2 (pos 4)) refl h in
    labelling_excludes (pipe 3 2) both 0 2 (limit.Weight (pos 4)) (label 0 0 ∷ label 1 3 ∷ label 2 5 ∷ []) larger.0 (λ e. cc) refl larger.1

pub four_not_met : (model : List Bool) → HasModel (asking (weighed []) 1 (pos 4)) model → ⊥
four_not_met model h = none_of_four (value_in model) ((h.satisfies.1 1 no_atom (omega arith)).0 (by (value_in model 6) h.satisfies.0))
  where
    by : (b : Bool) → IsTrue ((b || false) && true) → IsTrue b
    by true e = refl
    by false e = absurd cc

abbrev full : ℕ → ℕ
full = amount_at (amount 0 (MAX_BOUND + 1) ∷ amount 1 (MAX_BOUND + 1) ∷ [])

pub wide_met : Satisfies (asking wide 1 (pos (MAX_BOUND + 1))) (value_in both_there)
wide_met =
    let P : Atom → Type 0 = λ x. IsTrue (value_in both_there x.var) ↔ HoldsAtom wide (value_in both_there) x in
    let x = asked_atom wide 1 (pos 1) in
    let one : Atom = record x { number = 1; var = 5 } in
    let two = asked_atom wide 1 (pos (MAX_BOUND + 1)) in
    let first : P one = ((λ e. (full, refl)), (λ h. refl)) in
    let second : P two = ((λ e. (full, refl)), (λ h. refl)) in
    (refl, All-cons P one (two ∷ []) first (All-cons P two [] second (All-nil P)))

pub four_named : (k : ℕ) → k + 1 < length four_refuted → IsNamedLater 1 four_refuted k
four_named zero lt = record { later = 1; after = omega arith; step = chain [] (2 ∷ 1 ∷ []); is = refl; names = refl }
four_named (suc k) lt = absurd (omega (arith, lt))

pub all_named : (k : ℕ) → k + 1 < length all_refuted → IsNamedLater 2 all_refuted k
all_named zero lt = record { later = 1; after = omega arith; step = chain [] (3 ∷ 2 ∷ 1 ∷ []); is = refl; names = refl }
all_named (suc k) lt = absurd (omega (arith, lt))

pub first_not_named : IsNamedLater 1 four_refuted_twice 0 → ⊥
first_not_named h = by h.later h.step h.is h.names
  where
    by : (later : ℕ) (s : Step) → slice_get four_refuted_twice later ≡ Some s → IsTrue (names_step 1 s 0) → ⊥
    by zero s is names = let e = same_Some none_of_4 s is in let x = subst (λ (t : Step). IsTrue (names_step 1 t 0)) (sym e) names in cc
    by (suc zero) s is names = let e = same_Some none_of_4 s is in let x = subst (λ (t : Step). IsTrue (names_step 1 t 0)) (sym e) names in cc
    by (suc (suc zero)) s is names = let e = same_Some (chain [] (3 ∷ 1 ∷ [])) s is in let x = subst (λ (t : Step). IsTrue (names_step 1 t 0)) (sym e) names in cc
    by (suc (suc (suc n))) s is names = cc
