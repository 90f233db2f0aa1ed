-- Two predicates over an edge there and one back, and which of them are right.
use Rattle.std.proofs.Common.{[], ◌∷◌, true, false, refl, arith, inl, inr}
use Rattle.std.specs.Prelude.{ℕ, List, IsTrue, All}
use Rattle.std.proofs.lemmas.Bool.{and_parts}
use Rattle.std.proofs.lemmas.List.Elements.{All-cons, All-nil}
use Rattle.mono_base.specs.Literal.{value_in}
use Rattle.mono_graph.specs.Worked.{round_trip}
use Rattle.mono_graph.specs.declared.limit.Limit.TheVariants as limit
use Rattle.mono_graph.specs.Walks.{is_light, is_path, is_walk}
use Rattle.mono_graph.specs.Cycles.{IsAcyclic}
use Rattle.mono_graph.proofs.CutsBoundWalks.{cut_excludes}
use Rattle.mono_check.specs.Atoms.{IsFirstWrong, IsRight}
use Rattle.mono_rows.specs.Cyclic.{has_no_cycle, reaches_1, two_predicates}

-- both edges make a cycle, and without the first one no walk leads from node 0 to node 1
pub cyclic : IsAcyclic (round_trip 1 1) (true ∷ true ∷ []) → ⊥
cyclic acyclic = acyclic 0 (0 ∷ 1 ∷ []) (omega arith) refl

pub apart : (walk : List ℕ) → IsTrue (is_path (round_trip 1 1) (false ∷ true ∷ []) 0 1 limit.Free walk) → ⊥
apart walk h = cut_excludes (round_trip 1 1) (false ∷ true ∷ []) 0 1 (0 ∷ []) walk refl (and_parts (is_walk (round_trip 1 1) (false ∷ true ∷ []) 0 1 walk) (is_light limit.Free (round_trip 1 1) walk) h).0

pub both_right : All (IsRight two_predicates (value_in (true ∷ true ∷ true ∷ false ∷ []))) two_predicates.atoms
both_right =
    let right = IsRight two_predicates (value_in (true ∷ true ∷ true ∷ false ∷ [])) in
    All-cons right reaches_1 (has_no_cycle ∷ []) (λ on. (0 ∷ [], refl), λ holds. refl) (All-cons right has_no_cycle [] (λ on. absurd cc, λ acyclic. absurd (cyclic acyclic)) (All-nil right))

pub second_wrong : IsFirstWrong two_predicates (value_in (true ∷ true ∷ true ∷ true ∷ [])) 2
second_wrong =
    let right = IsRight two_predicates (value_in (true ∷ true ∷ true ∷ true ∷ [])) in
    record { low = omega arith; high = omega arith; before = All-cons right reaches_1 [] (λ on. (0 ∷ [], refl), λ holds. refl) (All-nil right); wrong = inl (refl, cyclic) }

pub not_the_first : IsFirstWrong two_predicates (value_in (true ∷ true ∷ true ∷ true ∷ [])) 1 → ⊥
not_the_first v = elim v.wrong [ inl w ↦ w.1 (0 ∷ [], refl) | inr w ↦ (let e = w.0 in cc) ]
