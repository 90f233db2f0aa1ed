use Rattle.std.proofs.Common.{◌≡◌, ℕ, List, [], ◌∷◌, Bool, true, false, pos, length, arith}
use Rattle.mono_steps.specs.Renumbering.{pick}
use Rattle.mono_steps.specs.WorkedLemmas.{minus}
use Rattle.mono_core.specs.Cores.{AreNeeds, IsNeed}
use Rattle.mono_core.specs.Worked.{one_clause}
use Rattle.mono_core.specs.declared.outcome.Need.{Need}
use Rattle.mono_core.specs.declared.outcome.Need.TheVariants as need
use Rattle.mono_core.proofs.worked.assumptions_kept.Goals as goal

not_picked : (kept : List Bool) → minus 1 ∷ [] ≡ pick kept (pos 2 ∷ []) → ⊥
not_picked [] is = cc
not_picked (true ∷ []) is = cc
not_picked (true ∷ (f ∷ kept)) is = cc
not_picked (false ∷ []) is = cc
not_picked (false ∷ (f ∷ kept)) is = cc

no_model : (kept : List Bool) → length kept ≡ 1 → minus 1 ∷ [] ≡ pick kept (minus 1 ∷ []) → AreNeeds (IsNeed one_clause 1 (minus 1 ∷ []) kept) 0 kept (need.Model (false ∷ []) ∷ []) → ⊥
no_model [] many is needed = cc
no_model (true ∷ []) many is needed = let e = needed.0.satisfies.0 in cc
no_model (false ∷ []) many is needed = cc
no_model (b ∷ (f ∷ kept)) many is needed = absurd (omega (arith, many))

pub returns-clause-not_assumed : goal.returns-clause-not_assumed
returns-clause-not_assumed c = λ h. not_picked h.kept h.is

pub returns-clause-no_need : goal.returns-clause-no_need
returns-clause-no_need c = λ h. no_model h.kept h.as_many h.is h.needed

-- one flag has one need at most
two_needs : (N : ℕ → Need → Type 0) (kept : List Bool) (m n : Need) → length kept ≡ 1 → AreNeeds N 0 kept (m ∷ n ∷ []) → ⊥
two_needs N [] m n many h = h
two_needs N (true ∷ []) m n many h = h.1
two_needs N (false ∷ []) m n many h = h
two_needs N (b ∷ (f ∷ kept)) m n many h = absurd (omega (arith, many))

pub returns-clause-need_of_none : goal.returns-clause-need_of_none
returns-clause-need_of_none c = λ h. two_needs _ h.kept _ _ h.as_many h.needed
