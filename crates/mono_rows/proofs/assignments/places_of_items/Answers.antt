use Rattle.std.proofs.Common.{◌≡◌, ◌<◌, ◌∷◌, [], ℕ, zero, suc, get_or, refl, arith}
use Rattle.mono_rows.proofs.assignments.places_of_items.Goals as goal

listed : (k : ℕ) → k < 3 → (get_or (1 ∷ 2 ∷ 0 ∷ []) k 0 < 3) × (get_or (2 ∷ 0 ∷ 1 ∷ []) (get_or (1 ∷ 2 ∷ 0 ∷ []) k 0) 0 ≡ k)
listed zero lt = (omega arith, refl)
listed (suc zero) lt = (omega arith, refl)
listed (suc (suc zero)) lt = (omega arith, refl)
listed (suc (suc (suc k))) lt = absurd (omega (arith, lt))

stands : (i : ℕ) → i < 3 → (get_or (2 ∷ 0 ∷ 1 ∷ []) i 0 < 3) × (get_or (1 ∷ 2 ∷ 0 ∷ []) (get_or (2 ∷ 0 ∷ 1 ∷ []) i 0) 0 ≡ i)
stands zero lt = (omega arith, refl)
stands (suc zero) lt = (omega arith, refl)
stands (suc (suc zero)) lt = (omega arith, refl)
stands (suc (suc (suc i))) lt = absurd (omega (arith, lt))

pub returns-clause-turned : goal.returns-clause-turned
returns-clause-turned c = record { as_many = refl; listed = listed; stands = stands }

pub returns-clause-another_way : goal.returns-clause-another_way
returns-clause-another_way c = λ h. let e : 2 ≡ 0 = (h.listed 0 (omega arith)).1 in omega (arith, e)

pub returns-clause-one_place_more : goal.returns-clause-one_place_more
returns-clause-one_place_more c = λ h. let e : 1 ≡ 0 = h.as_many in omega (arith, e)

pub returns-clause-no_such_item : goal.returns-clause-no_such_item
returns-clause-no_such_item c = λ h. let lt : 1 < 1 = (h.listed 0 (omega arith)).0 in omega (arith, lt)

pub returns-clause-no_such_place : goal.returns-clause-no_such_place
returns-clause-no_such_place c = λ h. let lt : 1 < 1 = (h.stands 0 (omega arith)).0 in omega (arith, lt)
