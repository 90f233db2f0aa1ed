use Rattle.std.proofs.Common.{◌≡◌, true, false, [], ◌∷◌, refl, ap, inl, inr, arith, pos, int_lt}
use Rattle.mono_search_rows.proofs.NoWalks.{no_walk, none_owed}
use Rattle.mono_search_rows.proofs.worked_sides.what_a_side_answers.Goals as goal

pub returns-clause-no_walk : goal.returns-clause-no_walk
returns-clause-no_walk c = record { each = λ a lt. inr (none_owed a lt) }

pub returns-clause-walk_owed : goal.returns-clause-walk_owed
returns-clause-walk_owed c = λ h. elim (h.each 0 (omega arith)) [
  | inl settled ↦ let e : false ≡ true = settled in cc
  | inr none ↦ none (0 ∷ [], refl)
]

pub returns-clause-lack_owed : goal.returns-clause-lack_owed
returns-clause-lack_owed c = λ h. elim (h.each 0 (omega arith)) [
  | inl settled ↦ let e : false ≡ true = settled in cc
  | inr walk ↦ no_walk walk
]

pub returns-clause-forced : goal.returns-clause-forced
returns-clause-forced c = record { forces = inl (refl, (0 ∷ [], refl)); not_yet = refl }

pub returns-clause-not_forced : goal.returns-clause-not_forced
returns-clause-not_forced c = λ h. elim h.forces [
  | inl walk ↦ no_walk walk.1
  | inr other ↦ let e : true ≡ false = ap (λ l. int_lt (pos 0) l) other.0 in cc
]
