use Rattle.std.proofs.Common.{arith, refl, inl, inr}
use Rattle.mono_rows.proofs.ClauseRows.{unit_at}
use Rattle.mono_rows.proofs.clauses.unit_clauses.Goals as goal

pub returns-clause-unit : goal.returns-clause-unit
returns-clause-unit c = record { place = 0; within = omega arith; number = refl; has = refl; is_open = refl; others = refl }

pub returns-clause-other_number : goal.returns-clause-other_number
returns-clause-other_number c = λ u. elim (unit_at _ _ _ u) [ inl a ↦ (let e = a.0 in cc) | inr b ↦ (let e = b.1 in cc) ]

pub returns-clause-no_number : goal.returns-clause-no_number
returns-clause-no_number c = λ u. elim (unit_at _ _ _ u) [ inl a ↦ (let e = a.0 in cc) | inr b ↦ (let e = b.0 in cc) ]

pub returns-clause-two_open : goal.returns-clause-two_open
returns-clause-two_open c = λ u. elim (unit_at _ _ _ u) [ inl a ↦ (let e = a.3 in cc) | inr b ↦ (let e = b.0 in cc) ]

pub returns-clause-has_value : goal.returns-clause-has_value
returns-clause-has_value c = λ u. elim (unit_at _ _ _ u) [ inl a ↦ (let e = a.2 in cc) | inr b ↦ (let e = b.0 in cc) ]

pub returns-clause-not_in_it : goal.returns-clause-not_in_it
returns-clause-not_in_it c = λ u. elim (unit_at _ _ _ u) [ inl a ↦ (let e = a.1 in cc) | inr b ↦ (let e = b.0 in cc) ]
