use Rattle.std.proofs.Common.{arith, refl, inl, inr}
use Rattle.mono_rows.proofs.ClauseRows.{false_at}
use Rattle.mono_rows.proofs.clauses.false_clauses.Goals as goal

pub returns-clause-first : goal.returns-clause-first
returns-clause-first c = record { place = 0; within = omega arith; number = refl; is_false = refl }

pub returns-clause-other_number : goal.returns-clause-other_number
returns-clause-other_number c = λ u. elim (false_at _ _ u) [ inl a ↦ (let e = a.0 in cc) | inr b ↦ (let e = b.1 in cc) ]

pub returns-clause-open_literal : goal.returns-clause-open_literal
returns-clause-open_literal c = λ u. elim (false_at _ _ u) [ inl a ↦ (let e = a.1 in cc) | inr b ↦ (let e = b.0 in cc) ]

pub returns-clause-no_clause : goal.returns-clause-no_clause
returns-clause-no_clause c = λ u. elim (false_at _ _ u) [ inl a ↦ (let e = a.0 in cc) | inr b ↦ (let e = b.0 in cc) ]
