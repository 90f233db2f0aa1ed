use Rattle.std.proofs.Common.{◌≡◌, ◌<◌, ℕ, zero, suc, arith}
use Rattle.mono_trail.specs.declared.reason.Reason.TheVariants.{Decided, Clause, Late}
use Rattle.mono_trail.specs.Places.{reason_at}
use Rattle.mono_rows.specs.SmallTrail.{both_levels}
use Rattle.mono_rows.proofs.late.nothing_is_settled_behind_the_trail.Goals as goal

-- no literal of the trail was forced by the atom 0
not_by_atom_0 : (k kept : ℕ) → k < 4 → reason_at (both_levels 3).marks k ≡ Late 0 kept → ⊥
not_by_atom_0 zero kept lt was = let e : Decided ≡ Late 0 kept = was in cc
not_by_atom_0 (suc zero) kept lt was = let e : Late 2 1 ≡ Late 0 kept = was in cc
not_by_atom_0 (suc (suc zero)) kept lt was = let e : Decided ≡ Late 0 kept = was in cc
not_by_atom_0 (suc (suc (suc zero))) kept lt was = let e : Clause 7 ≡ Late 0 kept = was in cc
not_by_atom_0 (suc (suc (suc (suc k)))) kept lt was = omega (arith, lt)

pub returns-clause-marks : goal.returns-clause-marks
returns-clause-marks c = λ h. let e : 5 ≡ 4 = h.as_many in omega (arith, e)

pub returns-clause-lemmas : goal.returns-clause-lemmas
returns-clause-lemmas c = λ a. not_by_atom_0 a.place a.kept a.within a.was
