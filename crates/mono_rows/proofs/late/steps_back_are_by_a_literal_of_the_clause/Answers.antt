use Rattle.std.proofs.Common.{◌≡◌, ◌<◌, ◌∷◌, [], ℕ, zero, suc, true, false, neg_ℤ, arith}
use Rattle.std.specs.Prelude.{IsTrue}
use Rattle.mono_base.specs.Literal.{has_lit, lit_at}
use Rattle.mono_steps.specs.WorkedLemmas.{minus}
use Rattle.mono_trail.specs.declared.reason.Reason.TheVariants.{Decided, Clause}
use Rattle.mono_trail.specs.Places.{reason_at}
use Rattle.mono_learn.specs.Worked.{worked_trail}
use Rattle.mono_rows.proofs.late.steps_back_are_by_a_literal_of_the_clause.Goals as goal

not_4 : (n : ℕ) → n < 4 → Clause n ≡ Clause 4 → ⊥
not_4 n lt e = let f : n ≡ 4 = cc in omega (arith, lt, f)

-- clause 4 is the reason of 9 alone
at : (k : ℕ) → k < 7 → reason_at worked_trail.marks k ≡ Clause 4 → IsTrue (has_lit (minus 7 ∷ minus 8 ∷ []) (neg_ℤ (lit_at worked_trail.lits k))) → ⊥
at zero lt why has = let e : Decided ≡ Clause 4 = why in cc
at (suc zero) lt why has = not_4 1 (omega arith) why
at (suc (suc zero)) lt why has = let e : Decided ≡ Clause 4 = why in cc
at (suc (suc (suc zero))) lt why has = not_4 2 (omega arith) why
at (suc (suc (suc (suc zero)))) lt why has = let e : Decided ≡ Clause 4 = why in cc
at (suc (suc (suc (suc (suc zero))))) lt why has = not_4 3 (omega arith) why
at (suc (suc (suc (suc (suc (suc zero)))))) lt why has = let e : false ≡ true = has in cc
at (suc (suc (suc (suc (suc (suc (suc k))))))) lt why has = omega (arith, lt)

pub returns : goal.returns
returns c = λ cs e s. at s.place s.on_trail s.why s.has
