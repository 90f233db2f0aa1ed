use Rattle.std.proofs.Common.{◌≡◌, ◌<◌, ◌∷◌, [], ℕ, zero, suc, false, true, List, ℤ, pos, take, refl, sym, ap, subst, arith}
use Rattle.mono_base.specs.Literal.{has_lit}
use Rattle.mono_steps.specs.WorkedLemmas.{minus}
use Rattle.mono_trail.specs.declared.reason.Reason.TheVariants.{Decided, Clause, Late}
use Rattle.mono_trail.specs.Places.{reason_at}
use Rattle.mono_learn.specs.Worked.{worked_trail}
use Rattle.mono_rows.specs.SmallTrail.{both_levels}
use Rattle.mono_rows.proofs.learn.lists_that_read_the_same.Goals as goal

-- the one late reason reads one literal
reads_one : (k a q : ℕ) → k < 4 → reason_at (both_levels 0).marks k ≡ Late a q → q ≡ 1
reads_one zero a q lt is = let e : Decided ≡ Late a q = is in absurd cc
reads_one (suc zero) a q lt is = let e : Late 2 1 ≡ Late a q = is in cc
reads_one (suc (suc zero)) a q lt is = let e : Decided ≡ Late a q = is in absurd cc
reads_one (suc (suc (suc zero))) a q lt is = let e : Clause 7 ≡ Late a q = is in absurd cc
reads_one (suc (suc (suc (suc k)))) a q lt is = absurd (omega (arith, lt))

pub returns-clause-longer : goal.returns-clause-longer
returns-clause-longer c = record {
  some = λ k a q lt is. (let one = reads_one k a q lt is in omega (arith, one));
  same = λ k a q lt is. subst (λ (n : ℕ). take n (pos 3 ∷ minus 5 ∷ []) ≡ take n (pos 3 ∷ [])) (sym (reads_one k a q lt is)) refl;
}

pub returns-clause-shorter : goal.returns-clause-shorter
returns-clause-shorter c = λ h. let le = h.some 1 2 1 (omega arith) refl in omega (arith, le)

pub returns-clause-none_shown : goal.returns-clause-none_shown
returns-clause-none_shown c = λ h. let le = h.some 1 2 1 (omega arith) refl in omega (arith, le)

pub returns-clause-another : goal.returns-clause-another
returns-clause-another c = λ h. let e : false ≡ true = ap (λ (ls : List ℤ). has_lit ls (pos 3)) (h.same 1 2 1 (omega arith) refl) in cc

none_late : (k a q : ℕ) → k < 7 → reason_at worked_trail.marks k ≡ Late a q → ⊥
none_late zero a q lt is = cc
none_late (suc zero) a q lt is = cc
none_late (suc (suc zero)) a q lt is = cc
none_late (suc (suc (suc zero))) a q lt is = cc
none_late (suc (suc (suc (suc zero)))) a q lt is = cc
none_late (suc (suc (suc (suc (suc zero))))) a q lt is = cc
none_late (suc (suc (suc (suc (suc (suc zero)))))) a q lt is = cc
none_late (suc (suc (suc (suc (suc (suc (suc k))))))) a q lt is = omega (arith, lt)

pub returns-clause-no_late_reason : goal.returns-clause-no_late_reason
returns-clause-no_late_reason c = record { some = λ k a q lt is. absurd (none_late k a q lt is); same = λ k a q lt is. absurd (none_late k a q lt is) }
