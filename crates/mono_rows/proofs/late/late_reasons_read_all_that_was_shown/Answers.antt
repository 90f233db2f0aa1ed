use Rattle.std.proofs.Common.{◌≡◌, ◌<◌, ◌∷◌, [], ℕ, zero, suc, pos, refl, inl, arith}
use Rattle.mono_steps.specs.WorkedLemmas.{barred}
use Rattle.mono_trail.specs.declared.reason.Reason.TheVariants.{Decided, Clause, Late}
use Rattle.mono_trail.specs.Places.{reason_at}
use Rattle.mono_learn.specs.Reasons.{ReasonHolds, WasForced}
use Rattle.mono_rows.specs.SmallTrail.{mark, both_levels}
use Rattle.mono_rows.proofs.late.late_reasons_read_all_that_was_shown.Goals as goal

was_forced : WasForced barred (λ a. pos 1 ∷ []) (pos 1 ∷ pos 3 ∷ []) 1 1 1
was_forced = record { some = omega arith; forces = inl (refl, (0 ∷ [], refl)); before = refl }

each : (k : ℕ) → k < 2 → ReasonHolds barred [] (λ a. pos 1 ∷ []) (pos 1 ∷ pos 3 ∷ []) k (reason_at (mark 1 Decided ∷ mark 1 (Late 1 1) ∷ []) k)
each zero lt = tt
each (suc zero) lt = was_forced
each (suc (suc k)) lt = absurd (omega (arith, lt))

-- the one late reason reads one literal
reads_one : (k a q : ℕ) → k < 4 → reason_at (both_levels 0).marks k ≡ Late a q → q ≡ 1
reads_one zero a q lt is = let e : Decided ≡ Late a q = is in absurd cc
reads_one (suc zero) a q lt is = let e : Late 2 1 ≡ Late a q = is in cc
reads_one (suc (suc zero)) a q lt is = let e : Decided ≡ Late a q = is in absurd cc
reads_one (suc (suc (suc zero))) a q lt is = let e : Clause 7 ≡ Late a q = is in absurd cc
reads_one (suc (suc (suc (suc k)))) a q lt is = absurd (omega (arith, lt))

pub returns-clause-joins : goal.returns-clause-joins
returns-clause-joins c = record { some = omega arith; forces = inl (refl, (0 ∷ [], refl)); before = refl }

pub returns-clause-forced : goal.returns-clause-forced
returns-clause-forced c = was_forced

pub returns-clause-is_a_reason : goal.returns-clause-is_a_reason
returns-clause-is_a_reason c = record { at = each }

pub returns-clause-reads_the_same : goal.returns-clause-reads_the_same
returns-clause-reads_the_same c = record {
  some = λ k a q lt is. (let one = reads_one k a q lt is in omega (arith, one));
  same = λ k a q lt is. refl;
}
