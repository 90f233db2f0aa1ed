-- What a leap finds, question after question.
use Rattle.std.proofs.Common.{◌≡◌, ℕ, ◌+◌, ◌<◌, ◌≤◌, Option, None, Some, length, sym, subst, arith}
use Rattle.std.specs.Prelude.{IfSome}
use Rattle.mono_problem.specs.Instance.{Instance}
use Rattle.mono_best.specs.declared.gap.Found.{Found}
use Rattle.mono_best.specs.declared.gap.Gap.{Gap}
use Rattle.mono_best.specs.Leaps.{IsFound, IsGap}

-- a model that meets a bound from k on is one from each earlier one on
pub found_from : (p : Instance) (n j k : ℕ) (f : Found) → j ≤ k → IsFound p n k f → IsFound p n j f
found_from p n j k f le h = (omega (arith, le, h.0), h.1, h.2)

-- it has a value for each variable of the problem that asks, of which there is one more
pub values_found : (p : Instance) (n k : ℕ) (o : Option Found) → IfSome o (IsFound p n k) → IfSome o (λ (f : Found). length f.model ≡ p.vars + 1)
values_found p n k None h = tt
values_found p n k (Some f) h = h.2.len

pub gap_risen : (p : Instance) (n k asked : ℕ) (g new : Gap) (f : Found) → IsGap p n k g → g.low < asked → IsFound p n asked f
    → new.found ≡ Some f → new.low ≡ f.number + 1 → new.high ≡ g.high → IsGap p n k new
gap_risen p n k asked g new f h up found is low high = record {
  found = subst (λ (o : Option Found). IfSome o (IsFound p n k)) (sym is) (found_from p n k asked f (omega (arith, h.from, up)) found);
  from = omega (arith, h.from, up, found.0, low);
  to = omega (arith, h.to, high);
}

pub gap_lowered : (p : Instance) (n k asked : ℕ) (g new : Gap) → IsGap p n k g → asked < g.high
    → new.found ≡ g.found → new.low ≡ g.low → new.high ≡ asked → IsGap p n k new
gap_lowered p n k asked g new h down is low high = record {
  found = subst (λ (o : Option Found). IfSome o (IsFound p n k)) (sym is) h.found;
  from = omega (arith, h.from, low);
  to = omega (arith, h.to, down, high);
}
