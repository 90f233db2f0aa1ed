-- Levels of a trail.
use Rattle.std.proofs.Common.{◌≡◌, ℕ, zero, suc, ◌+◌, ◌-◌, ◌<◌, ◌≤◌, Bool, true, false, List, [], ◌∷◌, length, refl, ap, ◌∙◌, arith, add-one}
use Rattle.std.specs.Prelude.{nat_le}
use Rattle.std.proofs.lemmas.Bool.{leb-true, leb-false}
use Rattle.mono_trail.proofs.Levels.{next_at_least}
use Rattle.mono_trail.specs.declared.reason.Mark.{Mark}
use Rattle.mono_trail.specs.declared.reason.Reason.{Reason}
use Rattle.mono_trail.specs.declared.reason.Reason.TheVariants.{Decided, Clause, Late}
use Rattle.mono_trail.specs.Places.{level_at, reason_at}
use Rattle.mono_trail.specs.TrailView.{count_to, next_level, Climbs}

-- a level that rises does so at a decision
rises : (r : Reason) (low : ℕ) → low < next_level r low → r ≡ Decided
rises Decided low h = refl
rises (Clause n) low h = absurd (omega arith)
rises (Late a k) low h = absurd (omega arith)

next_decided : (r : Reason) (low : ℕ) → r ≡ Decided → next_level r low ≡ low + 1
next_decided Decided low e = refl
next_decided (Clause n) low e = absurd cc
next_decided (Late a k) low e = absurd cc

-- a decision has a level above what stands before it
pub decision_rises : (low : ℕ) (ms : List Mark) (top k : ℕ) → Climbs low ms top → k < length ms → reason_at ms k ≡ Decided → low < level_at ms k
decision_rises low [] top k c lt d = absurd (omega arith)
decision_rises low (m ∷ ms) top zero c lt d = omega (arith, c.0, next_decided m.reason low d)
decision_rises low (m ∷ ms) top (suc k) c lt d = omega (arith, c.0, next_at_least m.reason low, decision_rises m.level ms top k c.1 (omega arith) d)

-- what has at least the level of a decision doesn't stand before it
pub not_before : (low : ℕ) (ms : List Mark) (top k j : ℕ) → Climbs low ms top → k < length ms → reason_at ms k ≡ Decided → level_at ms k ≤ level_at ms j → k ≤ j
not_before low [] top k j c lt d le = absurd (omega arith)
not_before low (m ∷ ms) top zero j c lt d le = omega arith
not_before low (m ∷ ms) top (suc k) zero c lt d le = absurd (omega (arith, le, decision_rises m.level ms top k c.1 (omega arith) d))
not_before low (m ∷ ms) top (suc k) (suc j) c lt d le = let e = not_before m.level ms top k j c.1 (omega arith) d le in omega (arith, e)

-- where the top level begins, a decision stands
pub record Begins (ms : List Mark) (top : ℕ) : Type 0 where
  pub inside : count_to (top - 1) ms < length ms
  pub decided : reason_at ms (count_to (top - 1) ms) ≡ Decided

pub top_begins : (low : ℕ) (ms : List Mark) (top : ℕ) → Climbs low ms top → low < top → Begins ms top
top_begins low [] top c lt = absurd (omega (arith, c, lt))
top_begins low (m ∷ ms) top c lt = by (nat_le m.level (top - 1)) refl (λ h. top_begins m.level ms top c.1 h)
  where
    by : (b : Bool) → nat_le m.level (top - 1) ≡ b → (m.level < top → Begins ms top) → Begins (m ∷ ms) top
    by true e ih =
        let le : m.level ≤ top - 1 = leb-true m.level (top - 1) e in
        let rest = ih (omega (arith, le, lt)) in
        let n : count_to (top - 1) (m ∷ ms) ≡ suc (count_to (top - 1) ms) = rw e (add-one (count_to (top - 1) ms)) in
        record { inside = omega (arith, n, rest.inside); decided = ap (reason_at (m ∷ ms)) n ∙ rest.decided }
    by false e ih =
        let gt : top - 1 < m.level = leb-false m.level (top - 1) e in
        let n : count_to (top - 1) (m ∷ ms) ≡ 0 = rw e refl in
        record { inside = omega (arith, n); decided = ap (reason_at (m ∷ ms)) n ∙ rises m.reason low (omega (arith, gt, lt, c.0)) }
