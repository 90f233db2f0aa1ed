-- Rows of trails and orders.
use Rattle.std.proofs.Common.{◌≡◌, ◌≢◌, ℕ, zero, suc, ◌<◌, true, false, [], ◌∷◌, get_or, refl, sym, subst, ◌∙◌, ℤ, pos, arith}
use Rattle.std.specs.Prelude.{IsTrue, Some, None}
use Rattle.mono_base.specs.Literal.{IsLitWithin, value_in}
use Rattle.mono_base.specs.Partial.{is_open_in}
use Rattle.mono_trail.specs.declared.reason.Reason.TheVariants.{Decided, Clause, Late}
use Rattle.mono_trail.specs.Moves.{HasLate, IsVar}
use Rattle.mono_trail.specs.Order.{AllOpenWait, Leaves, NoneOpen}
use Rattle.mono_trail.specs.Places.{place_in, reason_at}
use Rattle.mono_trail.specs.Seen.{is_marked, IsUnseen}
use Rattle.mono_trail.specs.TrailView.{no_literals, IsSoundTrail}
use Rattle.mono_steps.specs.WorkedLemmas.{minus}
use Rattle.mono_rows.specs.SmallTrail.{mark, both_levels, order}

pub whole_is_sound : IsSoundTrail (both_levels 4)
whole_is_sound = record {
  partial = refl;
  within = within;
  as_many = refl;
  climbs = (refl, (refl, (refl, (refl, refl))));
  few = omega arith;
  few_lits = omega arith;
  given_in = omega arith;
}
  where
    within : (k : ℕ) (d : ℤ) → k < 4 → IsLitWithin 6 (get_or (pos 3 ∷ pos 4 ∷ minus 5 ∷ pos 6 ∷ []) k d)
    within zero d lt = (omega arith, omega arith)
    within (suc zero) d lt = (omega arith, omega arith)
    within (suc (suc zero)) d lt = (omega arith, omega arith)
    within (suc (suc (suc zero))) d lt = (omega arith, omega arith)
    within (suc (suc (suc (suc k)))) d lt = absurd (omega (arith, lt))

pub full_is_sound : IsSoundTrail (record { vars = 2; lits = pos 2 ∷ minus 1 ∷ []; marks = mark 0 (Clause 7) ∷ mark 1 Decided ∷ []; level = 1; given = 0 })
full_is_sound = record {
  partial = refl;
  within = within;
  as_many = refl;
  climbs = (refl, (refl, refl));
  few = omega arith;
  few_lits = omega arith;
  given_in = omega arith;
}
  where
    within : (k : ℕ) (d : ℤ) → k < 2 → IsLitWithin 2 (get_or (pos 2 ∷ minus 1 ∷ []) k d)
    within zero d lt = (omega arith, omega arith)
    within (suc zero) d lt = (omega arith, omega arith)
    within (suc (suc k)) d lt = absurd (omega (arith, lt))

pub most_are_sound : IsSoundTrail (no_literals 1000000)
most_are_sound = record {
  partial = refl;
  within = λ k d lt. absurd (omega (arith, lt));
  as_many = refl;
  climbs = refl;
  few = omega arith;
  few_lits = omega arith;
  given_in = omega arith;
}

pub leaves_with_assigned : Leaves (order (true ∷ true ∷ true ∷ [])) (order (false ∷ false ∷ true ∷ [])) (pos 1 ∷ []) 2
leaves_with_assigned = record {
  as_many = refl;
  phases = refl;
  is_var = (omega arith, omega arith);
  is_open = refl;
  waited = refl;
  gone = refl;
  stay = stay;
  none_new = none_new;
}
  where
    stay : (w : ℕ) → w ≢ 2 → IsTrue (is_open_in (pos 1 ∷ []) (pos w)) → IsTrue (value_in (true ∷ true ∷ true ∷ []) w) → IsTrue (value_in (false ∷ false ∷ true ∷ []) w)
    stay zero n free on = absurd cc
    stay (suc zero) n free on = absurd cc
    stay (suc (suc zero)) n free on = absurd (n refl)
    stay (suc (suc (suc zero))) n free on = refl
    stay (suc (suc (suc (suc w)))) n free on = absurd cc

    none_new : (w : ℕ) → IsTrue (value_in (false ∷ false ∷ true ∷ []) w) → IsTrue (value_in (true ∷ true ∷ true ∷ []) w)
    none_new zero on = absurd cc
    none_new (suc zero) on = absurd cc
    none_new (suc (suc zero)) on = absurd cc
    none_new (suc (suc (suc zero))) on = refl
    none_new (suc (suc (suc (suc w)))) on = absurd cc

pub none_is_open : NoneOpen 2 (minus 2 ∷ pos 1 ∷ [])
none_is_open = record { at = at }
  where
    at : (v : ℕ) → IsVar 2 v → is_open_in (minus 2 ∷ pos 1 ∷ []) (pos v) ≡ false
    at zero w = absurd (omega (arith, w.0))
    at (suc zero) w = refl
    at (suc (suc zero)) w = refl
    at (suc (suc (suc v))) w = absurd (omega (arith, w.1))

pub open_ones_wait : AllOpenWait (order (false ∷ true ∷ true ∷ [])) (pos 1 ∷ [])
open_ones_wait = record { at = at }
  where
    at : (v : ℕ) → IsVar 3 v → IsTrue (is_open_in (pos 1 ∷ []) (pos v)) → IsTrue (value_in (false ∷ true ∷ true ∷ []) v)
    at zero w free = absurd (omega (arith, w.0))
    at (suc zero) w free = absurd cc
    at (suc (suc zero)) w free = refl
    at (suc (suc (suc zero))) w free = refl
    at (suc (suc (suc (suc v)))) w free = absurd (omega (arith, w.1))

pub none_is_marked : IsUnseen (false ∷ false ∷ [])
none_is_marked = record { unmarked = off }
  where
    off : (k : ℕ) → is_marked (false ∷ false ∷ []) k ≡ false
    off zero = refl
    off (suc zero) = refl
    off (suc (suc k)) = refl

-- the reason of the literal at its place isn't late
pub not_late : (v k : ℕ) → place_in (both_levels 3).lits v ≡ Some k → HasLate (both_levels 3) v → ((atom kept : ℕ) → reason_at (both_levels 3).marks k ≡ Late atom kept → ⊥) → ⊥
not_late v k here h never =
    let e : Some k ≡ Some h.place = sym here ∙ h.is in
    let same : k ≡ h.place = cc in
    never h.atom h.kept (subst (λ (p : ℕ). reason_at (both_levels 3).marks p ≡ Late h.atom h.kept) (sym same) h.late)

pub not_late_when_open : HasLate (both_levels 3) 1 → ⊥
not_late_when_open h = let e : None ≡ Some h.place = h.is in cc
