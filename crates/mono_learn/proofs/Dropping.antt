-- Which literals are dropped: those that are redundant in the whole clause.
use Rattle.std.proofs.Common.{◌≡◌, ◌≢◌, ℕ, ◌+◌, ◌<◌, ◌≤◌, Bool, true, false, List, length, get_or, set, refl, sym, ap, subst, ◌∙◌, ◌⊎◌, inl, inr, ℤ, arith}
use Rattle.std.specs.Prelude.{IsTrue, Some}
use Rattle.std.specs.List.Sorted.{IsNonDecreasing}
use Rattle.std.proofs.lemmas.Bool.{cases_Bool, cases_eq, cases_lt}
use Rattle.std.proofs.lemmas.Option.{same_Some}
use Rattle.mono_base.specs.Literal.{var_of, has_lit, without, lit_at}
use Rattle.mono_base.specs.Partial.{is_partial}
use Rattle.mono_problem.specs.Instance.{numbered}
use Rattle.mono_trail.specs.declared.reason.Reason.TheVariants.{Clause}
use Rattle.mono_trail.specs.Places.{reason_at}
use Rattle.mono_trail.specs.Seen.{is_marked}
use Rattle.mono_trail.specs.TrailView.{TrailView, IsSoundTrail}
use Rattle.mono_learn.specs.Resolvents.{FalseBy}
use Rattle.mono_learn.specs.Minimizing.{AreReasons, IsCovered, IsUncovered, IsRedundantAt, IsDropped, AreDropped}
use Rattle.mono_learn.proofs.LitSets.{true_false, without_has}
use Rattle.mono_learn.proofs.Marking.{unmarked}
use Rattle.mono_learn.proofs.PlacesOfLits.{one_place, reason_others}

-- ---- one place

not_covered : (t : List ℤ) (seen : List Bool) (c : List ℤ) → IsTrue (is_partial t) → IsUncovered t seen c → IsCovered t seen c → ⊥
not_covered t seen c p u h =
    let m = h.by u.lit u.has in
    let at : m.place ≡ u.open_by.by.place = one_place t m.place u.open_by.by.place p m.below u.open_by.by.within (ap var_of (m.there ∙ sym u.open_by.by.there)) in
    true_false (is_marked seen u.open_by.by.place) (subst (λ (j : ℕ). is_marked seen j ≡ true) at m.marked) u.open_by.off

-- nothing is taken away where the literal isn't redundant
pub stays : (cs : List (List ℤ)) (t : TrailView) (seen : List Bool) (k : ℕ) → (IsRedundantAt cs t seen k → ⊥) → IsDropped cs t seen seen k
stays cs t seen k n = record { gone = λ on off. absurd (true_false (is_marked seen k) on off); left = λ on r. n r }

pub stays_for_other : (cs : List (List ℤ)) (t : TrailView) (seen : List Bool) (k : ℕ) → ((n : ℕ) → reason_at t.marks k ≡ Clause n → ⊥) → IsDropped cs t seen seen k
stays_for_other cs t seen k none = stays cs t seen k (λ r. none r.number r.why)

pub stays_unmarked : (cs : List (List ℤ)) (t : TrailView) (seen : List Bool) (k : ℕ) → is_marked seen k ≡ false → IsDropped cs t seen seen k
stays_unmarked cs t seen k off = record { gone = λ on z. absurd (true_false (is_marked seen k) on off); left = λ on r. true_false (is_marked seen k) on off }

pub stays_uncovered : (cs : List (List ℤ)) (t : TrailView) (seen : List Bool) (k n : ℕ) (r : List ℤ) → IsSoundTrail t → reason_at t.marks k ≡ Clause n → numbered cs n ≡ Some r → IsUncovered t.lits seen (without r (lit_at t.lits k)) → IsDropped cs t seen seen k
stays_uncovered cs t seen k n r s e is u = stays cs t seen k (λ d.
    let same : n ≡ d.number = (let g : Clause n ≡ Clause d.number = sym e ∙ d.why in cc) in
    let at : r ≡ d.reason = same_Some r d.reason (sym is ∙ ap (numbered cs) same ∙ d.is) in
    not_covered t.lits seen (without r (lit_at t.lits k)) s.partial u (subst (λ (c : List ℤ). IsCovered t.lits seen (without c (lit_at t.lits k))) (sym at) d.covered))

pub goes_covered : (cs : List (List ℤ)) (t : TrailView) (seen : List Bool) (k n : ℕ) (r : List ℤ) → reason_at t.marks k ≡ Clause n → numbered cs n ≡ Some r → IsCovered t.lits seen (without r (lit_at t.lits k)) → IsDropped cs t seen (set seen k false) k
goes_covered cs t seen k n r e is h = record {
  gone = λ on off. record { number = n; reason = r; why = e; is = is; covered = h };
  left = λ on d. (unmarked seen k k on).0 refl;
}

-- what is redundant depends on the marks of lower places alone
pub redundant_same : (cs : List (List ℤ)) (t : TrailView) (a b : List Bool) (k : ℕ) → IsSoundTrail t → AreReasons cs t → k < length t.lits → ((j : ℕ) → j < k → is_marked a j ≡ is_marked b j) → IsRedundantAt cs t a k → IsRedundantAt cs t b k
redundant_same cs t a b k s reasons lt same d = record {
  number = d.number;
  reason = d.reason;
  why = d.why;
  is = d.is;
  covered = record {
    by = λ l h.
        let m = d.covered.by l h in
        let f : FalseBy t.lits k l = below l h in
        let at : m.place ≡ f.place = one_place t.lits m.place f.place s.partial m.below f.within (ap var_of (m.there ∙ sym f.there)) in
        record { place = m.place; below = m.below; there = m.there; marked = sym (same m.place (omega (arith, at, f.below))) ∙ m.marked };
  };
}
  where
    below : (l : ℤ) → IsTrue (has_lit (without d.reason (lit_at t.lits k)) l) → FalseBy t.lits k l
    below l h =
        let w = reasons.at k d.number lt d.why in
        let q = without_has d.reason (lit_at t.lits k) l h in
        reason_others cs t.lits k d.number w l (subst (λ (c : List ℤ). IsTrue (has_lit c l)) (same_Some d.reason w.clause (sym d.is ∙ w.is)) q.0) q.1

-- ---- all kept places, the highest first

pub dropped_none : (cs : List (List ℤ)) (t : TrailView) (seen : List Bool) (kept : List ℕ) (n : ℕ) → length kept ≤ n → AreDropped cs t seen seen kept n
dropped_none cs t seen kept n le = record {
  fewer = λ k on. on;
  gone = λ k on off. absurd (true_false (is_marked seen k) on off);
  left = λ j from lt on d. absurd (omega (arith, le, from, lt));
  same = λ k low. refl;
}

pub at_or_above : (i j : ℕ) → i ≤ j → (j ≡ i) ⊎ (i + 1 ≤ j)
at_or_above i j le = elim (cases_lt j (i + 1)) [ inl a ↦ inl (omega arith) | inr b ↦ inr b ]

pub dropped_more : (cs : List (List ℤ)) (t : TrailView) (old mid new : List Bool) (kept : List ℕ) (n i p : ℕ) → IsSoundTrail t → AreReasons cs t → p < length t.lits → IsNonDecreasing kept → n ≡ i + 1 → n ≤ length kept → p ≡ get_or kept i 0 → AreDropped cs t old mid kept n → IsDropped cs t mid new p
    → ((k : ℕ) → k ≢ p → is_marked new k ≡ is_marked mid k) → ((k : ℕ) → is_marked new k ≡ true → is_marked mid k ≡ true) → AreDropped cs t old new kept i
dropped_more cs t old mid new kept n i p s reasons lt up en within ep h d others fewer = record {
  fewer = λ k on. h.fewer k (fewer k on);
  gone = λ k on off. gone k on off (cases_eq k p);
  left = λ j from in_list on r. left j in_list on r (at_or_above i j from);
  same = λ k low. same k low (low i (omega arith) (omega (arith, en, within)));
}
  where
    lower : (j : ℕ) → j < p → is_marked mid j ≡ is_marked old j
    lower j low = h.same j (λ q from in_list. omega (arith, low, ep, up i q 0 (omega (arith, from, en)) in_list))

    gone : (k : ℕ) → is_marked old k ≡ true → is_marked new k ≡ false → (k ≡ p) ⊎ (k ≢ p) → IsRedundantAt cs t old k
    gone k on off (inr other) = h.gone k on (sym (others k other) ∙ off)
    gone k on off (inl e) = elim (cases_Bool (is_marked mid k)) [
      | inl stood ↦ subst (IsRedundantAt cs t old) (sym e) (redundant_same cs t mid old p s reasons lt lower (d.gone (subst (λ (j : ℕ). is_marked mid j ≡ true) e stood) (subst (λ (j : ℕ). is_marked new j ≡ false) e off)))
      | inr fell ↦ h.gone k on fell
    ]

    left : (j : ℕ) → j < length kept → is_marked new (get_or kept j 0) ≡ true → IsRedundantAt cs t old (get_or kept j 0) → (j ≡ i) ⊎ (i + 1 ≤ j) → ⊥
    left j in_list on r (inr later) = h.left j (omega (arith, later, en)) in_list (fewer (get_or kept j 0) on) r
    left j in_list on r (inl e) =
        let at : get_or kept j 0 ≡ p = ap (λ (q : ℕ). get_or kept q 0) e ∙ sym ep in
        d.left (subst (λ (q : ℕ). is_marked new q ≡ true) at on) (redundant_same cs t old mid p s reasons lt (λ q low. sym (lower q low)) (subst (IsRedundantAt cs t old) at r))

    same : (k : ℕ) → ((j : ℕ) → i ≤ j → j < length kept → k < get_or kept j 0) → k < get_or kept i 0 → is_marked new k ≡ is_marked old k
    same k low below = others k (λ e. omega (arith, e, ep, below)) ∙ h.same k (λ j from in_list. low j (omega (arith, from, en)) in_list)
