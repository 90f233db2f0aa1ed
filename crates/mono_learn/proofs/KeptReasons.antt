-- Reasons under the moves of a trail, and learned clauses below their level.
use Rattle.std.proofs.Common.{◌≡◌, ℕ, ◌+◌, ◌<◌, ◌≤◌, Bool, true, false, not, List, [], ◌∷◌, ◌++◌, length, take, refl, sym, ap, subst, ◌∙◌, ◌⊎◌, inl, inr, ℤ, pos, neg_ℤ, arith, length-append}
use Rattle.std.specs.Prelude.{IsTrue}
use Rattle.std.proofs.lemmas.Bool.{and_from, cases_lt}
use Rattle.std.proofs.lemmas.List.{get_or_append_left, get_or_push, get_or-take, length-take, take-append-le, take-take}
use Rattle.std.proofs.Math.Seq.{take-append_seam}
use Rattle.mono_base.specs.Literal.{var_of, has_lit, without, within, lit_at}
use Rattle.mono_base.specs.Partial.{is_false_in, others_false}
use Rattle.mono_base.proofs.Truth.{from_each}
use Rattle.mono_problem.specs.Instance.{Instance}
use Rattle.mono_trail.specs.declared.reason.Mark.{Mark}
use Rattle.mono_trail.specs.declared.reason.Reason.{Reason}
use Rattle.mono_trail.specs.declared.reason.Reason.TheVariants.{Decided, Clause, Late}
use Rattle.mono_trail.specs.Places.{reason_at, level_at, no_mark}
use Rattle.mono_trail.specs.Moves.{joined, lowered}
use Rattle.mono_trail.specs.TrailView.{TrailView, IsSoundTrail, Climbs, next_level, count_to, StandsAt}
use Rattle.mono_learn.specs.Explain.{AtomForces}
use Rattle.mono_learn.specs.Reasons.{ReasonHolds, HasReasons}
use Rattle.mono_learn.specs.Learned.{IsLearnt}
use Rattle.mono_learn.specs.ReasonsStay.{MayJoin, StillShown, IsUnitIn}
use Rattle.mono_trail.proofs.Levels.{up_to_level, kept_low}
use Rattle.mono_learn.proofs.LitSets.{without_has}
use Rattle.mono_learn.proofs.PlacesOfLits.{has_stands, stands_has, one_place, no_opposites}

-- ---- one reason

-- the reason at a place reads the literals up to there alone
pub holds_same : (p : Instance) (cs : List (List ℤ)) (shown : ℕ → List ℤ) (t u : List ℤ) (k : ℕ) (r : Reason) → lit_at u k ≡ lit_at t k → take k u ≡ take k t → ReasonHolds p cs shown t k r → ReasonHolds p cs shown u k r
holds_same p cs shown t u k Decided at front w = tt
holds_same p cs shown t u k (Clause n) at front w = record {
  clause = w.clause;
  is = w.is;
  has = subst (λ (l : ℤ). IsTrue (has_lit w.clause l)) (sym at) w.has;
  others = subst (λ (l : ℤ). IsTrue (others_false (take k u) w.clause l)) (sym at) (subst (λ (s : List ℤ). IsTrue (others_false s w.clause (lit_at t k))) (sym front) w.others);
}
holds_same p cs shown t u k (Late a q) at front w = record {
  some = w.some;
  forces = subst (AtomForces p (take q (shown a)) a) (sym at) w.forces;
  before = subst (λ (s : List ℤ). IsTrue (within (take q (shown a)) s)) (sym front) w.before;
}

-- the reason of a literal that joins at the end
may_hold : (p : Instance) (cs : List (List ℤ)) (shown : ℕ → List ℤ) (t : List ℤ) (l : ℤ) (why : Reason) → MayJoin p cs shown t l why → ReasonHolds p cs shown (t ++ l ∷ []) (length t) why
may_hold p cs shown t l Decided w = tt
may_hold p cs shown t l (Clause n) w =
    let at : lit_at (t ++ l ∷ []) (length t) ≡ l = get_or_push t l (pos 0) (length t) refl in
    record {
      clause = w.clause;
      is = w.is;
      has = subst (λ (x : ℤ). IsTrue (has_lit w.clause x)) (sym at) w.has;
      others = subst (λ (x : ℤ). IsTrue (others_false (take (length t) (t ++ l ∷ [])) w.clause x)) (sym at) (subst (λ (u : List ℤ). IsTrue (others_false u w.clause l)) (sym (take-append_seam t (l ∷ []))) w.others);
    }
may_hold p cs shown t l (Late a q) w =
    let at : lit_at (t ++ l ∷ []) (length t) ≡ l = get_or_push t l (pos 0) (length t) refl in
    record {
      some = w.some;
      forces = subst (AtomForces p (take q (shown a)) a) (sym at) w.forces;
      before = subst (λ (u : List ℤ). IsTrue (within (take q (shown a)) u)) (sym (take-append_seam t (l ∷ []))) w.before;
    }

-- ---- a literal joins

pub reasons_joined : (p : Instance) (cs : List (List ℤ)) (shown : ℕ → List ℤ) (t : TrailView) (l : ℤ) (why : Reason) → IsSoundTrail t → HasReasons p cs shown t → MayJoin p cs shown t.lits l why → HasReasons p cs shown (joined t l why)
reasons_joined p cs shown t l why s r may = record { at = λ k lt. by_place k (omega (arith, lt, length-append t.lits (l ∷ []))) (cases_lt k (length t.lits)) }
  where
    new : Mark
    new = record { level = next_level why t.level; reason = why }

    by_place : (k : ℕ) → k < length t.lits + 1 → (k < length t.lits) ⊎ (length t.lits ≤ k) → ReasonHolds p cs shown (t.lits ++ l ∷ []) k (reason_at (t.marks ++ new ∷ []) k)
    by_place k lt (inl low) =
        let e : reason_at (t.marks ++ new ∷ []) k ≡ reason_at t.marks k = ap (λ (m : Mark). m.reason) (get_or_append_left t.marks (new ∷ []) no_mark k (omega (arith, low, s.as_many))) in
        subst (ReasonHolds p cs shown (t.lits ++ l ∷ []) k) (sym e) (holds_same p cs shown t.lits (t.lits ++ l ∷ []) k (reason_at t.marks k) (get_or_append_left t.lits (l ∷ []) (pos 0) k low) (take-append-le k t.lits (l ∷ []) (omega (arith, low))) (r.at k low))
    by_place k lt (inr high) =
        let here : k ≡ length t.lits = omega (arith, lt, high) in
        let e : reason_at (t.marks ++ new ∷ []) (length t.lits) ≡ why = ap (λ (m : Mark). m.reason) (get_or_push t.marks new no_mark (length t.lits) s.as_many) in
        subst (λ (n : ℕ). ReasonHolds p cs shown (t.lits ++ l ∷ []) n (reason_at (t.marks ++ new ∷ []) n)) (sym here) (subst (ReasonHolds p cs shown (t.lits ++ l ∷ []) (length t.lits)) (sym e) (may_hold p cs shown t.lits l why may))

-- ---- literals are dropped

pub reasons_lowered : (p : Instance) (cs : List (List ℤ)) (shown : ℕ → List ℤ) (t : TrailView) (level : ℕ) → HasReasons p cs shown t → HasReasons p cs shown (lowered level t)
reasons_lowered p cs shown t level r =
    let n = count_to level t.marks in
    record {
      at = λ k lt.
          let low : k < n = omega (arith, lt, length-take n t.lits) in
          let len : k < length t.lits = omega (arith, lt, length-take n t.lits) in
          let e : reason_at (take n t.marks) k ≡ reason_at t.marks k = ap (λ (m : Mark). m.reason) (get_or-take n t.marks k no_mark low) in
          subst (ReasonHolds p cs shown (take n t.lits) k) (sym e) (holds_same p cs shown t.lits (take n t.lits) k (reason_at t.marks k) (get_or-take n t.lits k (pos 0) low) (take-take k n t.lits (omega (arith, low))) (r.at k len));
    }

-- ---- lists that read the same

holds_shown : (p : Instance) (cs : List (List ℤ)) (old new : ℕ → List ℤ) (t : List ℤ) (k : ℕ) (r : Reason) → ((a q : ℕ) → r ≡ Late a q → (q ≤ length (new a)) × (take q (new a) ≡ take q (old a))) → ReasonHolds p cs old t k r → ReasonHolds p cs new t k r
holds_shown p cs old new t k Decided h w = tt
holds_shown p cs old new t k (Clause n) h w = w
holds_shown p cs old new t k (Late a q) h w =
    let same = h a q refl in
    record {
      some = same.0;
      forces = subst (λ (u : List ℤ). AtomForces p u a (lit_at t k)) (sym same.1) w.forces;
      before = subst (λ (u : List ℤ). IsTrue (within u (take k t))) (sym same.1) w.before;
    }

pub reasons_shown : (p : Instance) (cs : List (List ℤ)) (old new : ℕ → List ℤ) (t : TrailView) → StillShown old new t → HasReasons p cs old t → HasReasons p cs new t
reasons_shown p cs old new t h r = record { at = λ k lt. holds_shown p cs old new t.lits k (reason_at t.marks k) (λ a q e. (h.some k a q lt e, h.same k a q lt e)) (r.at k lt) }

-- ---- learned clauses below their level

level_above : (low : ℕ) (ms : List Mark) (top j k : ℕ) → Climbs low ms top → count_to j ms ≤ k → k < length ms → j < level_at ms k
level_above low ms top j k c le lt = elim (cases_lt j (level_at ms k)) [
  | inl above ↦ above
  | inr up_to ↦ absurd (omega (arith, le, (up_to_level low ms top j k c lt).1 up_to))
]

pub learnt_asserts : (t : TrailView) (c : List ℤ) (back level : ℕ) → IsSoundTrail t → (a : IsLearnt t c back) → back ≤ level → level < t.level → IsUnitIn (take (count_to level t.marks) t.lits) c a.lit
learnt_asserts t c back level s a low high = record {
  has = a.has;
  open_now = and_from (not (has_lit (take n t.lits) a.lit)) (not (has_lit (take n t.lits) (neg_ℤ a.lit))) (off (has_lit (take n t.lits) a.lit) not_true) (off (has_lit (take n t.lits) (neg_ℤ a.lit)) not_false);
  others = from_each (is_false_in (take n t.lits)) (without c a.lit) (λ l h. let q = without_has c a.lit l h in let o = a.others l q.0 q.1 in there l o.0 o.1 o.2);
}
  where
    n : ℕ
    n = count_to level t.marks

    off : (b : Bool) → (b ≡ true → ⊥) → IsTrue (not b)
    off true m = absurd (m refl)
    off false m = refl

    not_false : IsTrue (has_lit (take n t.lits) (neg_ℤ a.lit)) → ⊥
    not_false h =
        let w = has_stands (take n t.lits) (neg_ℤ a.lit) h in
        let len = length-take n t.lits in
        let there : lit_at t.lits w.place ≡ neg_ℤ a.lit = sym (get_or-take n t.lits w.place (pos 0) (omega (arith, w.within, len))) ∙ w.there in
        let same : w.place ≡ a.present.place = one_place t.lits w.place a.present.place s.partial (omega (arith, w.within, len)) a.present.within (ap var_of (there ∙ sym a.present.there)) in
        omega (arith, ap (level_at t.marks) same, a.present.at, kept_low level t.marks w.place (omega (arith, w.within, len)), high)

    not_true : IsTrue (has_lit (take n t.lits) a.lit) → ⊥
    not_true h =
        let w = has_stands (take n t.lits) a.lit h in
        let len = length-take n t.lits in
        no_opposites t w.place a.present.place a.lit s (omega (arith, w.within, len)) a.present.within (sym (get_or-take n t.lits w.place (pos 0) (omega (arith, w.within, len))) ∙ w.there) a.present.there

    there : (l : ℤ) (lev : ℕ) → lev ≤ back → StandsAt t (neg_ℤ l) lev → IsTrue (is_false_in (take n t.lits) l)
    there l lev le w =
        let at : w.place < n = below (cases_lt w.place n) in
        stands_has (take n t.lits) (neg_ℤ l) (record { place = w.place; within = omega (arith, at, w.within, length-take n t.lits); there = get_or-take n t.lits w.place (pos 0) at ∙ w.there })
      where
        below : (w.place < n) ⊎ (n ≤ w.place) → w.place < n
        below (inl x) = x
        below (inr x) = absurd (omega (arith, le, low, w.at, level_above 0 t.marks t.level level w.place s.climbs x (omega (arith, w.within, s.as_many))))
