-- The laws of `Follows`.
use Rattle.std.proofs.Common.{◌≡◌, ◌≢◌, ℕ, zero, suc, ◌<◌, ◌≤◌, min, List, [], ◌∷◌, ◌++◌, length, set, arith, refl, sym, ◌∙◌, ap, subst, length-append, ◌⊎◌, inl, inr}
use Rattle.std.specs.Prelude.{ℤ, pos, neg_ℤ, Option, Some, None}
use Rattle.std.proofs.lemmas.List.{get_or-take, length-take, get_or_append_left}
use Rattle.std.proofs.Math.Seq.{get_or-append_seam}
use Rattle.mono_base.specs.Literal.{lit_at}
use Rattle.mono_trail.specs.Moves.{joined, lowered, settled, settled_at, settled_where}
use Rattle.mono_trail.specs.Places.{level_at, no_mark, place_in}
use Rattle.mono_trail.specs.TrailView.{TrailView, IsSoundTrail, count_to, next_level}
use Rattle.mono_trail.specs.declared.reason.Mark.{Mark}
use Rattle.mono_trail.specs.declared.reason.Reason.{Reason}
use Rattle.mono_trail.specs.declared.reason.Reason.TheVariants.{Decided, Clause, Late}
use Rattle.mono_trail.proofs.Levels.{kept_low, up_to_level}
use Rattle.mono_clauses.proofs.OldAndNew.{old_or_new}
use Rattle.mono_clauses.specs.Store.{StoreView, no_clauses, watch_at, other, IsTrueBy, Guards, Follows, FollowsBelow}
use Rattle.mono_clauses.specs.Visits.{Guarded}

none_some : {A : Type 0} {x : A} → None ≡ Some x → ⊥
none_some e = cc

-- a new store follows every trail
pub follows_new : (t : TrailView) → Follows (no_clauses t.vars) t
follows_new t = record { vars = refl; at = λ w a b e f. absurd (none_some e); alone = λ w a e f. absurd (none_some e) }

-- ---- a literal joins

level_old : (ms : List Mark) (m : Mark) (p : ℕ) → p < length ms → level_at (ms ++ m ∷ []) p ≡ level_at ms p
level_old ms m p lt = ap (λ (x : Mark). x.level) (get_or_append_left ms (m ∷ []) no_mark p lt)

pub true_joined : (t : TrailView) (l b : ℤ) (why : Reason) (level : ℕ) → length t.marks ≡ length t.lits → IsTrueBy t b level → IsTrueBy (joined t l why) b level
true_joined t l b why level as_many i = record {
  place = i.place;
  within = omega (arith, i.within, length-append t.lits (l ∷ []));
  there = get_or_append_left t.lits (l ∷ []) (pos 0) i.place i.within ∙ i.there;
  low = rw (level_old t.marks (record { level = next_level why t.level; reason = why }) i.place (omega (arith, i.within, as_many))) i.low;
}

-- a guard stays where the level does, or all was given
pub guards_joined : (t : TrailView) (l a b : ℤ) (why : Reason) (n : ℕ) → length t.marks ≡ length t.lits → n ≤ length t.lits → ((p : ℕ) → n ≤ p → p < length t.lits → next_level why t.level ≡ t.level) → Guards t n a b → Guards (joined t l why) n a b
guards_joined t l a b why n as_many le stays g = record { at = λ p lt e. by_age p e (old_or_new p (length t.lits) (omega (arith, lt, length-append t.lits (l ∷ [])))) }
  where
    by_guard : (p : ℕ) → p < length t.lits → IsTrueBy t b (level_at t.marks p) ⊎ ((n ≤ p) × (level_at t.marks p ≡ t.level)) → IsTrueBy (joined t l why) b (level_at (joined t l why).marks p) ⊎ ((n ≤ p) × (level_at (joined t l why).marks p ≡ (joined t l why).level))
    by_guard p lt (inl i) = inl (subst (λ (q : ℕ). IsTrueBy (joined t l why) b q) (sym (level_old t.marks (record { level = next_level why t.level; reason = why }) p (omega (arith, lt, as_many)))) (true_joined t l b why (level_at t.marks p) as_many i))
    by_guard p lt (inr w) = inr (w.0, level_old t.marks (record { level = next_level why t.level; reason = why }) p (omega (arith, lt, as_many)) ∙ w.1 ∙ sym (stays p w.0 lt))

    by_age : (p : ℕ) → lit_at (joined t l why).lits p ≡ neg_ℤ a → (p < length t.lits) ⊎ (p ≡ length t.lits) → IsTrueBy (joined t l why) b (level_at (joined t l why).marks p) ⊎ ((n ≤ p) × (level_at (joined t l why).marks p ≡ (joined t l why).level))
    by_age p e (inl lt) = by_guard p lt (g.at p lt (sym (get_or_append_left t.lits (l ∷ []) (pos 0) p lt) ∙ e))
    by_age p e (inr z) = inr (omega (arith, z, le), ap (λ (q : ℕ). level_at (joined t l why).marks q) (z ∙ sym as_many) ∙ ap (λ (x : Mark). x.level) (get_or-append_seam t.marks (record { level = next_level why t.level; reason = why }) [] no_mark))

pub same_level : (why : Reason) (n : ℕ) → why ≢ Decided → next_level why n ≡ n
same_level Decided n d = absurd (d refl)
same_level (Clause c) n d = refl
same_level (Late a k) n d = refl

pub follows_decide : (s : StoreView) (t : TrailView) (l : ℤ) → IsSoundTrail t → t.given ≡ length t.lits → Follows s t → Follows s (joined t l Decided)
follows_decide s t l sound all f = record {
  vars = f.vars;
  at = λ w a b e g. guards_joined t l a b Decided t.given sound.as_many sound.given_in (λ p x y. absurd (omega (arith, x, y, all))) (f.at w a b e g);
  alone = λ w a e g. true_joined t l a Decided 0 sound.as_many (f.alone w a e g);
}

pub follows_imply : (s : StoreView) (t : TrailView) (l : ℤ) (why : Reason) → IsSoundTrail t → why ≢ Decided → Follows s t → Follows s (joined t l why)
follows_imply s t l why sound d f = record {
  vars = f.vars;
  at = λ w a b e g. guards_joined t l a b why t.given sound.as_many sound.given_in (λ p x y. same_level why t.level d) (f.at w a b e g);
  alone = λ w a e g. true_joined t l a why 0 sound.as_many (f.alone w a e g);
}

-- ---- literals above a level are dropped

level_kept : (t : TrailView) (level p : ℕ) → p < count_to level t.marks → level_at (lowered level t).marks p ≡ level_at t.marks p
level_kept t level p lt = ap (λ (x : Mark). x.level) (get_or-take (count_to level t.marks) t.marks p no_mark lt)

true_lowered : (t : TrailView) (b : ℤ) (level low : ℕ) → IsSoundTrail t → low ≤ level → IsTrueBy t b low → IsTrueBy (lowered level t) b low
true_lowered t b level low sound le i =
    let in_marks : i.place < length t.marks = omega (arith, i.within, sound.as_many) in
    let kept : i.place < count_to level t.marks = (up_to_level 0 t.marks t.level level i.place sound.climbs in_marks).1 (omega (arith, i.low, le)) in
    record {
      place = i.place;
      within = rw (length-take (count_to level t.marks) t.lits) (omega (arith, kept, i.within));
      there = get_or-take (count_to level t.marks) t.lits i.place (pos 0) kept ∙ i.there;
      low = rw (level_kept t level i.place kept) i.low;
    }

guards_lowered : (t : TrailView) (a b : ℤ) (level : ℕ) → IsSoundTrail t → level ≤ t.level → Guards t t.given a b → Guards (lowered level t) (min t.given (count_to level t.marks)) a b
guards_lowered t a b level sound le g = record { at = λ p lt e. at p (omega (arith, lt, length-take (count_to level t.marks) t.lits)) (omega (arith, lt, length-take (count_to level t.marks) t.lits)) e }
  where
    by_guard : (p : ℕ) → p < count_to level t.marks → IsTrueBy t b (level_at t.marks p) ⊎ ((t.given ≤ p) × (level_at t.marks p ≡ t.level)) → IsTrueBy (lowered level t) b (level_at (lowered level t).marks p) ⊎ ((min t.given (count_to level t.marks) ≤ p) × (level_at (lowered level t).marks p ≡ level))
    by_guard p lt (inl i) = inl (subst (λ (q : ℕ). IsTrueBy (lowered level t) b q) (sym (level_kept t level p lt)) (true_lowered t b level (level_at t.marks p) sound (kept_low level t.marks p lt) i))
    by_guard p lt (inr w) = inr (omega (arith, w.0), level_kept t level p lt ∙ (let top : level_at t.marks p ≡ level = omega (arith, w.1, le, kept_low level t.marks p lt) in top))

    at : (p : ℕ) → p < count_to level t.marks → p < length t.lits → lit_at (lowered level t).lits p ≡ neg_ℤ a → IsTrueBy (lowered level t) b (level_at (lowered level t).marks p) ⊎ ((min t.given (count_to level t.marks) ≤ p) × (level_at (lowered level t).marks p ≡ level))
    at p lt within e = by_guard p lt (g.at p within (sym (get_or-take (count_to level t.marks) t.lits p (pos 0) lt) ∙ e))

pub follows_back : (s : StoreView) (t : TrailView) (level : ℕ) → IsSoundTrail t → level ≤ t.level → Follows s t → Follows s (lowered level t)
follows_back s t level sound le f = record {
  vars = f.vars;
  at = λ w a b e g. guards_lowered t a b level sound le (f.at w a b e g);
  alone = λ w a e g. true_lowered t a level 0 sound (omega arith) (f.alone w a e g);
}

-- ---- below the present level

-- a store that follows, follows below
pub below_of : (s : StoreView) (t : TrailView) (ahead : List ℕ) → s.vars ≡ t.vars → Guarded s.watched t ahead → FollowsBelow s t
below_of s t ahead v f = record { vars = v; at = λ w a b e g p lt l low. by_guard p low ((f.at w a b e g).at p lt l); alone = f.alone }
  where
    by_guard : {b : ℤ} (p : ℕ) → level_at t.marks p < t.level → {n : ℕ} → IsTrueBy t b (level_at t.marks p) ⊎ ((n ≤ p) × (level_at t.marks p ≡ t.level)) → IsTrueBy t b (level_at t.marks p)
    by_guard p low (inl i) = i
    by_guard p low (inr x) = absurd (omega (arith, low, x.1))

-- after a false clause was found the store follows again once the trail has gone back
pub follows_below_back : (s : StoreView) (t : TrailView) (level : ℕ) → IsSoundTrail t → level < t.level → FollowsBelow s t → Follows s (lowered level t)
follows_below_back s t level sound lt f = record {
  vars = f.vars;
  at = λ w a b e g. record { at = λ p within l. inl (at w a b e g p (omega (arith, within, length-take (count_to level t.marks) t.lits)) (omega (arith, within, length-take (count_to level t.marks) t.lits)) l) };
  alone = λ w a e g. true_lowered t a level 0 sound (omega arith) (f.alone w a e g);
}
  where
    at : (w : ℕ) (a b : ℤ) → watch_at s.watched w ≡ Some a → watch_at s.watched (other w) ≡ Some b → (p : ℕ) → p < count_to level t.marks → p < length t.lits → lit_at (lowered level t).lits p ≡ neg_ℤ a → IsTrueBy (lowered level t) b (level_at (lowered level t).marks p)
    at w a b e g p kept within l =
        let low : level_at t.marks p ≤ level = kept_low level t.marks p kept in
        subst (λ (q : ℕ). IsTrueBy (lowered level t) b q) (sym (level_kept t level p kept))
        (true_lowered t b level (level_at t.marks p) sound low (f.at w a b e g p within (sym (get_or-take (count_to level t.marks) t.lits p (pos 0) kept) ∙ l) (omega (arith, low, lt))))

-- ---- a late reason is settled

level_same : (ms : List Mark) (k p : ℕ) (m : Mark) → m.level ≡ level_at ms k → level_at (set ms k m) p ≡ level_at ms p
level_same [] k p m e = refl
level_same (x ∷ ms) zero zero m e = e
level_same (x ∷ ms) zero (suc p) m e = refl
level_same (x ∷ ms) (suc k) zero m e = refl
level_same (x ∷ ms) (suc k) (suc p) m e = level_same ms k p m e

-- the levels stay
settled_level : (t : TrailView) (k n p : ℕ) → level_at (settled_at t k n).marks p ≡ level_at t.marks p
settled_level t k n p = level_same t.marks k p (record { level = level_at t.marks k; reason = Clause n }) refl

true_settled : (t : TrailView) (k n : ℕ) (b : ℤ) (level : ℕ) → IsTrueBy t b level → IsTrueBy (settled_at t k n) b level
true_settled t k n b level i = record { place = i.place; within = i.within; there = i.there; low = rw (settled_level t k n i.place) i.low }

guards_settled : (t : TrailView) (k n m : ℕ) (a b : ℤ) → Guards t m a b → Guards (settled_at t k n) m a b
guards_settled t k n m a b g = record { at = λ p lt e. by_guard p (g.at p lt e) }
  where
    by_guard : (p : ℕ) → IsTrueBy t b (level_at t.marks p) ⊎ ((m ≤ p) × (level_at t.marks p ≡ t.level)) → IsTrueBy (settled_at t k n) b (level_at (settled_at t k n).marks p) ⊎ ((m ≤ p) × (level_at (settled_at t k n).marks p ≡ t.level))
    by_guard p (inl i) = inl (subst (λ (q : ℕ). IsTrueBy (settled_at t k n) b q) (sym (settled_level t k n p)) (true_settled t k n b (level_at t.marks p) i))
    by_guard p (inr x) = inr (x.0, settled_level t k n p ∙ x.1)

follows_settle_where : (s : StoreView) (t : TrailView) (o : Option ℕ) (n : ℕ) → Follows s t → Follows s (settled_where t o n)
follows_settle_where s t None n f = f
follows_settle_where s t (Some k) n f = record {
  vars = f.vars;
  at = λ w a b e g. guards_settled t k n t.given a b (f.at w a b e g);
  alone = λ w a e g. true_settled t k n a 0 (f.alone w a e g);
}

pub follows_settle : (s : StoreView) (t : TrailView) (v n : ℕ) → Follows s t → Follows s (settled t v n)
follows_settle s t v n f = follows_settle_where s t (place_in t.lits v) n f

below_settle_where : (s : StoreView) (t : TrailView) (o : Option ℕ) (n : ℕ) → FollowsBelow s t → FollowsBelow s (settled_where t o n)
below_settle_where s t None n f = f
below_settle_where s t (Some k) n f = record {
  vars = f.vars;
  at = λ w a b e g p lt l low.
      let by = f.at w a b e g p lt l (omega (arith, settled_level t k n p, low)) in
      subst (λ (q : ℕ). IsTrueBy (settled_at t k n) b q) (sym (settled_level t k n p)) (true_settled t k n b (level_at t.marks p) by);
  alone = λ w a e g. true_settled t k n a 0 (f.alone w a e g);
}

pub below_settle : (s : StoreView) (t : TrailView) (v n : ℕ) → FollowsBelow s t → FollowsBelow s (settled t v n)
below_settle s t v n f = below_settle_where s t (place_in t.lits v) n f
