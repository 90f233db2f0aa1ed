-- Clauses that are due.
use Rattle.std.proofs.Common.{◌≡◌, ◌≢◌, ℕ, zero, suc, ◌+◌, ◌-◌, ◌*◌, ◌/◌, ◌<◌, true, false, List, [], ◌∷◌, ◌++◌, length, get_or, set, arith, refl, sym, ◌∙◌, ap, subst, ◌⊎◌, inl, inr, eqb, get_or-set_same, get_or-set_other, length-append}
use Rattle.std.specs.Prelude.{ℤ, pos, Option, Some, None}
use Rattle.std.proofs.lemmas.Bool.Decides.{eqb_tells}
use Rattle.std.proofs.lemmas.List.{length-set}
use Rattle.std.proofs.Math.Seq.{get_or-append_seam}
use Rattle.mono_base.specs.Partial.{value_by}
use Rattle.mono_base.specs.declared.value.Value.TheVariants.{Yes}
use Rattle.mono_clauses.proofs.Growth.{Grows-then, HasTrue-grows, Grows-vars}
use Rattle.mono_clauses.proofs.Literals.{IsUnit, stands_yes, false_clause}
use Rattle.mono_clauses.proofs.OneWatcher.{unit_of}
use Rattle.mono_clauses.proofs.Times.{times_same, times_other}
use Rattle.mono_clauses.proofs.AllWatchers.{NoneBefore-same, NoneBefore-then}
use Rattle.mono_clauses.proofs.WatchGuards.{other_even, other_odd, other_other, half_even, half_odd, unfalse_guards, implied_guarded}
use Rattle.mono_clauses.specs.ClauseValues.{HasTrue, IsUnfalse, IsAnotherUnfalse, AllFalse}
use Rattle.mono_clauses.specs.Lists.{Stands, times}
use Rattle.mono_clauses.specs.Propagation.{Grows, same, implies}
use Rattle.mono_clauses.specs.Store.{Held, clause_at, watch_at, other, IsTrueBy, Guards}
use Rattle.mono_clauses.specs.Visits.{Pair, Paired, NoneBefore, IsFollowing, Tried, Watched, Failed, DueKept, WatchedDropped}
use Rattle.mono_clauses.specs.Watching.{WatchesView, attached}
use Rattle.mono_trail.specs.Moves.{joined}
use Rattle.mono_trail.specs.TrailView.{TrailView, IsSoundTrail}
use Rattle.mono_trail.specs.declared.reason.Reason.TheVariants.{Clause}

pub second_idle : (cs : List Held) (ws : List (Option ℤ)) (k : ℕ) → Paired cs ws → watch_at ws (2 * k) ≡ None → watch_at ws (2 * k + 1) ≡ None
second_idle cs ws k p e = by_watch (watch_at ws (2 * k + 1)) refl
  where
    by_watch : (o : Option ℤ) → watch_at ws (2 * k + 1) ≡ o → watch_at ws (2 * k + 1) ≡ None
    by_watch None f = f
    by_watch (Some b) f =
        let q = p.watcher (2 * k + 1) b f in
        let g : None ≡ Some q.mate = sym e ∙ ap (watch_at ws) (sym (other_odd k)) ∙ q.is in
        absurd cc

-- a due clause whose watchers watch two literals that guard each other, or one that is true at level 0
pub attach_guarded : (cs : List Held) (v u : WatchesView) (t : TrailView) (k : ℕ) (x y : ℤ) → IsFollowing cs v t → k < length cs → Stands (clause_at cs k).lits x → Stands (clause_at cs k).lits y → (x ≡ y → IsTrueBy t x 0) → ((n : ℕ) → Guards t n x y) → ((n : ℕ) → Guards t n y x)
    → u ≡ attached (attached v (2 * k) x) (2 * k + 1) y → Tried cs v u t t k
attach_guarded cs v u t k x y i lt hx hy lone gx gy e = subst (λ (q : WatchesView). Tried cs v q t t k) (sym e) (record {
  following = record {
    vars = i.vars;
    paired = record {
      count = length-set (set v.watched (2 * k) (Some x)) (2 * k + 1) (Some y) ∙ length-set v.watched (2 * k) (Some x) ∙ i.paired.count;
      watcher = λ w a f. pair_at w a f (eqb_tells (2 * k) w) (eqb_tells (2 * k + 1) w);
    };
    empty = i.empty;
    guarded = record {
      at = λ w a b f g. guard_at w a b f g (eqb_tells (2 * k) w) (eqb_tells (2 * k + 1) w);
      alone = λ w a f g. alone_at w a f g (eqb_tells (2 * k) w) (eqb_tells (2 * k + 1) w);
    };
  };
  grows = same t refl;
  before = record { back = λ w f. none_at w f (eqb_tells (2 * k) w) (eqb_tells (2 * k + 1) w) };
  done = λ f. absurd (let g : None ≡ Some x = sym f ∙ first in cc);
})
  where
    within : 2 * k + 1 < length v.watched
    within = omega (arith, lt, i.paired.count)

    first : watch_at (set (set v.watched (2 * k) (Some x)) (2 * k + 1) (Some y)) (2 * k) ≡ Some x
    first = get_or-set_other (set v.watched (2 * k) (Some x)) (2 * k + 1) (2 * k) (Some y) None (λ z. omega (arith, z)) ∙ get_or-set_same v.watched (2 * k) (Some x) None (omega (arith, lt, i.paired.count))

    second : watch_at (set (set v.watched (2 * k) (Some x)) (2 * k + 1) (Some y)) (2 * k + 1) ≡ Some y
    second = get_or-set_same (set v.watched (2 * k) (Some x)) (2 * k + 1) (Some y) None (rw length-set (omega (arith, lt, i.paired.count)))

    elsewhere : (w : ℕ) → 2 * k ≢ w → 2 * k + 1 ≢ w → watch_at (set (set v.watched (2 * k) (Some x)) (2 * k + 1) (Some y)) w ≡ watch_at v.watched w
    elsewhere w a b = get_or-set_other (set v.watched (2 * k) (Some x)) (2 * k + 1) w (Some y) None (λ z. b (sym z)) ∙ get_or-set_other v.watched (2 * k) w (Some x) None (λ z. a (sym z))

    some_eq : {a b : ℤ} {o : Option ℤ} → o ≡ Some a → o ≡ Some b → a ≡ b
    some_eq f g = cc

    other_off : (w : ℕ) → 2 * k ≢ w → 2 * k + 1 ≢ w → 2 * k ≢ other w
    other_off w a b z = b (sym (other_even k) ∙ ap other z ∙ other_other w)

    other_off_2 : (w : ℕ) → 2 * k ≢ w → 2 * k + 1 ≢ w → 2 * k + 1 ≢ other w
    other_off_2 w a b z = a (sym (other_odd k) ∙ ap other z ∙ other_other w)

    none_at : (w : ℕ) → watch_at (set (set v.watched (2 * k) (Some x)) (2 * k + 1) (Some y)) w ≡ None → ((eqb (2 * k) w ≡ true) × (2 * k ≡ w)) ⊎ ((eqb (2 * k) w ≡ false) × (2 * k ≢ w)) → ((eqb (2 * k + 1) w ≡ true) × (2 * k + 1 ≡ w)) ⊎ ((eqb (2 * k + 1) w ≡ false) × (2 * k + 1 ≢ w)) → watch_at v.watched w ≡ None
    none_at w f (inl s) q = absurd (let g : None ≡ Some x = sym f ∙ ap (watch_at (set (set v.watched (2 * k) (Some x)) (2 * k + 1) (Some y))) (sym s.1) ∙ first in cc)
    none_at w f (inr o) (inl s) = absurd (let g : None ≡ Some y = sym f ∙ ap (watch_at (set (set v.watched (2 * k) (Some x)) (2 * k + 1) (Some y))) (sym s.1) ∙ second in cc)
    none_at w f (inr o) (inr r) = sym (elsewhere w o.1 r.1) ∙ f

    pair_at : (w : ℕ) (a : ℤ) → watch_at (set (set v.watched (2 * k) (Some x)) (2 * k + 1) (Some y)) w ≡ Some a → ((eqb (2 * k) w ≡ true) × (2 * k ≡ w)) ⊎ ((eqb (2 * k) w ≡ false) × (2 * k ≢ w)) → ((eqb (2 * k + 1) w ≡ true) × (2 * k + 1 ≡ w)) ⊎ ((eqb (2 * k + 1) w ≡ false) × (2 * k + 1 ≢ w)) → Pair (clause_at cs (w / 2)).lits a (watch_at (set (set v.watched (2 * k) (Some x)) (2 * k + 1) (Some y)) (other w))
    pair_at w a f (inl s) q =
        let xa : x ≡ a = some_eq first (ap (watch_at (set (set v.watched (2 * k) (Some x)) (2 * k + 1) (Some y))) s.1 ∙ f) in
        let half : k ≡ w / 2 = sym (half_even k) ∙ ap (λ (n : ℕ). n / 2) s.1 in
        let ow : 2 * k + 1 ≡ other w = sym (other_even k) ∙ ap other s.1 in
        record {
          has = subst (λ (n : ℕ). Stands (clause_at cs n).lits a) half (subst (λ (l : ℤ). Stands (clause_at cs k).lits l) xa hx);
          mate = y;
          is = ap (watch_at (set (set v.watched (2 * k) (Some x)) (2 * k + 1) (Some y))) (sym ow) ∙ second;
        }
    pair_at w a f (inr o) (inl s) =
        let ya : y ≡ a = some_eq second (ap (watch_at (set (set v.watched (2 * k) (Some x)) (2 * k + 1) (Some y))) s.1 ∙ f) in
        let half : k ≡ w / 2 = sym (half_odd k) ∙ ap (λ (n : ℕ). n / 2) s.1 in
        let ow : 2 * k ≡ other w = sym (other_odd k) ∙ ap other s.1 in
        record {
          has = subst (λ (n : ℕ). Stands (clause_at cs n).lits a) half (subst (λ (l : ℤ). Stands (clause_at cs k).lits l) ya hy);
          mate = x;
          is = ap (watch_at (set (set v.watched (2 * k) (Some x)) (2 * k + 1) (Some y))) (sym ow) ∙ first;
        }
    pair_at w a f (inr o) (inr r) =
        let old = i.paired.watcher w a (sym (elsewhere w o.1 r.1) ∙ f) in
        record { has = old.has; mate = old.mate; is = elsewhere (other w) (other_off w o.1 r.1) (other_off_2 w o.1 r.1) ∙ old.is }

    guard_at : (w : ℕ) (a b : ℤ) → watch_at (set (set v.watched (2 * k) (Some x)) (2 * k + 1) (Some y)) w ≡ Some a → watch_at (set (set v.watched (2 * k) (Some x)) (2 * k + 1) (Some y)) (other w) ≡ Some b → ((eqb (2 * k) w ≡ true) × (2 * k ≡ w)) ⊎ ((eqb (2 * k) w ≡ false) × (2 * k ≢ w)) → ((eqb (2 * k + 1) w ≡ true) × (2 * k + 1 ≡ w)) ⊎ ((eqb (2 * k + 1) w ≡ false) × (2 * k + 1 ≢ w)) → Guards t (t.given - times w []) a b
    guard_at w a b f g (inl s) q =
        let xa : x ≡ a = some_eq first (ap (watch_at (set (set v.watched (2 * k) (Some x)) (2 * k + 1) (Some y))) s.1 ∙ f) in
        let ow : 2 * k + 1 ≡ other w = sym (other_even k) ∙ ap other s.1 in
        let yb : y ≡ b = some_eq second (ap (watch_at (set (set v.watched (2 * k) (Some x)) (2 * k + 1) (Some y))) ow ∙ g) in
        subst (λ (l : ℤ). Guards t (t.given - times w []) l b) xa (subst (λ (m : ℤ). Guards t (t.given - times w []) x m) yb (gx (t.given - times w [])))
    guard_at w a b f g (inr o) (inl s) =
        let ya : y ≡ a = some_eq second (ap (watch_at (set (set v.watched (2 * k) (Some x)) (2 * k + 1) (Some y))) s.1 ∙ f) in
        let ow : 2 * k ≡ other w = sym (other_odd k) ∙ ap other s.1 in
        let xb : x ≡ b = some_eq first (ap (watch_at (set (set v.watched (2 * k) (Some x)) (2 * k + 1) (Some y))) ow ∙ g) in
        subst (λ (l : ℤ). Guards t (t.given - times w []) l b) ya (subst (λ (m : ℤ). Guards t (t.given - times w []) y m) xb (gy (t.given - times w [])))
    guard_at w a b f g (inr o) (inr r) = i.guarded.at w a b (sym (elsewhere w o.1 r.1) ∙ f) (sym (elsewhere (other w) (other_off w o.1 r.1) (other_off_2 w o.1 r.1)) ∙ g)

    alone_at : (w : ℕ) (a : ℤ) → watch_at (set (set v.watched (2 * k) (Some x)) (2 * k + 1) (Some y)) w ≡ Some a → watch_at (set (set v.watched (2 * k) (Some x)) (2 * k + 1) (Some y)) (other w) ≡ Some a → ((eqb (2 * k) w ≡ true) × (2 * k ≡ w)) ⊎ ((eqb (2 * k) w ≡ false) × (2 * k ≢ w)) → ((eqb (2 * k + 1) w ≡ true) × (2 * k + 1 ≡ w)) ⊎ ((eqb (2 * k + 1) w ≡ false) × (2 * k + 1 ≢ w)) → IsTrueBy t a 0
    alone_at w a f g (inl s) q =
        let xa : x ≡ a = some_eq first (ap (watch_at (set (set v.watched (2 * k) (Some x)) (2 * k + 1) (Some y))) s.1 ∙ f) in
        let ow : 2 * k + 1 ≡ other w = sym (other_even k) ∙ ap other s.1 in
        let ya : y ≡ a = some_eq second (ap (watch_at (set (set v.watched (2 * k) (Some x)) (2 * k + 1) (Some y))) ow ∙ g) in
        subst (λ (l : ℤ). IsTrueBy t l 0) xa (lone (xa ∙ sym ya))
    alone_at w a f g (inr o) (inl s) =
        let ya : y ≡ a = some_eq second (ap (watch_at (set (set v.watched (2 * k) (Some x)) (2 * k + 1) (Some y))) s.1 ∙ f) in
        let ow : 2 * k ≡ other w = sym (other_odd k) ∙ ap other s.1 in
        let xa : x ≡ a = some_eq first (ap (watch_at (set (set v.watched (2 * k) (Some x)) (2 * k + 1) (Some y))) ow ∙ g) in
        subst (λ (l : ℤ). IsTrueBy t l 0) xa (lone (xa ∙ sym ya))
    alone_at w a f g (inr o) (inr r) = i.guarded.alone w a (sym (elsewhere w o.1 r.1) ∙ f) (sym (elsewhere (other w) (other_off w o.1 r.1) (other_off_2 w o.1 r.1)) ∙ g)

-- a due clause whose watchers watch two literals that are not false
pub attach_tried : (cs : List Held) (v u : WatchesView) (t : TrailView) (k : ℕ) (x y : ℤ) → IsSoundTrail t → IsFollowing cs v t → k < length cs → IsUnfalse t.lits (clause_at cs k).lits x → IsAnotherUnfalse t.lits (clause_at cs k).lits x y
    → u ≡ attached (attached v (2 * k) x) (2 * k + 1) y → Tried cs v u t t k
attach_tried cs v u t k x y sound i lt fx fy e = attach_guarded cs v u t k x y i lt fx.has fy.has (λ z. absurd (fy.other (sym z))) (λ n. unfalse_guards t n x y sound fx.unfalse) (λ n. unfalse_guards t n y x sound fy.unfalse) e

-- so it is watched
pub attach_watched : (cs : List Held) (v u : WatchesView) (t : TrailView) (k : ℕ) (x y : ℤ) → IsSoundTrail t → IsFollowing cs v t → k < length cs → IsUnfalse t.lits (clause_at cs k).lits x → IsAnotherUnfalse t.lits (clause_at cs k).lits x y
    → u ≡ attached (attached v (2 * k) x) (2 * k + 1) y → Watched cs v u t k
attach_watched cs v u t k x y sound i lt fx fy e =
    let q = attach_tried cs v u t k x y sound i lt fx fy e in
    record { following = q.following; before = q.before; busy = λ z. some_none (sym there ∙ z) }
  where
    some_none : Some x ≡ None → ⊥
    some_none z = cc

    there : watch_at u.watched (2 * k) ≡ Some x
    there =
        ap (λ (q : WatchesView). watch_at q.watched (2 * k)) e
        ∙ get_or-set_other (set v.watched (2 * k) (Some x)) (2 * k + 1) (2 * k) (Some y) None (λ z. omega (arith, z))
        ∙ get_or-set_same v.watched (2 * k) (Some x) None (omega (arith, lt, i.paired.count))

pub following_implied : (cs : List Held) (v : WatchesView) (t : TrailView) (m : ℤ) (n : ℕ) → IsSoundTrail t → IsFollowing cs v t → IsFollowing cs v (joined t m (Clause n))
following_implied cs v t m n sound i = record { vars = i.vars; paired = i.paired; empty = i.empty; guarded = implied_guarded v.watched t [] m n sound i.guarded }

pub tried_watched : (cs : List Held) (v : WatchesView) (t : TrailView) (k : ℕ) (a : ℤ) → IsFollowing cs v t → watch_at v.watched (2 * k) ≡ Some a → Tried cs v v t t k
tried_watched cs v t k a i e = record { following = i; grows = same t refl; before = NoneBefore-same v.watched; done = λ f. absurd (let g : None ≡ Some a = sym f ∙ e in cc) }

pub tried_true : (cs : List Held) (v : WatchesView) (t : TrailView) (k : ℕ) (x : ℤ) → IsFollowing cs v t → Stands (clause_at cs k).lits x → value_by t.lits x ≡ Yes → Tried cs v v t t k
tried_true cs v t k x i s e = record { following = i; grows = same t refl; before = NoneBefore-same v.watched; done = λ f. record { lit = x; has = s; holds = e } }

pub implied_yes : (t : List ℤ) (x : ℤ) → value_by (t ++ x ∷ []) x ≡ Yes
implied_yes t x = stands_yes (t ++ x ∷ []) x (record { place = length t; within = omega (arith, length-append t (x ∷ [])); there = get_or-append_seam t x [] (pos 0) })

pub tried_implied : (cs : List Held) (v : WatchesView) (t s : TrailView) (k n : ℕ) (x : ℤ) → IsSoundTrail t → IsFollowing cs v t → k < length cs → n ≡ (clause_at cs k).number → IsUnit t.lits (clause_at cs k).lits x → s ≡ joined t x (Clause n) → Tried cs v v t s k
tried_implied cs v t s k n x sound i lt num unit e = record {
  following = subst (λ (q : TrailView). IsFollowing cs v q) (sym e) (following_implied cs v t x n sound i);
  grows = implies t s n x (same t refl) (unit_of cs t.lits k n x lt num unit) e;
  before = NoneBefore-same v.watched;
  done = λ f. record { lit = x; has = unit.has; holds = ap (λ (q : TrailView). value_by q.lits x) e ∙ implied_yes t.lits x };
}

pub tried_false : (cs : List Held) (v : WatchesView) (t : TrailView) (k n : ℕ) → IsFollowing cs v t → k < length cs → n ≡ (clause_at cs k).number → AllFalse t.lits (clause_at cs k).lits → Failed cs v v t t n
tried_false cs v t k n i lt num f = record { vars = i.vars; paired = i.paired; empty = i.empty; ahead = []; guarded = i.guarded; grows = same t refl; before = NoneBefore-same v.watched; is_false = record { place = k; within = lt; number = sym num; is_false = false_clause t.lits (clause_at cs k).lits f } }

-- the due clauses before one were settled, and that one was tried
pub settled_more : (cs : List Held) (v u x : WatchesView) (t s r : TrailView) (due : List ℕ) (n k : ℕ) → k ≡ get_or due n 0 → Grows cs t s → NoneBefore v.watched u.watched
    → ((j : ℕ) → j < n → watch_at u.watched (2 * get_or due j 0) ≡ None → HasTrue s.lits (clause_at cs (get_or due j 0)).lits) → Tried cs u x s r k
    → (j : ℕ) → j < n + 1 → watch_at x.watched (2 * get_or due j 0) ≡ None → HasTrue r.lits (clause_at cs (get_or due j 0)).lits
settled_more cs v u x t s r due n k e g b d q j lt f = by_place (eqb_tells n j)
  where
    by_place : ((eqb n j ≡ true) × (n ≡ j)) ⊎ ((eqb n j ≡ false) × (n ≢ j)) → HasTrue r.lits (clause_at cs (get_or due j 0)).lits
    by_place (inl z) =
        let kj : k ≡ get_or due j 0 = e ∙ ap (λ (m : ℕ). get_or due m 0) z.1 in
        subst (λ (m : ℕ). HasTrue r.lits (clause_at cs m).lits) kj (q.done (ap (λ (m : ℕ). watch_at x.watched (2 * m)) kj ∙ f))
    by_place (inr o) = HasTrue-grows cs s r (clause_at cs (get_or due j 0)).lits q.grows (d j (omega (arith, lt, o.1)) (q.before.back (2 * get_or due j 0) f))

pub tried_vars : (cs : List Held) (v u : WatchesView) (t s : TrailView) (k : ℕ) → IsFollowing cs v t → Tried cs v u t s k → u.vars ≡ v.vars
tried_vars cs v u t s k i q = q.following.vars ∙ Grows-vars cs t s q.grows ∙ sym i.vars

-- a place of a watcher in a list, and back
pub times_place : (k : ℕ) (xs : List ℕ) → 0 < times k xs → (j : ℕ) × ((j < length xs) × (get_or xs j 0 ≡ k))
times_place k [] lt = absurd (omega arith)
times_place k (x ∷ xs) lt = by_test (eqb_tells x k) (times_place k xs)
  where
    by_test : ((eqb x k ≡ true) × (x ≡ k)) ⊎ ((eqb x k ≡ false) × (x ≢ k)) → (0 < times k xs → (j : ℕ) × ((j < length xs) × (get_or xs j 0 ≡ k))) → (j : ℕ) × ((j < length (x ∷ xs)) × (get_or (x ∷ xs) j 0 ≡ k))
    by_test (inl s) ih = (0, (omega arith, s.1))
    by_test (inr o) ih =
        let r = ih (omega (arith, lt, times_other k x xs (λ z. o.1 (sym z)))) in (suc r.0, (omega (arith, r.1.0), r.1.1))

pub place_times : (k : ℕ) (xs : List ℕ) (j : ℕ) → j < length xs → get_or xs j 0 ≡ k → 0 < times k xs
place_times k [] j lt e = absurd (omega arith)
place_times k (x ∷ xs) zero lt e = subst (λ (m : ℕ). 0 < times m (x ∷ xs)) e (omega (arith, times_same x xs))
place_times k (x ∷ xs) (suc j) lt e = omega (arith, place_times k xs j (omega arith) e)

pub due_kept : (cs : List Held) (v u : WatchesView) (due : List ℕ) → NoneBefore v.watched u.watched → DueKept cs v due → DueKept cs u due
due_kept cs v u due b d = record { are_due = d.are_due; has_due = λ k lt e. d.has_due k lt (b.back (2 * k) e) }

pub record Swapped (xs ys : List ℕ) (i : ℕ) : Type 0 where
  pub len : length ys + 1 ≡ length xs
  pub at : i + 1 < length xs → get_or ys i 0 ≡ get_or xs (length xs - 1) 0
  pub others : (k : ℕ) → k ≢ i → k + 1 < length xs → get_or ys k 0 ≡ get_or xs k 0

-- a clause that is watched now leaves the list
pub due_swapped : (cs : List Held) (u : WatchesView) (xs ys : List ℕ) (i : ℕ) (a : ℤ) → i < length xs → Swapped xs ys i → watch_at u.watched (2 * get_or xs i 0) ≡ Some a → DueKept cs u xs → DueKept cs u ys
due_swapped cs u xs ys i a lt s e d = record {
  are_due = record { at = λ j l. by_place j l (eqb_tells i j) };
  has_due = λ k l f. (let j = times_place k xs (d.has_due k l f) in found k f j.0 j.1.0 j.1.1 (eqb_tells i j.0) (eqb_tells (j.0 + 1) (length xs)));
}
  where
    by_place : (j : ℕ) → j < length ys → ((eqb i j ≡ true) × (i ≡ j)) ⊎ ((eqb i j ≡ false) × (i ≢ j)) → get_or ys j 0 < length cs
    by_place j l (inl z) = subst (λ (m : ℕ). get_or ys m 0 < length cs) z.1 (omega (arith, s.at (omega (arith, l, s.len, z.1)), d.are_due.at (length xs - 1) (omega (arith, lt))))
    by_place j l (inr o) = omega (arith, s.others j (λ z. o.1 (sym z)) (omega (arith, l, s.len)), d.are_due.at j (omega (arith, l, s.len)))

    found : (k : ℕ) → watch_at u.watched (2 * k) ≡ None → (j : ℕ) → j < length xs → get_or xs j 0 ≡ k → ((eqb i j ≡ true) × (i ≡ j)) ⊎ ((eqb i j ≡ false) × (i ≢ j)) → ((eqb (j + 1) (length xs) ≡ true) × (j + 1 ≡ length xs)) ⊎ ((eqb (j + 1) (length xs) ≡ false) × (j + 1 ≢ length xs)) → 0 < times k ys
    found k f j l g (inl z) q =
        let same : get_or xs i 0 ≡ k = ap (λ (m : ℕ). get_or xs m 0) z.1 ∙ g in
        absurd (let h : None ≡ Some a = sym f ∙ ap (λ (m : ℕ). watch_at u.watched (2 * m)) (sym same) ∙ e in cc)
    found k f j l g (inr o) (inl q) =
        let last : length xs - 1 ≡ j = omega (arith, q.1) in
        let there : get_or ys i 0 ≡ k = s.at (omega (arith, lt, l, q.1, o.1)) ∙ ap (λ (m : ℕ). get_or xs m 0) last ∙ g in
        place_times k ys i (omega (arith, s.len, lt, l, q.1, o.1)) there
    found k f j l g (inr o) (inr r) = place_times k ys j (omega (arith, s.len, l, r.1)) (s.others j (λ z. o.1 (sym z)) (omega (arith, l, r.1)) ∙ g)

-- what was done stays done
pub done_more : (cs : List Held) (u x : WatchesView) (s r : TrailView) (due : List ℕ) (n : ℕ) → NoneBefore u.watched x.watched → Grows cs s r
    → ((j : ℕ) → j < n → watch_at u.watched (2 * get_or due j 0) ≡ None → HasTrue s.lits (clause_at cs (get_or due j 0)).lits)
    → (j : ℕ) → j < n → watch_at x.watched (2 * get_or due j 0) ≡ None → HasTrue r.lits (clause_at cs (get_or due j 0)).lits
done_more cs u x s r due n b g d j lt f = HasTrue-grows cs s r (clause_at cs (get_or due j 0)).lits g (d j lt (b.back (2 * get_or due j 0) f))

pub dropped_watched : (cs : List Held) (u : WatchesView) (xs ys : List ℕ) (i : ℕ) (k : ℕ) (a : ℤ) → i < length xs → get_or xs i 0 ≡ k → Swapped xs ys i → watch_at u.watched (2 * k) ≡ Some a → DueKept cs u xs → WatchedDropped cs u xs ys i i
dropped_watched cs u xs ys i k a lt g s e d = record {
  due = due_swapped cs u xs ys i a lt s (ap (λ (m : ℕ). watch_at u.watched (2 * m)) g ∙ e) d;
  before = λ j l. s.others j (λ z. omega (arith, l, z)) (omega (arith, l, lt));
  here = inl refl;
  falls = omega (arith, s.len, lt);
}

pub dropped_none : (cs : List Held) (u : WatchesView) (xs : List ℕ) (i : ℕ) → i < length xs → DueKept cs u xs → WatchedDropped cs u xs xs i (i + 1)
dropped_none cs u xs i lt d = record { due = d; before = λ j l. refl; here = inr (refl, refl); falls = omega (arith, lt) }

pub dropped_done : (cs : List Held) (u x : WatchesView) (s r : TrailView) (xs ys : List ℕ) (n m k : ℕ) → k ≡ get_or xs n 0
    → ((j : ℕ) → j < n → watch_at u.watched (2 * get_or xs j 0) ≡ None → HasTrue s.lits (clause_at cs (get_or xs j 0)).lits) → Tried cs u x s r k → WatchedDropped cs x xs ys n m
    → (j : ℕ) → j < m → watch_at x.watched (2 * get_or ys j 0) ≡ None → HasTrue r.lits (clause_at cs (get_or ys j 0)).lits
dropped_done cs u x s r xs ys n m k e d q z = by_here z.here
  where
    by_here : m ≡ n ⊎ ((m ≡ n + 1) × (ys ≡ xs)) → (j : ℕ) → j < m → watch_at x.watched (2 * get_or ys j 0) ≡ None → HasTrue r.lits (clause_at cs (get_or ys j 0)).lits
    by_here (inl h) j lt =
        let l : j < n = omega (arith, lt, h) in
        subst (λ (i : ℕ). watch_at x.watched (2 * i) ≡ None → HasTrue r.lits (clause_at cs i).lits) (sym (z.before j l)) (done_more cs u x s r xs n q.before q.grows d j l)
    by_here (inr h) j lt =
        subst (λ (l : List ℕ). watch_at x.watched (2 * get_or l j 0) ≡ None → HasTrue r.lits (clause_at cs (get_or l j 0)).lits) (sym h.1)
        (settled_more cs u u x s s r xs n k e (same s refl) (NoneBefore-same u.watched) d q j (omega (arith, lt, h.0)))

-- one look after another
pub Tried-then : (cs : List Held) (v u x : WatchesView) (t s r : TrailView) (k : ℕ) → Tried cs v u t s k → Tried cs u x s r k → Tried cs v x t r k
Tried-then cs v u x t s r k a b = record { following = b.following; grows = Grows-then cs t s r a.grows b.grows; before = NoneBefore-then v.watched u.watched x.watched a.before b.before; done = b.done }
