-- What guards the watched literals, and when a watched clause is quiet.
use Rattle.std.proofs.Common.{◌≡◌, ◌≢◌, ℕ, zero, suc, ◌+◌, ◌-◌, ◌*◌, ◌/◌, ◌<◌, ◌≤◌, true, false, List, [], ◌∷◌, length, set, arith, refl, sym, ◌∙◌, ap, subst, ◌⊎◌, inl, inr, eqb, get_or-set_same, get_or-set_other}
use Rattle.std.specs.Prelude.{ℤ, neg_ℤ, Option, Some, None}
use Rattle.std.proofs.lemmas.Bool.Decides.{eqb_tells}
use Rattle.std.proofs.lemmas.List.{length-set}
use Rattle.mono_base.specs.Literal.{lit_at}
use Rattle.mono_base.specs.Partial.{value_by}
use Rattle.mono_base.specs.declared.value.Value.{Value}
use Rattle.mono_base.specs.declared.value.Value.TheVariants.{Yes, No, Unset}
use Rattle.mono_clauses.proofs.Growth.{quiet_by_two, quiet_by_true}
use Rattle.mono_clauses.proofs.FollowsKept.{guards_joined, true_joined}
use Rattle.mono_trail.proofs.Levels.{at_most}
use Rattle.mono_clauses.proofs.Literals.{IsQuiet, no_stands, stands_yes, stands_no, int_tells}
use Rattle.mono_clauses.proofs.Times.{times_other}
use Rattle.mono_clauses.specs.Lists.{Stands, times}
use Rattle.mono_clauses.specs.Store.{Held, clause_at, watch_at, other, IsTrueBy, Guards}
use Rattle.mono_clauses.specs.Visits.{Guarded, Pair, Paired, NoneBefore}
use Rattle.mono_trail.specs.Moves.{joined, gave}
use Rattle.mono_trail.specs.Places.{level_at}
use Rattle.mono_trail.specs.TrailView.{TrailView, IsSoundTrail}
use Rattle.mono_trail.specs.declared.reason.Reason.TheVariants.{Clause}

-- watchers and their clauses
pub other_other : (w : ℕ) → other (other w) ≡ w
other_other w = omega arith

pub other_half : (w : ℕ) → other w / 2 ≡ w / 2
other_half w = omega arith

pub other_ne : (w : ℕ) → other w ≢ w
other_ne w e = omega arith

pub other_even : (k : ℕ) → other (2 * k) ≡ 2 * k + 1
other_even k = omega arith

pub other_odd : (k : ℕ) → other (2 * k + 1) ≡ 2 * k
other_odd k = omega arith

pub half_even : (k : ℕ) → 2 * k / 2 ≡ k
half_even k = omega arith

pub half_odd : (k : ℕ) → (2 * k + 1) / 2 ≡ k
half_odd k = omega arith

pub set_same : (ws : List (Option ℤ)) (w : ℕ) (o : Option ℤ) → watch_at ws w ≡ o → w < length ws → set ws w o ≡ ws
set_same [] w o e lt = refl
set_same (x ∷ ws) zero o e lt = ap (λ (y : Option ℤ). y ∷ ws) (sym e)
set_same (x ∷ ws) (suc w) o e lt = ap (λ (ys : List (Option ℤ)). x ∷ ys) (set_same ws w o e (omega arith))

yes_no : {v : Value} → v ≡ Yes → v ≡ No → ⊥
yes_no a b = cc

-- a true watch guards the other at every place
pub guards_true : (t : TrailView) (n m : ℕ) (a b : ℤ) → IsSoundTrail t → Stands t.lits b → Guards t n a b → Guards t m a b
guards_true t n m a b sound s g = record { at = λ p lt e. inl (by_guard p (g.at p lt e)) }
  where
    by_guard : (p : ℕ) → IsTrueBy t b (level_at t.marks p) ⊎ ((n ≤ p) × (level_at t.marks p ≡ t.level)) → IsTrueBy t b (level_at t.marks p)
    by_guard p (inl i) = i
    by_guard p (inr x) = record { place = s.place; within = s.within; there = s.there; low = omega (arith, x.1, at_most 0 t.marks t.level s.place sound.climbs (omega (arith, s.within, sound.as_many))) }

-- a watch that is not false needs no guard
pub unfalse_guards : (t : TrailView) (n : ℕ) (x b : ℤ) → IsSoundTrail t → value_by t.lits x ≢ No → Guards t n x b
unfalse_guards t n x b sound h = record { at = λ p lt e. absurd (h (stands_no t.lits x sound.partial (record { place = p; within = lt; there = e }))) }

-- the guard of a watch beside one that is false
pub guards_beside_false : (t : TrailView) (n : ℕ) (a l x : ℤ) → IsSoundTrail t → value_by t.lits l ≡ No → Guards t n a l → Guards t n a x
guards_beside_false t n a l x sound f g = record { at = λ p lt e. by_guard p (g.at p lt e) }
  where
    by_guard : (p : ℕ) → IsTrueBy t l (level_at t.marks p) ⊎ ((n ≤ p) × (level_at t.marks p ≡ t.level)) → IsTrueBy t x (level_at t.marks p) ⊎ ((n ≤ p) × (level_at t.marks p ≡ t.level))
    by_guard p (inl i) = absurd (yes_no (stands_yes t.lits l (record { place = i.place; within = i.within; there = i.there })) f)
    by_guard p (inr y) = inr y

-- the first watcher ahead is passed, beside a true literal
pub keep_guarded : (ws : List (Option ℤ)) (t : TrailView) (w : ℕ) (rest : List ℕ) (c : ℤ) → IsSoundTrail t → watch_at ws (other w) ≡ Some c → Stands t.lits c → Guarded ws t (w ∷ rest) → Guarded ws t rest
keep_guarded ws t w rest c sound is s g = record { at = λ x a b e f. by_watcher x a b e f (eqb_tells w x); alone = g.alone }
  where
    by_watcher : (x : ℕ) (a b : ℤ) → watch_at ws x ≡ Some a → watch_at ws (other x) ≡ Some b → ((eqb w x ≡ true) × (w ≡ x)) ⊎ ((eqb w x ≡ false) × (w ≢ x)) → Guards t (t.given - times x rest) a b
    by_watcher x a b e f (inl y) =
        let same : c ≡ b = (let h : Some c ≡ Some b = sym is ∙ ap (λ (k : ℕ). watch_at ws (other k)) y.1 ∙ f in cc) in
        guards_true t (t.given - times x (w ∷ rest)) (t.given - times x rest) a b sound (subst (λ (q : ℤ). Stands t.lits q) same s) (g.at x a b e f)
    by_watcher x a b e f (inr o) = subst (λ (k : ℕ). Guards t (t.given - k) a b) (times_other x w rest (λ z. o.1 (sym z))) (g.at x a b e f)

-- a literal is implied
pub implied_guarded : (ws : List (Option ℤ)) (t : TrailView) (ahead : List ℕ) (l : ℤ) (n : ℕ) → IsSoundTrail t → Guarded ws t ahead → Guarded ws (joined t l (Clause n)) ahead
implied_guarded ws t ahead l n sound g = record {
  at = λ w a b e f. guards_joined t l a b (Clause n) (t.given - times w ahead) sound.as_many (omega (arith, sound.given_in)) (λ p x y. refl) (g.at w a b e f);
  alone = λ w a e f. true_joined t l a (Clause n) 0 sound.as_many (g.alone w a e f);
}

some_same : {a b : ℤ} {o : Option ℤ} → o ≡ Some a → o ≡ Some b → a ≡ b
some_same e f = cc

-- the first watcher ahead leaves for a literal that is not false
pub move_guarded : (ws : List (Option ℤ)) (t : TrailView) (w : ℕ) (rest : List ℕ) (l m x : ℤ) → IsSoundTrail t → w < length ws → watch_at ws w ≡ Some l → watch_at ws (other w) ≡ Some m → x ≢ m → value_by t.lits l ≡ No → value_by t.lits x ≢ No → Guarded ws t (w ∷ rest) → Guarded (set ws w (Some x)) t rest
move_guarded ws t w rest l m x sound lt is mate differ f h g = record {
  at = λ y a b e k. by_watcher y a b e k (eqb_tells w y) (eqb_tells w (other y));
  alone = λ y a e k. by_lone y a e k (eqb_tells w y) (eqb_tells w (other y));
}
  where
    at_w : watch_at (set ws w (Some x)) w ≡ Some x
    at_w = get_or-set_same ws w (Some x) None lt

    at_other : (y : ℕ) → w ≢ y → watch_at (set ws w (Some x)) y ≡ watch_at ws y
    at_other y n = get_or-set_other ws w y (Some x) None (λ z. n (sym z))

    by_watcher : (y : ℕ) (a b : ℤ) → watch_at (set ws w (Some x)) y ≡ Some a → watch_at (set ws w (Some x)) (other y) ≡ Some b → ((eqb w y ≡ true) × (w ≡ y)) ⊎ ((eqb w y ≡ false) × (w ≢ y)) → ((eqb w (other y) ≡ true) × (w ≡ other y)) ⊎ ((eqb w (other y) ≡ false) × (w ≢ other y)) → Guards t (t.given - times y rest) a b
    by_watcher y a b e k (inl s) q =
        let same : x ≡ a = some_same at_w (ap (watch_at (set ws w (Some x))) s.1 ∙ e) in
        subst (λ (m : ℤ). Guards t (t.given - times y rest) m b) same (unfalse_guards t (t.given - times y rest) x b sound h)
    by_watcher y a b e k (inr o) (inl q) =
        let before : watch_at ws y ≡ Some a = sym (at_other y o.1) ∙ e in
        let mate : watch_at ws (other y) ≡ Some l = ap (watch_at ws) (sym q.1) ∙ is in
        let old : Guards t (t.given - times y rest) a l = subst (λ (m : ℕ). Guards t (t.given - m) a l) (times_other y w rest (λ z. o.1 (sym z))) (g.at y a l before mate) in
        guards_beside_false t (t.given - times y rest) a l b sound f old
    by_watcher y a b e k (inr o) (inr r) =
        subst (λ (m : ℕ). Guards t (t.given - m) a b) (times_other y w rest (λ z. o.1 (sym z))) (g.at y a b (sym (at_other y o.1) ∙ e) (sym (at_other (other y) r.1) ∙ k))

    by_lone : (y : ℕ) (a : ℤ) → watch_at (set ws w (Some x)) y ≡ Some a → watch_at (set ws w (Some x)) (other y) ≡ Some a → ((eqb w y ≡ true) × (w ≡ y)) ⊎ ((eqb w y ≡ false) × (w ≢ y)) → ((eqb w (other y) ≡ true) × (w ≡ other y)) ⊎ ((eqb w (other y) ≡ false) × (w ≢ other y)) → IsTrueBy t a 0
    by_lone y a e k (inl s) q =
        let same : x ≡ a = some_same at_w (ap (watch_at (set ws w (Some x))) s.1 ∙ e) in
        let there : watch_at ws (other w) ≡ Some a = sym (at_other (other w) (λ z. other_ne w (sym z))) ∙ ap (λ (n : ℕ). watch_at (set ws w (Some x)) (other n)) s.1 ∙ k in
        absurd (differ (same ∙ some_same there mate))
    by_lone y a e k (inr o) (inl q) =
        let same : x ≡ a = some_same at_w (ap (watch_at (set ws w (Some x))) q.1 ∙ k) in
        let yw : y ≡ other w = sym (other_other y) ∙ ap other (sym q.1) in
        let there : watch_at ws (other w) ≡ Some a = ap (watch_at ws) (sym yw) ∙ sym (at_other y o.1) ∙ e in
        absurd (differ (same ∙ some_same there mate))
    by_lone y a e k (inr o) (inr r) = g.alone y a (sym (at_other y o.1) ∙ e) (sym (at_other (other y) r.1) ∙ k)

-- so do the clauses
pub move_paired : (cs : List Held) (ws : List (Option ℤ)) (w : ℕ) (l b x : ℤ) → w < length ws → watch_at ws w ≡ Some l → watch_at ws (other w) ≡ Some b → Stands (clause_at cs (w / 2)).lits x → Paired cs ws → Paired cs (set ws w (Some x))
move_paired cs ws w l b x lt is mate has p = record { count = length-set ws w (Some x) ∙ p.count; watcher = λ y a e. by_watcher y a e (eqb_tells w y) (eqb_tells w (other y)) }
  where
    at_w : watch_at (set ws w (Some x)) w ≡ Some x
    at_w = get_or-set_same ws w (Some x) None lt

    at_other : (y : ℕ) → w ≢ y → watch_at (set ws w (Some x)) y ≡ watch_at ws y
    at_other y n = get_or-set_other ws w y (Some x) None (λ z. n (sym z))

    own : Pair (clause_at cs (w / 2)).lits x (watch_at (set ws w (Some x)) (other w))
    own = record { has = has; mate = b; is = at_other (other w) (λ z. other_ne w (sym z)) ∙ mate }

    by_watcher : (y : ℕ) (a : ℤ) → watch_at (set ws w (Some x)) y ≡ Some a → ((eqb w y ≡ true) × (w ≡ y)) ⊎ ((eqb w y ≡ false) × (w ≢ y)) → ((eqb w (other y) ≡ true) × (w ≡ other y)) ⊎ ((eqb w (other y) ≡ false) × (w ≢ other y)) → Pair (clause_at cs (y / 2)).lits a (watch_at (set ws w (Some x)) (other y))
    by_watcher y a e (inl s) q =
        let same : x ≡ a = some_same at_w (ap (watch_at (set ws w (Some x))) s.1 ∙ e) in
        subst (λ (k : ℕ). Pair (clause_at cs (k / 2)).lits a (watch_at (set ws w (Some x)) (other k))) s.1
        (subst (λ (m : ℤ). Pair (clause_at cs (w / 2)).lits m (watch_at (set ws w (Some x)) (other w))) same own)
    by_watcher y a e (inr o) (inl q) =
        let before : watch_at ws y ≡ Some a = sym (at_other y o.1) ∙ e in
        let old = p.watcher y a before in
        record { has = old.has; mate = x; is = ap (watch_at (set ws w (Some x))) (sym q.1) ∙ at_w }
    by_watcher y a e (inr o) (inr r) =
        let before : watch_at ws y ≡ Some a = sym (at_other y o.1) ∙ e in
        let old = p.watcher y a before in
        record { has = old.has; mate = old.mate; is = at_other (other y) r.1 ∙ old.is }

pub move_none : (ws : List (Option ℤ)) (w : ℕ) (x : ℤ) → w < length ws → NoneBefore ws (set ws w (Some x))
move_none ws w x lt = record { back = λ y e. by_watcher y e (eqb_tells w y) }
  where
    by_watcher : (y : ℕ) → watch_at (set ws w (Some x)) y ≡ None → ((eqb w y ≡ true) × (w ≡ y)) ⊎ ((eqb w y ≡ false) × (w ≢ y)) → watch_at ws y ≡ None
    by_watcher y e (inl s) = absurd (let h : Some x ≡ None = sym (get_or-set_same ws w (Some x) None lt) ∙ ap (watch_at (set ws w (Some x))) s.1 ∙ e in cc)
    by_watcher y e (inr o) = sym (get_or-set_other ws w y (Some x) None (λ z. o.1 (sym z))) ∙ e

-- the trail gives a literal
pub guards_gave : (t : TrailView) (n : ℕ) (a b : ℤ) → Guards t n a b → Guards (gave t) n a b
guards_gave t n a b g = record { at = λ p lt e. by_guard p (g.at p lt e) }
  where
    by_guard : (p : ℕ) → IsTrueBy t b (level_at t.marks p) ⊎ ((n ≤ p) × (level_at t.marks p ≡ t.level)) → IsTrueBy (gave t) b (level_at t.marks p) ⊎ ((n ≤ p) × (level_at t.marks p ≡ t.level))
    by_guard p (inl i) = inl (record { place = i.place; within = i.within; there = i.there; low = i.low })
    by_guard p (inr y) = inr y

-- to the watches of other literals it is nothing
pub guards_passed : (t : TrailView) (a b : ℤ) → lit_at t.lits t.given ≢ neg_ℤ a → Guards t t.given a b → Guards (gave t) (t.given + 1) a b
guards_passed t a b n g = record { at = λ p lt e. by_guard p e (g.at p lt e) }
  where
    by_guard : (p : ℕ) → lit_at t.lits p ≡ neg_ℤ a → IsTrueBy t b (level_at t.marks p) ⊎ ((t.given ≤ p) × (level_at t.marks p ≡ t.level)) → IsTrueBy (gave t) b (level_at t.marks p) ⊎ ((t.given + 1 ≤ p) × (level_at t.marks p ≡ t.level))
    by_guard p e (inl i) = inl (record { place = i.place; within = i.within; there = i.there; low = i.low })
    by_guard p e (inr y) = by_place (eqb_tells t.given p)
      where
        by_place : ((eqb t.given p ≡ true) × (t.given ≡ p)) ⊎ ((eqb t.given p ≡ false) × (t.given ≢ p)) → IsTrueBy (gave t) b (level_at t.marks p) ⊎ ((t.given + 1 ≤ p) × (level_at t.marks p ≡ t.level))
        by_place (inl s) = absurd (n (ap (lit_at t.lits) s.1 ∙ e))
        by_place (inr o) = inr (omega (arith, y.0, o.1), y.1)

-- where the trail has given all, guarded watches make a clause quiet
quiet_by : (t : TrailView) (c : List ℤ) (a b : ℤ) (v w : Value) → IsSoundTrail t → value_by t.lits a ≡ v → value_by t.lits b ≡ w → Stands c a → Stands c b → a ≢ b → Guards t (length t.lits) a b → Guards t (length t.lits) b a → IsQuiet t.lits c
quiet_by t c a b Yes w sound e f s r d g h = quiet_by_true t.lits c a s e
quiet_by t c a b No w sound e f s r d g h = by_guard (let z = no_stands t.lits a e in g.at z.place z.within z.there) (no_stands t.lits a e).within
  where
    by_guard : {p : ℕ} → IsTrueBy t b (level_at t.marks p) ⊎ ((length t.lits ≤ p) × (level_at t.marks p ≡ t.level)) → p < length t.lits → IsQuiet t.lits c
    by_guard (inl i) lt = quiet_by_true t.lits c b r (stands_yes t.lits b (record { place = i.place; within = i.within; there = i.there }))
    by_guard (inr y) lt = absurd (omega (arith, y.0, lt))
quiet_by t c a b Unset Yes sound e f s r d g h = quiet_by_true t.lits c b r f
quiet_by t c a b Unset No sound e f s r d g h = by_guard (let z = no_stands t.lits b f in h.at z.place z.within z.there) (no_stands t.lits b f).within
  where
    by_guard : {p : ℕ} → IsTrueBy t a (level_at t.marks p) ⊎ ((length t.lits ≤ p) × (level_at t.marks p ≡ t.level)) → p < length t.lits → IsQuiet t.lits c
    by_guard (inl i) lt = quiet_by_true t.lits c a s (stands_yes t.lits a (record { place = i.place; within = i.within; there = i.there }))
    by_guard (inr y) lt = absurd (omega (arith, y.0, lt))
quiet_by t c a b Unset Unset sound e f s r d g h = quiet_by_two t.lits c a b s r (λ z. unset_no (sym e ∙ z)) (λ z. unset_no (sym f ∙ z)) d
  where
    unset_no : Unset ≡ No → ⊥
    unset_no z = cc

pub quiet_watched : (t : TrailView) (c : List ℤ) (a b : ℤ) → IsSoundTrail t → Stands c a → Stands c b → (a ≡ b → IsTrueBy t a 0) → Guards t (length t.lits) a b → Guards t (length t.lits) b a → IsQuiet t.lits c
quiet_watched t c a b sound s r alone g h = elim (int_tells a b) [
  | inl e ↦ quiet_by_true t.lits c a s (let i = alone e in stands_yes t.lits a (record { place = i.place; within = i.within; there = i.there }))
  | inr d ↦ quiet_by t c a b (value_by t.lits a) (value_by t.lits b) sound refl refl s r d g h
]
