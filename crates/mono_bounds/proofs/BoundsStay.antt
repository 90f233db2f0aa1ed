-- The kept parts stay the bounds of the list.
use Rattle.std.proofs.Common.{◌≡◌, ◌≢◌, ℕ, zero, suc, ◌+◌, ◌<◌, Bool, true, false, not, ◌||◌, cond, List, [], ◌∷◌, ◌++◌, map, length, take, get_or, eqb, eq-eqb, refl, sym, ap, subst, ◌∙◌, ◌⊎◌, inl, inr, arith, ℤ, pos, negsuc, neg_ℤ, nat_abs, int_lt}
use Rattle.std.specs.Ordering.{int_eq}
use Rattle.std.proofs.lemmas.List.Folds.{list_any-append}
use Rattle.std.proofs.lemmas.Int.{ints}
use Rattle.std.proofs.lemmas.List.{ext_get_or, length-map, get_or-map, take_more}
use Rattle.std.proofs.lemmas.Bool.{false_from_ne_true, both_ways, or_left}
use Rattle.std.proofs.lemmas.Bool.Decides.{Decides-int_eq, eqb_tells}
use Rattle.std.specs.Prelude.{IsTrue}
use Rattle.mono_base.specs.Literal.{has_lit, is_lit, var_of}
use Rattle.mono_base.specs.Partial.{has_var, is_true_in, is_false_in, is_partial}
use Rattle.mono_base.proofs.Partials.{has_var_of, is_partial-take, joined, later_is_new}
use Rattle.mono_bounds.specs.Index.{switched}
use Rattle.mono_bounds.specs.Bound.{Bound, assigned, unassigned, IsBoundUnder}

differs : (l m : ℤ) → (l ≡ m → ⊥) → int_eq l m ≡ false
differs l m ne = false_from_ne_true (int_eq l m) (λ t. ne ((Decides-int_eq l m).0 t))

same : (l m : ℤ) → l ≡ m → int_eq l m ≡ true
same l m e = (Decides-int_eq l m).1 e

or_false : (a : Bool) → (a || (false || false)) ≡ a
or_false true = refl
or_false false = refl

or_true : (a : Bool) → (a || (true || false)) ≡ true
or_true true = refl
or_true false = refl

-- a list with one more literal
pub has_lit-push_other : (t : List ℤ) (l m : ℤ) → (m ≡ l → ⊥) → has_lit (t ++ l ∷ []) m ≡ has_lit t m
has_lit-push_other t l m ne = list_any-append (int_eq m) t (l ∷ []) ∙ ap (λ b. has_lit t m || (b || false)) (differs m l ne) ∙ or_false (has_lit t m)

pub has_lit-push_same : (t : List ℤ) (l m : ℤ) → m ≡ l → has_lit (t ++ l ∷ []) m ≡ true
has_lit-push_same t l m e = list_any-append (int_eq m) t (l ∷ []) ∙ ap (λ b. has_lit t m || (b || false)) (same m l e) ∙ or_true (has_lit t m)

pub not_mentioned : (t : List ℤ) (l : ℤ) → has_var t (var_of l) ≡ false → has_lit t l ≡ false
not_mentioned t l f = false_from_ne_true (has_lit t l) (λ h. both_ways (has_var t (var_of l)) f (has_var_of t l (var_of l) h refl))

map_same : (f h : ℕ → Bool) (vs : List ℕ) → ((x : ℕ) → f x ≡ h x) → map f vs ≡ map h vs
map_same f h [] s = refl
map_same f h (v ∷ vs) s = ap (λ b. b ∷ map f vs) (s v) ∙ ap (λ bs. h v ∷ bs) (map_same f h vs s)

switched-map : (f h : ℕ → Bool) (v : ℕ) (on : Bool) (vs : List ℕ) → ((x : ℕ) → cond (eqb x v) on (f x) ≡ h x) → switched vs v on (map f vs) ≡ map h vs
switched-map f h v on [] s = refl
switched-map f h v on (x ∷ vs) s = ap (λ b. b ∷ switched vs v on (map f vs)) (s x) ∙ ap (λ bs. h x ∷ bs) (switched-map f h v on vs s)

-- a switch of one variable, where the function changes there alone
one_changed : (f h : ℕ → Bool) (v : ℕ) (on : Bool) → h v ≡ on → ((x : ℕ) → (x ≡ v → ⊥) → f x ≡ h x) → (x : ℕ) → cond (eqb x v) on (f x) ≡ h x
one_changed f h v on at others x = by (eqb_tells x v)
  where
    by : ((eqb x v ≡ true) × (x ≡ v)) ⊎ ((eqb x v ≡ false) × (x ≢ v)) → cond (eqb x v) on (f x) ≡ h x
    by (inl e) = ap (λ b. cond b on (f x)) e.0 ∙ sym (ap h e.1 ∙ at)
    by (inr e) = ap (λ b. cond b on (f x)) e.0 ∙ others x e.1

switched_part : (b : List ℕ) (P : List Bool) (vs : List ℕ) (f h : ℕ → Bool) (v : ℕ) (on : Bool) → b ≡ vs → P ≡ map f vs → h v ≡ on → ((x : ℕ) → (x ≡ v → ⊥) → f x ≡ h x)
    → switched b v on P ≡ map h vs
switched_part b P vs f h v on eb eP at others = ap (λ ws. switched ws v on P) eb ∙ ap (switched vs v on) eP ∙ switched-map f h v on vs (one_changed f h v on at others)

pub is_above : (n : ℕ) → int_lt (pos 0) (pos (suc n)) ≡ true
is_above n = grind (arith, ints)

chosen : {A : Type 0} (n : ℕ) (x y : A) → cond (int_lt (pos 0) (pos (suc n))) x y ≡ x
chosen n x y = ap (λ b. cond b x y) (is_above n)

pos_inj : (x y : ℕ) → pos x ≡ pos y → x ≡ y
pos_inj x y e = ap nat_abs e

neg_inj : (x n : ℕ) → neg_ℤ (pos x) ≡ negsuc n → x ≡ suc n
neg_inj zero n e = cc
neg_inj (suc k) n e = cc

pub neg_not_pos : (x n : ℕ) → neg_ℤ (pos x) ≡ pos (suc n) → ⊥
neg_not_pos zero n e = cc
neg_not_pos (suc k) n e = cc

pub pos_not_neg : (x n : ℕ) → pos x ≡ negsuc n → ⊥
pos_not_neg x n e = cc

-- which variables are true, and which aren't false
true_by : List ℤ → ℕ → Bool
true_by t x = has_lit t (pos x)

open_by : List ℤ → ℕ → Bool
open_by t x = not (has_lit t (neg_ℤ (pos x)))

pub assigned_is_bound : (b : Bound) (vs : List ℕ) (t : List ℤ) (l : ℤ) → IsTrue (is_lit l) → IsBoundUnder b vs t → IsBoundUnder (assigned b l) vs (t ++ l ∷ [])
unfolding true_by open_by
assigned_is_bound b vs t (pos zero) p h = absurd cc
assigned_is_bound b vs t (pos (suc n)) p h = record {
  vars = h.vars;
  surely = chosen n (switched b.vars (suc n) true b.under) b.under
      ∙ switched_part b.vars b.under vs (true_by t) (true_by (t ++ pos (suc n) ∷ [])) (suc n) true h.vars h.surely (has_lit-push_same t (pos (suc n)) (pos (suc n)) refl)
      (λ x ne. sym (has_lit-push_other t (pos (suc n)) (pos x) (λ e. ne (pos_inj x (suc n) e))));
  possibly = chosen n b.over (switched b.vars (suc n) false b.over) ∙ h.possibly
      ∙ map_same (open_by t) (open_by (t ++ pos (suc n) ∷ [])) vs (λ x. ap not (sym (has_lit-push_other t (pos (suc n)) (neg_ℤ (pos x)) (neg_not_pos x n))));
}
assigned_is_bound b vs t (negsuc n) p h = record {
  vars = h.vars;
  surely = h.surely ∙ map_same (true_by t) (true_by (t ++ negsuc n ∷ [])) vs (λ x. sym (has_lit-push_other t (negsuc n) (pos x) (pos_not_neg x n)));
  possibly = switched_part b.vars b.over vs (open_by t) (open_by (t ++ negsuc n ∷ [])) (suc n) false h.vars h.possibly (ap not (has_lit-push_same t (negsuc n) (negsuc n) refl))
      (λ x ne. ap not (sym (has_lit-push_other t (negsuc n) (neg_ℤ (pos x)) (λ e. ne (neg_inj x n e)))));
}

pub unassigned_is_bound : (b : Bound) (vs : List ℕ) (t : List ℤ) (l : ℤ) → IsTrue (is_lit l) → has_var t (var_of l) ≡ false → IsBoundUnder b vs (t ++ l ∷ []) → IsBoundUnder (unassigned b l) vs t
unfolding true_by open_by
unassigned_is_bound b vs t (pos zero) p f h = absurd cc
unassigned_is_bound b vs t (pos (suc n)) p f h = record {
  vars = h.vars;
  surely = chosen n (switched b.vars (suc n) false b.under) b.under
      ∙ switched_part b.vars b.under vs (true_by (t ++ pos (suc n) ∷ [])) (true_by t) (suc n) false h.vars h.surely (not_mentioned t (pos (suc n)) f)
      (λ x ne. has_lit-push_other t (pos (suc n)) (pos x) (λ e. ne (pos_inj x (suc n) e)));
  possibly = chosen n b.over (switched b.vars (suc n) true b.over) ∙ h.possibly
      ∙ map_same (open_by (t ++ pos (suc n) ∷ [])) (open_by t) vs (λ x. ap not (has_lit-push_other t (pos (suc n)) (neg_ℤ (pos x)) (neg_not_pos x n)));
}
unassigned_is_bound b vs t (negsuc n) p f h = record {
  vars = h.vars;
  surely = h.surely ∙ map_same (true_by (t ++ negsuc n ∷ [])) (true_by t) vs (λ x. has_lit-push_other t (negsuc n) (pos x) (pos_not_neg x n));
  possibly = switched_part b.vars b.over vs (open_by (t ++ negsuc n ∷ [])) (open_by t) (suc n) true h.vars h.possibly (ap not (not_mentioned t (negsuc n) f))
      (λ x ne. ap not (has_lit-push_other t (negsuc n) (neg_ℤ (pos x)) (λ e. ne (neg_inj x n e))));
}

abbrev pub made : List ℕ → List ℕ → List Bool → List Bool → Bound
made v k u o = record { vars = v; places = k; under = u; over = o }

made_same : (v w j k : List ℕ) (u x o y : List Bool) → v ≡ w → j ≡ k → u ≡ x → o ≡ y → made v j u o ≡ made w k x y
made_same v w j k u x o y e d f g = ap (λ a. made a j u o) e ∙ ap (λ a. made w a u o) d ∙ ap (λ a. made w k a o) f ∙ ap (λ a. made w k x a) g

-- the bounds of a list over places in one order are one value
pub bound_is_one : (b c : Bound) (vs : List ℕ) (t : List ℤ) → c.places ≡ b.places → IsBoundUnder b vs t → IsBoundUnder c vs t → c ≡ b
bound_is_one b c vs t same h k =
    made_same c.vars b.vars c.places b.places c.under b.under c.over b.over (k.vars ∙ sym h.vars) same (k.surely ∙ sym h.surely) (k.possibly ∙ sym h.possibly)

-- ---- one part changes, by the literal's sign

pub assigned_under : (vs ks : List ℕ) (u o : List Bool) (l : ℤ) (Q : List Bool) → int_lt (pos 0) l ≡ true → Q ≡ switched vs (nat_abs l) true u → made vs ks Q o ≡ assigned (made vs ks u o) l
assigned_under vs ks u o l Q up is =
    made_same vs vs ks ks Q (assigned (made vs ks u o) l).under o (assigned (made vs ks u o) l).over refl refl
    (is ∙ sym (ap (λ b. cond b (switched vs (nat_abs l) true u) u) up)) (sym (ap (λ b. cond b o (switched vs (nat_abs l) false o)) up))

pub assigned_over : (vs ks : List ℕ) (u o : List Bool) (l : ℤ) (Q : List Bool) → int_lt (pos 0) l ≡ false → Q ≡ switched vs (nat_abs l) false o → made vs ks u Q ≡ assigned (made vs ks u o) l
assigned_over vs ks u o l Q down is =
    made_same vs vs ks ks u (assigned (made vs ks u o) l).under Q (assigned (made vs ks u o) l).over refl refl
    (sym (ap (λ b. cond b (switched vs (nat_abs l) true u) u) down)) (is ∙ sym (ap (λ b. cond b o (switched vs (nat_abs l) false o)) down))

pub unassigned_under : (vs ks : List ℕ) (u o : List Bool) (l : ℤ) (Q : List Bool) → int_lt (pos 0) l ≡ true → Q ≡ switched vs (nat_abs l) false u → made vs ks Q o ≡ unassigned (made vs ks u o) l
unassigned_under vs ks u o l Q up is =
    made_same vs vs ks ks Q (unassigned (made vs ks u o) l).under o (unassigned (made vs ks u o) l).over refl refl
    (is ∙ sym (ap (λ b. cond b (switched vs (nat_abs l) false u) u) up)) (sym (ap (λ b. cond b o (switched vs (nat_abs l) true o)) up))

pub unassigned_over : (vs ks : List ℕ) (u o : List Bool) (l : ℤ) (Q : List Bool) → int_lt (pos 0) l ≡ false → Q ≡ switched vs (nat_abs l) true o → made vs ks u Q ≡ unassigned (made vs ks u o) l
unassigned_over vs ks u o l Q down is =
    made_same vs vs ks ks u (unassigned (made vs ks u o) l).under Q (unassigned (made vs ks u o) l).over refl refl
    (sym (ap (λ b. cond b (switched vs (nat_abs l) false u) u) down)) (is ∙ sym (ap (λ b. cond b o (switched vs (nat_abs l) true o)) down))

-- the bounds' own variables are those
pub by_own_vars : {b : Bound} {vs : List ℕ} {t : List ℤ} → IsBoundUnder b vs t → IsBoundUnder b b.vars t
by_own_vars {b = b} {t = t} h = subst (λ (ws : List ℕ). IsBoundUnder b ws t) (sym h.vars) h

pub by_same_vars : {b c : Bound} {vs : List ℕ} {t s : List ℤ} → IsBoundUnder b vs t → IsBoundUnder c b.vars s → IsBoundUnder c vs s
by_same_vars {c = c} {s = s} h k = subst (λ (ws : List ℕ). IsBoundUnder c ws s) h.vars k

-- the parts of no edge and of all
pub none_on : (vs : List ℕ) (P : List Bool) → length P ≡ length vs → ((k : ℕ) → get_or P k false ≡ false) → P ≡ map (λ v. is_true_in [] (pos v)) vs
none_on vs P len none = ext_get_or false P (map (λ v. is_true_in [] (pos v)) vs) (len ∙ sym (length-map vs (λ v. is_true_in [] (pos v)))) (λ k lt.
    none k ∙ sym (get_or-map (λ v. is_true_in [] (pos v)) vs k 0 false (omega (arith, lt, len))))

pub all_on : (vs : List ℕ) (P : List Bool) → length P ≡ length vs → ((k : ℕ) → k < length vs → get_or P k false ≡ true) → P ≡ map (λ v. not (is_false_in [] (pos v))) vs
all_on vs P len on = ext_get_or false P (map (λ v. not (is_false_in [] (pos v))) vs) (len ∙ sym (length-map vs (λ v. not (is_false_in [] (pos v))))) (λ k lt.
    on k (omega (arith, lt, len)) ∙ sym (get_or-map (λ v. not (is_false_in [] (pos v))) vs k 0 false (omega (arith, lt, len))))

-- ---- back to the first literals, and on again

-- the last literal of a partial assignment
last_is_lit : (t : List ℤ) (l : ℤ) → IsTrue (is_partial (t ++ l ∷ [])) → IsTrue (is_lit l)
last_is_lit [] l p = (joined l [] p).lit
last_is_lit (m ∷ t) l p = last_is_lit t l (joined m (t ++ l ∷ []) p).rest

last_is_new : (t : List ℤ) (l : ℤ) → IsTrue (is_partial (t ++ l ∷ [])) → has_var t (var_of l) ≡ false
last_is_new t l p = later_is_new t (l ∷ []) (var_of l) p (or_left (eqb (var_of l) (var_of l)) false (eq-eqb (var_of l) (var_of l) refl))

-- the last literal goes
unassigned_last : (b : Bound) (vs : List ℕ) (old t : List ℤ) (l : ℤ) → old ≡ t ++ l ∷ [] → IsTrue (is_partial old) → IsBoundUnder b vs old → IsBoundUnder (unassigned b l) vs t
unassigned_last b vs old t l e d h =
    let p : IsTrue (is_partial (t ++ l ∷ [])) = subst (λ (u : List ℤ). IsTrue (is_partial u)) e d in
    unassigned_is_bound b vs t l (last_is_lit t l p) (last_is_new t l p) (subst (IsBoundUnder b vs) e h)

pub one_back : (b : Bound) (vs : List ℕ) (t : List ℤ) (k : ℕ) (l : ℤ) → k < length t → get_or t k l ≡ l → IsTrue (is_partial t) → IsBoundUnder b vs (take (k + 1) t) → IsBoundUnder (unassigned b l) vs (take k t)
one_back b vs t k l lt at p h =
    let more : take (k + 1) t ≡ take k t ++ l ∷ [] = take_more t k l lt ∙ ap (λ (m : ℤ). take k t ++ m ∷ []) at in
    unassigned_last b vs (take (k + 1) t) (take k t) l more (is_partial-take (k + 1) t p) h

pub one_on : (b : Bound) (vs : List ℕ) (t : List ℤ) (k : ℕ) (l : ℤ) → k < length t → get_or t k l ≡ l → IsTrue (is_partial t) → IsBoundUnder b vs (take k t) → IsBoundUnder (assigned b l) vs (take (k + 1) t)
one_on b vs t k l lt at p h =
    let more : take (k + 1) t ≡ take k t ++ l ∷ [] = take_more t k l lt ∙ ap (λ (m : ℤ). take k t ++ m ∷ []) at in
    let front : IsTrue (is_partial (take k t ++ l ∷ [])) = subst (λ (u : List ℤ). IsTrue (is_partial u)) more (is_partial-take (k + 1) t p) in
    subst (IsBoundUnder (assigned b l) vs) (sym more) (assigned_is_bound b vs (take k t) l (last_is_lit (take k t) l front) h)
