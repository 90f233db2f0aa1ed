-- Updates at the places of the theories that a variable concerns.
use Rattle.std.proofs.lemmas.List.{drop_more}
use Rattle.std.proofs.Common.{◌≡◌, ℕ, zero, suc, ◌+◌, ◌<◌, Bool, true, false, cond, List, [], ◌∷◌, ◌++◌, map, get_or, set, length, All, refl, sym, ap, subst, ◌∙◌, arith, length-append, append_assoc, drop}
use Rattle.std.specs.Prelude.{IsTrue}
use Rattle.std.proofs.Math.Seq.{get_or-append_seam}
use Rattle.mono_theory.specs.Theories.{Facts, concerns_of}
use Rattle.mono_search.specs.Updates.{update_at, update_all, HasAt, CanUpdate}
use Rattle.mono_search.specs.TheoryLists.{concerned_from}

-- the item at the seam of two lists
update_seam : {A : Type 0} (g : A → A) (before xs : List A) (x : A) → update_at (length before) g (before ++ x ∷ xs) ≡ before ++ g x ∷ xs
update_seam g [] xs x = refl
update_seam g (y ∷ before) xs x = ap (λ zs. y ∷ zs) (update_seam g before xs x)

-- a written item of a list whose facts are known
pub write_at : {T X : Type 0} (fact : T → X) (g : X → X) (ts : List T) (p : ℕ) (t new : T) → t ≡ get_or ts p t → p < length ts → fact new ≡ g (fact t) → map fact (set ts p new) ≡ update_at p g (map fact ts)
write_at fact g [] p t new at lt e = absurd (omega arith)
write_at fact g (x ∷ ts) zero t new at lt e = ap (λ y. y ∷ map fact ts) (e ∙ ap (λ y. g (fact y)) at)
write_at fact g (x ∷ ts) (suc p) t new at lt e = ap (λ ys. fact x ∷ ys) (write_at fact g ts p t new at (omega arith) e)

pub set_is : {A : Type 0} (g : A → A) (xs : List A) (p : ℕ) (x : A) → x ≡ get_or xs p x → p < length xs → set xs p (g x) ≡ update_at p g xs
set_is g [] p x at lt = absurd (omega arith)
set_is g (y ∷ xs) zero x at lt = ap (λ z. g z ∷ xs) at
set_is g (y ∷ xs) (suc p) x at lt = ap (λ ys. y ∷ ys) (set_is g xs p x at (omega arith))

module _ {A : Type 0} (P : A → Type 0) (g : A → A) (F : Facts → A) (v : ℕ) where
  can_after : (before : List A) (fs : List Facts) (n : ℕ) → n ≡ length before → All (λ f. IsTrue (concerns_of f.graph f.atoms v) → P (F f)) fs → CanUpdate P g (concerned_from n fs v) (before ++ map F fs)
  can_after before [] n e h = tt
  can_after before (f ∷ fs) n e h = by (concerns_of f.graph f.atoms v) refl
      (λ x. can_after (before ++ x ∷ []) fs (n + 1) (omega (arith, e, length-append before (x ∷ []))) (λ k d lt. h (suc k) d (omega arith)))
    where
      joined : (x : A) → (before ++ x ∷ []) ++ map F fs ≡ before ++ x ∷ map F fs
      joined x = append_assoc before (x ∷ []) (map F fs)

      by : (b : Bool) → concerns_of f.graph f.atoms v ≡ b → ((x : A) → CanUpdate P g (concerned_from (n + 1) fs v) ((before ++ x ∷ []) ++ map F fs))
          → CanUpdate P g (cond b (n ∷ concerned_from (n + 1) fs v) (concerned_from (n + 1) fs v)) (before ++ F f ∷ map F fs)
      by true c ih = (
        record {
          within = omega (arith, e, length-append before (F f ∷ map F fs));
          holds = λ d. subst P (sym (ap (λ (i : ℕ). get_or (before ++ F f ∷ map F fs) i d) e ∙ get_or-append_seam before (F f) (map F fs) d)) (h 0 f (omega arith) c);
        },
        subst (CanUpdate P g (concerned_from (n + 1) fs v)) (joined (g (F f)) ∙ sym (ap (λ (i : ℕ). update_at i g (before ++ F f ∷ map F fs)) e ∙ update_seam g before (map F fs) (F f))) (ih (g (F f))),
      )
      by false c ih = subst (CanUpdate P g (concerned_from (n + 1) fs v)) (joined (F f)) (ih (F f))

  all_after : (before : List A) (fs : List Facts) (n : ℕ) → n ≡ length before → update_all g (concerned_from n fs v) (before ++ map F fs) ≡ before ++ map (λ f. cond (concerns_of f.graph f.atoms v) (g (F f)) (F f)) fs
  all_after before [] n e = refl
  all_after before (f ∷ fs) n e = by (concerns_of f.graph f.atoms v)
      (λ x. all_after (before ++ x ∷ []) fs (n + 1) (omega (arith, e, length-append before (x ∷ []))))
    where
      by : (b : Bool) → ((x : A) → update_all g (concerned_from (n + 1) fs v) ((before ++ x ∷ []) ++ map F fs) ≡ (before ++ x ∷ []) ++ map (λ h. cond (concerns_of h.graph h.atoms v) (g (F h)) (F h)) fs)
          → update_all g (cond b (n ∷ concerned_from (n + 1) fs v) (concerned_from (n + 1) fs v)) (before ++ F f ∷ map F fs) ≡ before ++ cond b (g (F f)) (F f) ∷ map (λ h. cond (concerns_of h.graph h.atoms v) (g (F h)) (F h)) fs
      by true ih =
          ap (update_all g (concerned_from (n + 1) fs v)) (ap (λ (i : ℕ). update_at i g (before ++ F f ∷ map F fs)) e ∙ update_seam g before (map F fs) (F f) ∙ sym (append_assoc before (g (F f) ∷ []) (map F fs)))
          ∙ ih (g (F f)) ∙ append_assoc before (g (F f) ∷ []) (map (λ h. cond (concerns_of h.graph h.atoms v) (g (F h)) (F h)) fs)
      by false ih =
          ap (update_all g (concerned_from (n + 1) fs v)) (sym (append_assoc before (F f ∷ []) (map F fs)))
          ∙ ih (F f) ∙ append_assoc before (F f ∷ []) (map (λ h. cond (concerns_of h.graph h.atoms v) (g (F h)) (F h)) fs)

  pub can_update : (fs : List Facts) → All (λ f. IsTrue (concerns_of f.graph f.atoms v) → P (F f)) fs → CanUpdate P g (concerned_from 0 fs v) (map F fs)
  can_update fs h = can_after [] fs 0 refl h

  pub updated : (fs : List Facts) → update_all g (concerned_from 0 fs v) (map F fs) ≡ map (λ f. cond (concerns_of f.graph f.atoms v) (g (F f)) (F f)) fs
  updated fs = all_after [] fs 0 refl

-- ---- one update of a loop over the places

pub can_step : {A : Type 0} (P : A → Type 0) (g : A → A) (ps : List ℕ) (i d : ℕ) (xs : List A) → i < length ps → CanUpdate P g (drop i ps) xs → HasAt P (get_or ps i d) xs × CanUpdate P g (drop (i + 1) ps) (update_at (get_or ps i d) g xs)
can_step P g ps i d xs lt h = subst (λ (qs : List ℕ). CanUpdate P g qs xs) (drop_more ps i d lt) h

pub left_step : {A : Type 0} (g : A → A) (ps : List ℕ) (i d : ℕ) (xs : List A) → i < length ps → update_all g (drop i ps) xs ≡ update_all g (drop (i + 1) ps) (update_at (get_or ps i d) g xs)
left_step g ps i d xs lt = ap (λ (qs : List ℕ). update_all g qs xs) (drop_more ps i d lt)
