-- The one variable that clashes, from the first literal that does.
use Rattle.std.proofs.Common.{◌≡◌, Bool, true, false, not, ◌&&◌, ◌||◌, ◌==◌, cond, List, [], ◌∷◌, filter, find, Some, None, refl, sym, ap, ◌∙◌, ℤ}
use Rattle.std.specs.Prelude.{if◌then◌else◌}
use Rattle.std.specs.List.{list_all}
use Rattle.std.proofs.lemmas.Bool.{eq-eqb}
use Rattle.std.proofs.lemmas.Option.{same_Some}
use Rattle.mono_base.specs.Literal.{var_of}
use Rattle.mono_steps.specs.Chains.{only_var}

record Starts (ls : List ℤ) (l : ℤ) : Type 0 where
  rest : List ℤ
  is : ls ≡ l ∷ rest

kept_first : (p : ℤ → Bool) (d : List ℤ) (l : ℤ) → find p d ≡ Some l → Starts (filter p d) l
kept_first p [] l h = absurd cc
kept_first p (m ∷ d) l h = by_head (p m) h (kept_first p d l)
  where
    by_head : (b : Bool) → cond b (Some m) (find p d) ≡ Some l → (find p d ≡ Some l → Starts (filter p d) l) → Starts (cond b (m ∷ filter p d) (filter p d)) l
    by_head true e later = record { rest = filter p d; is = ap (λ (k : ℤ). k ∷ filter p d) (same_Some m l e) }
    by_head false e later = later e

kept_none : (p : ℤ → Bool) (d : List ℤ) → find p d ≡ None → filter p d ≡ []
kept_none p [] h = refl
kept_none p (m ∷ d) h = by_head (p m) h (kept_none p d)
  where
    by_head : (b : Bool) → cond b (Some m) (find p d) ≡ None → (find p d ≡ None → filter p d ≡ []) → cond b (m ∷ filter p d) (filter p d) ≡ []
    by_head true e later = absurd cc
    by_head false e later = later e

all_kept : (t p : ℤ → Bool) (d : List ℤ) → list_all t (filter p d) ≡ list_all (λ m. not (p m) || t m) d
all_kept t p [] = refl
all_kept t p (m ∷ d) = by_head (p m) (all_kept t p d)
  where
    by_head : (b : Bool) → list_all t (filter p d) ≡ list_all (λ k. not (p k) || t k) d → list_all t (cond b (m ∷ filter p d) (filter p d)) ≡ ((not b || t m) && list_all (λ k. not (p k) || t k) d)
    by_head true e = ap (λ (b : Bool). t m && b) e
    by_head false e = e

pub no_clash : (p : ℤ → Bool) (d : List ℤ) → find p d ≡ None → only_var (filter p d) ≡ None
no_clash p d h = ap only_var (kept_none p d h)

pub clash_of : (p : ℤ → Bool) (d : List ℤ) (l : ℤ) (b : Bool) → find p d ≡ Some l → list_all (λ m. not (p m) || (var_of m == var_of l)) d ≡ b → only_var (filter p d) ≡ (if b then Some (var_of l) else None)
clash_of p d l b h all =
    let s = kept_first p d l h in
    let t : ℤ → Bool = λ m. var_of m == var_of l in
    let on : list_all t (l ∷ s.rest) ≡ b = sym (ap (list_all t) s.is) ∙ all_kept t p d ∙ all in
    let rest : list_all t s.rest ≡ b = sym (ap (λ (c : Bool). c && list_all t s.rest) (eq-eqb (var_of l) (var_of l) refl)) ∙ on in
    ap only_var s.is ∙ ap (λ (c : Bool). cond c (Some (var_of l)) None) rest
