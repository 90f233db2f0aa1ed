-- Resolution on a set of literals: one literal after the other, and one clause after the other.
use Rattle.std.proofs.Common.{◌≡◌, ℕ, ◌+◌, ◌<◌, ◌≤◌, Bool, true, false, not, ◌&&◌, ◌||◌, List, ◌++◌, filter, take, get_or, length, Option, Some, None, refl, sym, ap, subst, ◌∙◌, ℤ, pos, neg_ℤ, option_map}
use Rattle.std.specs.Prelude.{if◌then◌else◌}
use Rattle.std.specs.Ordering.{int_eq}
use Rattle.std.proofs.lemmas.Option.{same_Some}
use Rattle.std.proofs.lemmas.List.{take_all}
use Rattle.std.proofs.Math.Path.{fun_ext}
use Rattle.mono_base.specs.Literal.{has_lit, without}
use Rattle.mono_base.proofs.Truth.{same_lit}
use Rattle.mono_steps.specs.Chains.{clashing, only_var, joined_at, resolvent}
use Rattle.mono_steps.specs.Current.{IsSetOf, HasCome}
use Rattle.mono_steps.proofs.Sets.{has-append, has-without, has-take_more, int_eq-sym}

-- ---- one literal after the other

-- of the next clause the literals before the place but one were put into what is left of the set
abbrev pub IsJoinedTo : List ℤ → List ℤ → List ℤ → ℤ → ℤ → ℕ → Type 0
IsJoinedTo old s next out other i = (l : ℤ) → has_lit s l ≡ (has_lit (without (take i next) other) l || has_lit (without old out) l)

pub join_put : (old s s' next : List ℤ) (out other : ℤ) (i : ℕ) (x : ℤ) → IsJoinedTo old s next out other i → i < length next → get_or next i x ≡ x → int_eq x other ≡ false → ((l : ℤ) → has_lit s' l ≡ (has_lit s l || int_eq l x)) → IsJoinedTo old s' next out other (i + 1)
join_put old s s' next out other i x so low at apart put l =
    put l ∙ ap (λ (b : Bool). b || int_eq l x) (so l ∙ ap (λ (b : Bool). b || has_lit (without old out) l) (has-without (take i next) other l))
    ∙ put_bool (has_lit (take i next) l) (int_eq other l) (int_eq l x) (has_lit (without old out) l) (λ e. other_apart (same_lit l x e))
    ∙ ap (λ (b : Bool). (not (int_eq other l) && b) || has_lit (without old out) l) (sym (has-take_more next i x l low at))
    ∙ ap (λ (b : Bool). b || has_lit (without old out) l) (sym (has-without (take (i + 1) next) other l))
  where
    other_apart : l ≡ x → int_eq other l ≡ false
    other_apart e = subst (λ (m : ℤ). int_eq other m ≡ false) (sym e) (int_eq-sym other x ∙ apart)

    put_bool : (p q e w : Bool) → (e ≡ true → q ≡ false) → (((not q && p) || w) || e) ≡ ((not q && (p || (e || false))) || w)
    put_bool p true true w h = absurd (let x = h refl in cc)
    put_bool true false e w h = refl
    put_bool false false true true h = refl
    put_bool false false true false h = refl
    put_bool false false false true h = refl
    put_bool false false false false h = refl
    put_bool p true false true h = refl
    put_bool p true false false h = refl

pub join_pass : (old s next : List ℤ) (out other : ℤ) (i : ℕ) (x : ℤ) → IsJoinedTo old s next out other i → i < length next → get_or next i x ≡ x → int_eq x other ≡ true → IsJoinedTo old s next out other (i + 1)
join_pass old s next out other i x so low at same l =
    so l ∙ ap (λ (b : Bool). b || has_lit (without old out) l) (has-without (take i next) other l
    ∙ pass_bool (has_lit (take i next) l) (int_eq other l) (int_eq l x) (λ e. other_same (same_lit l x e))
    ∙ ap (λ (b : Bool). not (int_eq other l) && b) (sym (has-take_more next i x l low at))
    ∙ sym (has-without (take (i + 1) next) other l))
  where
    other_same : l ≡ x → int_eq other l ≡ true
    other_same e = subst (λ (m : ℤ). int_eq other m ≡ true) (sym e) (int_eq-sym other x ∙ same)

    pass_bool : (p q e : Bool) → (e ≡ true → q ≡ true) → (not q && p) ≡ (not q && (p || (e || false)))
    pass_bool p true e h = refl
    pass_bool true false e h = refl
    pass_bool false false true h = absurd (let x = h refl in cc)
    pass_bool false false false h = refl

pub join_done : (old s next : List ℤ) (out other : ℤ) (i : ℕ) → IsJoinedTo old s next out other i → length next ≤ i → IsSetOf s (without old out ++ without next other)
join_done old s next out other i so high l =
    so l ∙ ap (λ (c : List ℤ). has_lit (without c other) l || has_lit (without old out) l) (take_all i next high)
    ∙ swapped (has_lit (without next other) l) (has_lit (without old out) l)
    ∙ sym (has-append (without old out) (without next other) l)
  where
    swapped : (b d : Bool) → (b || d) ≡ (d || b)
    swapped true true = refl
    swapped true false = refl
    swapped false true = refl
    swapped false false = refl

-- ---- one clause after the other

pub resolved_none : (s next : List ℤ) → None ≡ option_map pos (only_var (clashing s next)) → HasCome (resolvent s next) false s
resolved_none s next = by_var (only_var (clashing s next))
  where
    by_var : (o : Option ℕ) → None ≡ option_map pos o → HasCome (option_map (joined_at s next) o) false s
    by_var None e = refl
    by_var (Some x) e = absurd cc

pub resolved_at : (s s' next : List ℤ) (v : ℤ) (b : Bool) → Some v ≡ option_map pos (only_var (clashing s next)) → (has_lit s v && has_lit next (neg_ℤ v)) ≡ b
    → IsSetOf s' (if b then without s v ++ without next (neg_ℤ v) else without s (neg_ℤ v) ++ without next v) → HasCome (resolvent s next) true s'
resolved_at s s' next v b = by_var (only_var (clashing s next))
  where
    by_var : (o : Option ℕ) → Some v ≡ option_map pos o → (has_lit s v && has_lit next (neg_ℤ v)) ≡ b
        → IsSetOf s' (if b then without s v ++ without next (neg_ℤ v) else without s (neg_ℤ v) ++ without next v) → HasCome (option_map (joined_at s next) o) true s'
    by_var None e on is = absurd cc
    by_var (Some x) e on is = (
      refl,
      subst (λ (k : ℤ). IsSetOf s' (if has_lit s k && has_lit next (neg_ℤ k) then without s k ++ without next (neg_ℤ k) else without s (neg_ℤ k) ++ without next k)) (same_Some v (pos x) e)
          (subst (λ (d : Bool). IsSetOf s' (if d then without s v ++ without next (neg_ℤ v) else without s (neg_ℤ v) ++ without next v)) (sym on) is),
    )

-- the resolvent reads its first clause as a set
abbrev joined_has : (ℤ → Bool) → List ℤ → ℕ → ℤ → Bool
joined_has has d x l =
    if has (pos x) && has_lit d (neg_ℤ (pos x)) then (not (int_eq (pos x) l) && has l) || has_lit (without d (neg_ℤ (pos x))) l
    else (not (int_eq (neg_ℤ (pos x)) l) && has l) || has_lit (without d (pos x)) l

has-joined_at : (c d : List ℤ) (x : ℕ) (l : ℤ) → has_lit (joined_at c d x) l ≡ joined_has (has_lit c) d x l
has-joined_at c d x l = choose (has_lit c (pos x) && has_lit d (neg_ℤ (pos x)))
  where
    parts : (m k : ℤ) → has_lit (without c m ++ without d k) l ≡ ((not (int_eq m l) && has_lit c l) || has_lit (without d k) l)
    parts m k = has-append (without c m) (without d k) l ∙ ap (λ (b : Bool). b || has_lit (without d k) l) (has-without c m l)

    choose : (b : Bool) → has_lit (if b then without c (pos x) ++ without d (neg_ℤ (pos x)) else without c (neg_ℤ (pos x)) ++ without d (pos x)) l
        ≡ (if b then (not (int_eq (pos x) l) && has_lit c l) || has_lit (without d (neg_ℤ (pos x))) l else (not (int_eq (neg_ℤ (pos x)) l) && has_lit c l) || has_lit (without d (pos x)) l)
    choose true = parts (pos x) (neg_ℤ (pos x))
    choose false = parts (neg_ℤ (pos x)) (pos x)

pub resolvent_same : (s e d s' : List ℤ) (b : Bool) → IsSetOf s e → HasCome (resolvent s d) b s' → HasCome (resolvent e d) b s'
resolvent_same s e d s' b is h =
    by_var (only_var (clashing e d)) (subst (λ (f : ℤ → Bool). HasCome (option_map (joined_at s d) (only_var (filter (λ l. f (neg_ℤ l)) d))) b s') same h)
  where
    same : ◌≡◌ {A = ℤ → Bool} (has_lit s) (has_lit e)
    same = fun_ext is

    by_var : (o : Option ℕ) → HasCome (option_map (joined_at s d) o) b s' → HasCome (option_map (joined_at e d) o) b s'
    by_var None k = k
    by_var (Some x) k = (k.0, λ l. k.1 l ∙ has-joined_at s d x l ∙ ap (λ (f : ℤ → Bool). joined_has f d x l) same ∙ sym (has-joined_at e d x l))
