-- How a trail grows, and what stays true of a clause.
use Rattle.std.proofs.Common.{◌≡◌, ◌≢◌, List, [], ◌∷◌, refl, sym, ◌∙◌, ap, subst, inl, inr}
use Rattle.std.specs.Prelude.{ℤ}
use Rattle.mono_base.specs.Partial.{value_by}
use Rattle.mono_base.specs.declared.value.Value.{Value}
use Rattle.mono_base.specs.declared.value.Value.TheVariants.{Yes, No, Unset}
use Rattle.mono_trail.specs.TrailView.{TrailView}
use Rattle.mono_clauses.proofs.Literals.{IsQuiet, yes_stays}
use Rattle.mono_clauses.specs.ClauseValues.{HasTrue}
use Rattle.mono_clauses.specs.Lists.{Stands}
use Rattle.mono_clauses.specs.Propagation.{Grows, same, implies, gives}
use Rattle.mono_clauses.specs.Store.{Held}

pub Grows-then : (cs : List Held) (t s u : TrailView) → Grows cs t s → Grows cs s u → Grows cs t u
Grows-then cs t s u g (same v e) = subst (λ (w : TrailView). Grows cs t w) (sym e) g
Grows-then cs t s u g (implies a v n x h w e) = implies a v n x (Grows-then cs t s a g h) w e
Grows-then cs t s u g (gives a v h l e) = gives a v (Grows-then cs t s a g h) l e

pub Grows-vars : (cs : List Held) (t u : TrailView) → Grows cs t u → u.vars ≡ t.vars
Grows-vars cs t u (same v e) = ap (λ (w : TrailView). w.vars) e
Grows-vars cs t u (implies a v n x h w e) = ap (λ (w : TrailView). w.vars) e ∙ Grows-vars cs t a h
Grows-vars cs t u (gives a v h l e) = ap (λ (w : TrailView). w.vars) e ∙ Grows-vars cs t a h

pub Grows-level : (cs : List Held) (t u : TrailView) → Grows cs t u → u.level ≡ t.level
Grows-level cs t u (same v e) = ap (λ (w : TrailView). w.level) e
Grows-level cs t u (implies a v n x h w e) = ap (λ (w : TrailView). w.level) e ∙ Grows-level cs t a h
Grows-level cs t u (gives a v h l e) = ap (λ (w : TrailView). w.level) e ∙ Grows-level cs t a h

pub HasTrue-grows : (cs : List Held) (t u : TrailView) (c : List ℤ) → Grows cs t u → HasTrue t.lits c → HasTrue u.lits c
HasTrue-grows cs t u c (same v e) h = subst (λ (w : TrailView). HasTrue w.lits c) (sym e) h
HasTrue-grows cs t u c (implies a v n x g w e) h =
    let b = HasTrue-grows cs t a c g h in
    subst (λ (w : TrailView). HasTrue w.lits c) (sym e) (record { lit = b.lit; has = b.has; holds = yes_stays a.lits (x ∷ []) b.lit b.holds })
HasTrue-grows cs t u c (gives a v g l e) h = subst (λ (w : TrailView). HasTrue w.lits c) (sym e) (HasTrue-grows cs t a c g h)

-- two different literals that are not false make a clause quiet
two_unfalse : (t c : List ℤ) (x y : ℤ) (v w : Value) → value_by t x ≡ v → value_by t y ≡ w → Stands c x → Stands c y → v ≢ No → w ≢ No → x ≢ y → IsQuiet t c
two_unfalse t c x y Yes w e f s r a b d = record { why = inl (record { lit = x; has = s; holds = e }) }
two_unfalse t c x y No w e f s r a b d = absurd (a refl)
two_unfalse t c x y Unset Yes e f s r a b d = record { why = inl (record { lit = y; has = r; holds = f }) }
two_unfalse t c x y Unset No e f s r a b d = absurd (b refl)
two_unfalse t c x y Unset Unset e f s r a b d = record { why = inr (record { one = x; two = y; has_one = s; has_two = r; one_open = e; two_open = f; differ = d }) }

pub quiet_by_two : (t c : List ℤ) (x y : ℤ) → Stands c x → Stands c y → value_by t x ≢ No → value_by t y ≢ No → x ≢ y → IsQuiet t c
quiet_by_two t c x y s r a b d = two_unfalse t c x y (value_by t x) (value_by t y) refl refl s r a b d

pub quiet_by_true : (t c : List ℤ) (x : ℤ) → Stands c x → value_by t x ≡ Yes → IsQuiet t c
quiet_by_true t c x s e = record { why = inl (record { lit = x; has = s; holds = e }) }
