use Rattle.std.proofs.Common.{◌≡◌, ℕ, zero, suc, ◌<◌, Bool, true, false, List, [], ◌∷◌, length, refl, sym, ap, subst, ◌∙◌, ℤ, pos, negsuc, nat_abs, arith}
use Rattle.std.specs.Prelude.{IsTrue, slice_index_or}
use Rattle.mono_base.specs.Literal.{value_in}
use Rattle.mono_base.specs.Partial.{is_open_in}
use Rattle.mono_steps.specs.Switching.{literal_of}
use Rattle.mono_theory.specs.Theories.{Facts}
use Rattle.mono_trail.specs.declared.reason.Reason.TheVariants.{Decided}
use Rattle.mono_trail.specs.Moves.{joined}
use Rattle.mono_trail.specs.TrailView.{TrailView, no_literals}
use Rattle.mono_search_rows.proofs.worked_searches.decided_variables.Goals as goal

-- a positive literal is that of its variable, and no negative one is positive
decided_true : (sign : Bool) (v n : ℕ) → 0 < n → literal_of sign v ≡ pos n → (IsTrue sign → v ≡ n → ⊥) → ⊥
decided_true true v n some e h = h refl (let same : v ≡ n = ap (λ (l : ℤ). nat_abs l) e in same)
decided_true false zero n some e h = let none : 0 ≡ n = ap (λ (l : ℤ). nat_abs l) e in omega (arith, some, none)
decided_true false (suc v) n some e h = let f : negsuc v ≡ pos n = e in cc

pub returns-clause-saved_as_false : goal.returns-clause-saved_as_false
returns-clause-saved_as_false c = λ v w none phases begun now h.
    let same : joined (no_literals 2) (literal_of h.sign h.var) Decided ≡ joined (no_literals 2) (pos 2) Decided =
    ap (λ (t : TrailView). joined t (literal_of h.sign h.var) Decided) (sym begun) ∙ sym h.decided ∙ now in
    decided_true h.sign h.var 2 (omega arith) (ap (λ (t : TrailView). slice_index_or t.lits 0 (pos 0)) same) (λ on second.
    let off : value_in (false ∷ false ∷ []) h.var ≡ false = subst (λ (n : ℕ). value_in (false ∷ false ∷ []) n ≡ false) (sym second) refl in
    let some : 0 < length v.theories.facts = h.by_theory on (subst (λ (ps : List Bool). value_in ps h.var ≡ false) (sym phases) off) in
    let len : length v.theories.facts ≡ 0 = ap (λ (fs : List Facts). length fs) none in
    omega (arith, some, len))

abbrev one : TrailView
one = joined (no_literals 1) (pos 1) Decided

pub returns-clause-with_a_value : goal.returns-clause-with_a_value
returns-clause-with_a_value c = λ v w begun now h.
    let same : joined one (literal_of h.sign h.var) Decided ≡ joined one (pos 1) Decided =
    ap (λ (t : TrailView). joined t (literal_of h.sign h.var) Decided) (sym begun) ∙ sym h.decided ∙ now in
    decided_true h.sign h.var 1 (omega arith) (ap (λ (t : TrailView). slice_index_or t.lits 1 (pos 0)) same) (λ on first.
    let free : IsTrue (is_open_in (pos 1 ∷ []) (pos h.var)) = subst (λ (t : TrailView). IsTrue (is_open_in t.lits (pos h.var))) begun h.is_open in
    let e : false ≡ true = subst (λ (n : ℕ). IsTrue (is_open_in (pos 1 ∷ []) (pos n))) first free in
    cc)
