use Rattle.std.proofs.Common.{◌≡◌, ℕ, zero, suc, Bool, true, false, List, [], ◌∷◌, refl, sym, ap, subst, ◌∙◌, pos, negsuc}
use Rattle.std.specs.Prelude.{IsTrue, slice_index_or}
use Rattle.mono_base.specs.Literal.{value_in}
use Rattle.mono_steps.specs.Switching.{literal_of}
use Rattle.mono_steps.specs.WorkedLemmas.{minus}
use Rattle.mono_trail.specs.declared.reason.Reason.TheVariants.{Decided}
use Rattle.mono_trail.specs.Moves.{joined}
use Rattle.mono_trail.specs.TrailView.{TrailView, no_literals}
use Rattle.mono_search.proofs.worked.decisions_by_saved_signs.Goals as goal

never : (sign : Bool) (v : ℕ) → literal_of sign v ≡ negsuc 0 → (IsTrue (value_in (true ∷ true ∷ []) v) → IsTrue sign) → ⊥
never true v e h = cc
never false zero e h = cc
never false (suc zero) e h = let f = h refl in cc
never false (suc (suc v)) e h = cc

pub returns : goal.returns
returns c = λ v w phases begun now h.
    let same : joined (no_literals 2) (literal_of h.sign h.var) Decided ≡ joined (no_literals 2) (minus 1) Decided =
    ap (λ (t : TrailView). joined t (literal_of h.sign h.var) Decided) (sym begun) ∙ sym h.decided ∙ now in
    never h.sign h.var (ap (λ (t : TrailView). slice_index_or t.lits 0 (pos 0)) same) (subst (λ (ps : List Bool). IsTrue (value_in ps h.var) → IsTrue h.sign) phases h.saved_sign)
