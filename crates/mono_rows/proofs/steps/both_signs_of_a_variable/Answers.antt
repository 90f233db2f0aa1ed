use Rattle.std.proofs.Common.{Bool, true, false, ◌&&◌, ◌||◌, List, [], ◌∷◌, ℤ, pos, refl, cond}
use Rattle.std.specs.Prelude.{IsTrue}
use Rattle.std.proofs.lemmas.Bool.{and_parts}
use Rattle.mono_base.specs.Literal.{has_lit}
use Rattle.mono_base.specs.Partial.{has_two, is_open_in, is_partial, is_quiet, unit_quiet}
use Rattle.mono_base.proofs.Partials.{one_sign}
use Rattle.mono_steps.specs.WorkedLemmas.{minus}
use Rattle.mono_rows.proofs.steps.both_signs_of_a_variable.Goals as goal

-- a clause of one literal is quiet only where the literal is true
alone : (x : ℤ) (on free : Bool) → IsTrue ((on || false) || has_two (cond free (x ∷ []) [])) → IsTrue on
alone x true free quiet = refl
alone x false true quiet = absurd cc
alone x false false quiet = absurd cc

never : (t : List ℤ) → IsTrue (is_partial t) → IsTrue (unit_quiet ((pos 2 ∷ []) ∷ (minus 2 ∷ []) ∷ []) t) → ⊥
never t partial quiet =
    let both = and_parts (is_quiet t (pos 2 ∷ [])) (is_quiet t (minus 2 ∷ []) && true) quiet in
    let last = and_parts (is_quiet t (minus 2 ∷ [])) true both.1 in
    one_sign t (pos 2) partial (alone (pos 2) (has_lit t (pos 2)) (is_open_in t (pos 2)) both.0) (alone (minus 2) (has_lit t (minus 2)) (is_open_in t (minus 2)) last.0)

pub returns : goal.returns
returns c = λ h. let k = (h.chains.0 refl).new in never k.under k.partial k.quiet
