use Rattle.std.proofs.Common.{◌≡◌, ℕ, false, true, Bool, List, [], ◌∷◌, length, refl, ap, arith}
use Rattle.std.specs.Prelude.{IsTrue, Some, slice_get, slice_index_or}
use Rattle.mono_steps.specs.declared.step.Step.{Step}
use Rattle.mono_steps.specs.Renumbering.{names_step}
use Rattle.mono_steps.specs.Trimmed.{trimmed_steps}
use Rattle.mono_steps.specs.WorkedLemmas.{chain}
use Rattle.mono_rows.proofs.trimmed.last_step_is_kept.Goals as goal

abbrev once : List Step
once = chain [] (1 ∷ 2 ∷ []) ∷ []

abbrev twice : List Step
twice = chain [] (1 ∷ 2 ∷ []) ∷ chain [] (3 ∷ []) ∷ []

-- the last step names the first one, so both are kept
both_kept : (bs : List Bool) → length bs ≡ 2 → slice_index_or bs 1 false ≡ true → once ≡ trimmed_steps 2 bs twice
    → ((j k : ℕ) (s : Step) → IsTrue (slice_index_or bs j false) → slice_get twice j ≡ Some s → IsTrue (names_step 2 s k) → IsTrue (slice_index_or bs k false)) → ⊥
both_kept [] len last is closed = omega (arith, len)
both_kept (a ∷ []) len last is closed = omega (arith, len)
both_kept (a ∷ b ∷ d ∷ bs) len last is closed = omega (arith, len)
both_kept (true ∷ true ∷ []) len last is closed = let e : 1 ≡ 2 = ap (λ (ss : List Step). length ss) is in omega (arith, e)
both_kept (true ∷ false ∷ []) len last is closed = let e : false ≡ true = last in cc
both_kept (false ∷ b ∷ []) len last is closed = let e : false ≡ true = closed 1 0 (chain [] (3 ∷ [])) last refl refl in cc

pub returns : goal.returns
returns c = λ h. both_kept h.needed h.as_many h.last h.is h.closed
