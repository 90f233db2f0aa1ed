use Rattle.std.proofs.Common.{◌≡◌, true, false, [], ◌∷◌, refl, sym, subst, inl, inr, ℤ, pos}
use Rattle.std.specs.Prelude.{IsTrue}
use Rattle.mono_base.specs.Partial.{is_true_in}
use Rattle.mono_search_rows.proofs.worked_answers.what_an_atom_owes.Goals as goal

pub returns-clause-forced_already : goal.returns-clause-forced_already
returns-clause-forced_already c = λ l forces. elim forces [
  | inl walk ↦ subst (λ (m : ℤ). IsTrue (is_true_in (pos 1 ∷ pos 3 ∷ []) m)) (sym walk.0) refl
  | inr none ↦ absurd (none.1 (0 ∷ [], refl))
]

pub returns-clause-still_to_force : goal.returns-clause-still_to_force
returns-clause-still_to_force c = λ h. let e : false ≡ true = h (pos 3) (inl (refl, (0 ∷ [], refl))) in cc

pub returns-clause-nearly_quiet : goal.returns-clause-nearly_quiet
returns-clause-nearly_quiet c = (λ holds. refl, λ unset none. none (0 ∷ [], refl))

pub returns-clause-to_hold : goal.returns-clause-to_hold
returns-clause-to_hold c = λ h. let e : false ≡ true = h.0 (0 ∷ [], refl) in cc
