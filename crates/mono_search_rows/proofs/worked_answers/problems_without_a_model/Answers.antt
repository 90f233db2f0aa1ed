use Rattle.std.proofs.Common.{ℕ, zero, suc, ◌<◌, true, [], ◌∷◌, get_or, refl, arith}
use Rattle.std.specs.Prelude.{IsTrue, ◌↔◌}
use Rattle.mono_problem.specs.declared.atom.Atom.{Atom}
use Rattle.mono_problem.specs.Holds.{HoldsAtom}
use Rattle.mono_problem.specs.Worked.{piped}
use Rattle.mono_search_rows.proofs.worked_answers.problems_without_a_model.Goals as goal

agrees : (i : ℕ) (d : Atom) → i < 1 → IsTrue true ↔ HoldsAtom (piped []) (λ v. true) (get_or (piped []).atoms i d)
agrees zero d lt = (λ on. (0 ∷ 1 ∷ [], refl), λ holds. refl)
agrees (suc i) d lt = absurd (omega (arith, lt))

pub returns-clause-no_clause : goal.returns-clause-no_clause
returns-clause-no_clause c = λ h. h (λ v. true) (refl, agrees)
