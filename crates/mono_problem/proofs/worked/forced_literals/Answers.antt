use Rattle.std.proofs.Common.{[], ◌∷◌, refl, inl, inr, pos}
use Rattle.mono_graph.specs.Worked.{pipe}
use Rattle.mono_problem.specs.Quiet.{under, over}
use Rattle.mono_problem.specs.Worked.{minus}
use Rattle.mono_problem.proofs.WorkedFailures.{not_through}
use Rattle.mono_problem.proofs.worked.forced_literals.Goals as goal

pub returns-clause-by_walk : goal.returns-clause-by_walk
returns-clause-by_walk c = inl (refl, (0 ∷ 1 ∷ [], refl))

pub returns-clause-by_cut : goal.returns-clause-by_cut
returns-clause-by_cut c = inr (refl, not_through (over (pipe 3 2) (minus 2 ∷ [])) refl)

pub returns-clause-undecided : goal.returns-clause-undecided
returns-clause-undecided c = λ l f. elim f [
  | inl surely ↦ not_through (under (pipe 3 2) (pos 1 ∷ [])) refl surely.1
  | inr never ↦ never.1 (0 ∷ 1 ∷ [], refl)
]

pub returns-clause-not_both : goal.returns-clause-not_both
returns-clause-not_both c = λ f. elim f [
  | inl surely ↦ (let e = surely.0 in cc)
  | inr never ↦ never.1 (0 ∷ 1 ∷ [], refl)
]

pub returns-clause-quiet : goal.returns-clause-quiet
returns-clause-quiet c = ((λ h. absurd (not_through (under (pipe 3 2) (pos 1 ∷ [])) refl h)), (λ e. (0 ∷ 1 ∷ [], refl)))

pub returns-clause-quiet_once_true : goal.returns-clause-quiet_once_true
returns-clause-quiet_once_true c = ((λ h. refl), (λ e. (0 ∷ 1 ∷ [], refl)))

pub returns-clause-quiet_once_false : goal.returns-clause-quiet_once_false
returns-clause-quiet_once_false c = ((λ h. absurd (not_through (under (pipe 3 2) (minus 2 ∷ minus 5 ∷ [])) refl h)), (λ e. absurd cc))

pub returns-clause-not_yet_true : goal.returns-clause-not_yet_true
returns-clause-not_yet_true c = λ q. let e = q.0 (0 ∷ 1 ∷ [], refl) in cc

pub returns-clause-not_yet_false : goal.returns-clause-not_yet_false
returns-clause-not_yet_false c = λ q. not_through (over (pipe 3 2) (minus 2 ∷ [])) refl (q.1 refl)
