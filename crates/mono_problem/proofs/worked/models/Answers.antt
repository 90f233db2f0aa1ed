use Rattle.std.proofs.Common.{ℕ, List, [], ◌∷◌, refl, arith, pos}
use Rattle.std.specs.Prelude.{◌↔◌, IsTrue}
use Rattle.mono_graph.specs.Digraph.{enabled}
use Rattle.mono_graph.specs.Worked.{pipe}
use Rattle.mono_problem.specs.declared.atom.Atom.{Atom}
use Rattle.mono_problem.specs.Holds.{HoldsAtom}
use Rattle.mono_problem.specs.Worked.{reaches_2, piped, only}
use Rattle.mono_problem.proofs.WorkedFailures.{not_through, all_one}
use Rattle.mono_problem.proofs.worked.models.Goals as goal

-- the atom agrees
abbrev Agrees_by : List ℕ → Atom → Type 0
Agrees_by vs x = IsTrue (only vs x.var) ↔ HoldsAtom (piped ((pos 1 ∷ []) ∷ [])) (only vs) x

pub returns-clause-reached : goal.returns-clause-reached
returns-clause-reached c = (refl, all_one (Agrees_by (1 ∷ 2 ∷ 5 ∷ [])) reaches_2 ((λ e. (0 ∷ 1 ∷ [], refl)), (λ h. refl)))

pub returns-clause-not_reached : goal.returns-clause-not_reached
returns-clause-not_reached c = (refl, all_one (Agrees_by (1 ∷ [])) reaches_2 ((λ e. absurd cc), (λ h. absurd (not_through (enabled (only (1 ∷ [])) (pipe 3 2)) refl h))))

pub returns-clause-false_clause : goal.returns-clause-false_clause
returns-clause-false_clause c = λ m. let e = m.0 in cc

pub returns-clause-wrongly_false : goal.returns-clause-wrongly_false
returns-clause-wrongly_false c = λ m. let e = (m.1 0 reaches_2 (omega arith)).1 (0 ∷ 1 ∷ [], refl) in cc

pub returns-clause-wrongly_true : goal.returns-clause-wrongly_true
returns-clause-wrongly_true c = λ m. not_through (enabled (only (1 ∷ 5 ∷ [])) (pipe 3 2)) refl ((m.1 0 reaches_2 (omega arith)).0 refl)
