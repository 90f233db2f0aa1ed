use Rattle.std.proofs.Common.{◌≡◌, zero, suc, true, false, [], ◌∷◌, refl, arith, pos}
use Rattle.mono_graph.specs.Worked.{parallel}
use Rattle.mono_problem.specs.Quiet.{TheoryQuiet}
use Rattle.mono_problem.specs.Read.{no_atom}
use Rattle.mono_theory.specs.Worked.{reaches}
use Rattle.mono_theory.proofs.WorkedRows.{walk_forces}
use Rattle.mono_search_rows.proofs.worked_answers.what_theories_force.Goals as goal

forced_already : TheoryQuiet (parallel 1 1) reaches (pos 1 ∷ pos 3 ∷ [])
forced_already zero d lt = (λ holds. refl, λ unset. (0 ∷ [], refl))
forced_already (suc i) d lt = absurd (omega (arith, lt))

pub returns-clause-quiet : goal.returns-clause-quiet
returns-clause-quiet c = forced_already

pub returns-clause-not_quiet : goal.returns-clause-not_quiet
returns-clause-not_quiet c = λ h. let e : false ≡ true = (h 0 no_atom (omega arith)).0 (0 ∷ [], refl) in cc

pub returns-clause-literal : goal.returns-clause-literal
returns-clause-literal c = walk_forces

pub returns-clause-true_already : goal.returns-clause-true_already
returns-clause-true_already c = λ h. let e : true ≡ false = h.not_yet in cc

pub returns-clause-of_another_atom : goal.returns-clause-of_another_atom
returns-clause-of_another_atom c = λ h. absurd h.forces
