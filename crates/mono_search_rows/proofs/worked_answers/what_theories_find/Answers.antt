use Rattle.std.proofs.Common.{◌≡◌, zero, suc, true, false, [], ◌∷◌, refl, arith, pos}
use Rattle.mono_graph.specs.Worked.{parallel}
use Rattle.mono_problem.specs.Quiet.{TheoryQuiet}
use Rattle.mono_problem.specs.Read.{no_atom}
use Rattle.mono_steps.specs.WorkedLemmas.{minus}
use Rattle.mono_theory.specs.Worked.{reaches}
use Rattle.mono_theory.proofs.WorkedRows.{walk_is_found}
use Rattle.mono_search_rows.proofs.NoWalks.{no_walk}
use Rattle.mono_search_rows.proofs.worked_answers.what_theories_find.Goals as goal

forced_already : TheoryQuiet (parallel 1 1) reaches (pos 1 ∷ pos 3 ∷ [])
forced_already zero d lt = (λ holds. refl, λ unset. (0 ∷ [], refl))
forced_already (suc i) d lt = absurd (omega (arith, lt))

none_owed : TheoryQuiet (parallel 1 1) reaches []
none_owed zero d lt = (λ holds. absurd (no_walk holds), λ unset. (0 ∷ [], refl))
none_owed (suc i) d lt = absurd (omega (arith, lt))

pub returns-clause-quiet : goal.returns-clause-quiet
returns-clause-quiet c = forced_already

pub returns-clause-not_quiet : goal.returns-clause-not_quiet
returns-clause-not_quiet c = λ h. let e : false ≡ true = (h 0 no_atom (omega arith)).0 (0 ∷ [], refl) in cc

pub returns-clause-lemma : goal.returns-clause-lemma
returns-clause-lemma c = walk_is_found

pub returns-clause-lemma_while_open : goal.returns-clause-lemma_while_open
returns-clause-lemma_while_open c = λ h. let e = h.one_open (minus 2) (pos 3) refl refl refl refl in cc

pub returns-clause-nothing_seen : goal.returns-clause-nothing_seen
returns-clause-nothing_seen c = none_owed

pub returns-clause-owed : goal.returns-clause-owed
returns-clause-owed c = λ h. no_walk ((h 0 no_atom (omega arith)).1 refl)
