use Rattle.std.proofs.Common.{◌≡◌, ◌∙◌, ◌++◌, List, [], ◌∷◌, ap, sym, length, length-append, arith}
use Rattle.mono_steps.specs.declared.step.Step.{Step}
use Rattle.mono_steps.specs.declared.step.Step.TheVariants as step
use Rattle.mono_steps.specs.Journals.{lemma_steps}
use Rattle.mono_steps.specs.WorkedLemmas.{minus}
use Rattle.mono_search_rows.proofs.worked_searches.what_it_goes_back_with.Goals as goal

-- steps with one more are other steps
longer : (old more : List Step) (s : Step) → old ≡ (old ++ more) ++ s ∷ [] → ⊥
longer old more s e =
    let len : length old ≡ length ((old ++ more) ++ s ∷ []) = ap (λ (ss : List Step). length ss) e in
    omega (arith, len, length-append (old ++ more) (s ∷ []), length-append old more)

pub returns-clause-nothing_learned : goal.returns-clause-nothing_learned
returns-clause-nothing_learned c = λ v w same h.
    longer v.steps (lemma_steps h.learns.lemmas) (step.Chain (record { clause = h.learnt.clause; used = h.learns.used })) (sym same ∙ h.learns.pushed)

pub returns-clause-other_literals : goal.returns-clause-other_literals
returns-clause-other_literals c = λ v w h old new. let e : minus 2 ∷ [] ≡ minus 1 ∷ [] = sym new ∙ (h.settles.lits ∙ old) in cc
