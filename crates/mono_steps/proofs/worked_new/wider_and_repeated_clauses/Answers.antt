use Rattle.std.proofs.Common.{◌≡◌, ◌<◌, [], ◌∷◌, length, get_or, false, refl, pos, arith}
use Rattle.mono_base.specs.Literal.{within}
use Rattle.mono_problem.specs.Instance.{Instance}
use Rattle.mono_steps.specs.declared.step.Step.{Step}
use Rattle.mono_steps.specs.Journals.{chain_clauses}
use Rattle.mono_steps.specs.New.{AreNew}
use Rattle.mono_steps.proofs.LeftOpen.{end_literals}
use Rattle.mono_steps.proofs.NewSteps.{clauses_of_new, none_of_the_problem, pairs_apart}
use Rattle.mono_steps.proofs.worked_new.wider_and_repeated_clauses.Goals as goal

-- the second clause doesn't contain the first
second_apart : (p : Instance) (a b : Step) → AreNew p (a ∷ b ∷ []) → 1 < length (chain_clauses (a ∷ b ∷ [])) → within (get_or (chain_clauses (a ∷ b ∷ [])) 0 []) (get_or (chain_clauses (a ∷ b ∷ [])) 1 []) ≡ false
second_apart p a b h two = pairs_apart p.clauses (chain_clauses (a ∷ b ∷ [])) (clauses_of_new p (a ∷ b ∷ []) h) 0 1 [] (omega arith) two

pub returns-clause-wider : goal.returns-clause-wider
returns-clause-wider c = λ h. let e = end_literals _ _ (pos 1 ∷ pos 1 ∷ []) (h.chains.0 refl).exact refl (pos 3) in cc

pub returns-clause-again : goal.returns-clause-again
returns-clause-again c = λ h.
    let e : within (pos 1 ∷ []) (pos 1 ∷ []) ≡ false = second_apart _ _ _ h (omega arith) in
    cc

pub returns-clause-again_wider : goal.returns-clause-again_wider
returns-clause-again_wider c = λ h.
    let e : within (pos 1 ∷ []) (pos 1 ∷ pos 3 ∷ []) ≡ false = second_apart _ _ _ h (omega arith) in
    cc

pub returns-clause-of_the_problem : goal.returns-clause-of_the_problem
returns-clause-of_the_problem c = λ h. let e = none_of_the_problem _ _ h in cc
