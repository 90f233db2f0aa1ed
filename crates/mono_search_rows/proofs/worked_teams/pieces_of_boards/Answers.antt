use Rattle.std.proofs.Common.{◌≡◌, zero, suc, List, [], ◌∷◌, ap, length, arith}
use Rattle.mono_steps.specs.declared.step.Step.{Step}
use Rattle.mono_steps.specs.declared.step.Step.TheVariants as step
use Rattle.mono_steps.specs.Journals.{chain_count}
use Rattle.mono_search.specs.Worked.{two_clauses}
use Rattle.mono_portfolio.specs.Moved.{moved}
use Rattle.mono_portfolio.specs.Worked.{some_lemma}
use Rattle.mono_search_rows.proofs.worked_teams.pieces_of_boards.Goals as goal

-- where it was learned, it has a chain
not_a_lemma : (steps : List Step) → chain_count steps ≡ 1 → some_lemma ∷ [] ≡ moved two_clauses steps [] [] → ⊥
not_a_lemma [] one is = cc
not_a_lemma (step.Lemma l ∷ []) one is = let e : zero ≡ suc zero = one in cc
not_a_lemma (step.Chain c ∷ []) one is = let e : zero ≡ suc zero = ap (λ (ss : List Step). chain_count ss) is in cc
not_a_lemma (s ∷ (r ∷ ss)) one is = let e = ap (λ (xs : List Step). length xs) is in omega (arith, e)

nothing : (steps : List Step) → chain_count steps ≡ 1 → [] ≡ moved two_clauses steps [] [] → ⊥
nothing [] one is = let e : zero ≡ suc zero = one in cc
nothing (s ∷ ss) one is = cc

pub returns-clause-as_many : goal.returns-clause-as_many
returns-clause-as_many c = λ h. not_a_lemma h.steps h.learned.chains h.is

pub returns-clause-none : goal.returns-clause-none
returns-clause-none c = λ h. nothing h.steps h.learned.chains h.is
