use Rattle.std.proofs.Common.{◌≡◌, List, [], ◌∷◌, refl, pos}
use Rattle.mono_steps.specs.declared.lemma.Lemma.{Lemma}
use Rattle.mono_steps.specs.declared.lemma.Witness.TheVariants as by
use Rattle.mono_steps.specs.declared.step.Step.TheVariants as step
use Rattle.mono_steps.specs.Journals.{lemma_steps}
use Rattle.mono_steps.specs.WorkedLemmas.{chain, of_1}
use Rattle.mono_rows.proofs.steps.joined_lemmas.Goals as goal

no_chain : (ls : List Lemma) → chain [] (1 ∷ []) ∷ [] ≡ lemma_steps ls → ⊥
no_chain [] e = cc
no_chain (l ∷ ls) e = cc

no_chain_behind : (ls : List Lemma) → step.Lemma (of_1 [] (by.Path [])) ∷ chain [] (1 ∷ []) ∷ [] ≡ lemma_steps ls → ⊥
no_chain_behind [] e = cc
no_chain_behind (l ∷ []) e = cc
no_chain_behind (l ∷ m ∷ ls) e = cc

pub returns-clause-two : goal.returns-clause-two
returns-clause-two c = record { lemmas = of_1 [] (by.Path []) ∷ of_1 (pos 1 ∷ []) (by.Order []) ∷ []; pushed = refl }

pub returns-clause-none : goal.returns-clause-none
returns-clause-none c = record { lemmas = []; pushed = refl }

pub returns-clause-chain : goal.returns-clause-chain
returns-clause-chain c = λ h. no_chain h.lemmas h.pushed

pub returns-clause-chain_behind_a_lemma : goal.returns-clause-chain_behind_a_lemma
returns-clause-chain_behind_a_lemma c = λ h. no_chain_behind h.lemmas h.pushed

pub returns-clause-gone : goal.returns-clause-gone
returns-clause-gone c = λ h. let e = h.pushed in cc
