-- Justified steps are true wherever the problem is satisfied, so a refutation leaves no model.
use Rattle.std.proofs.Common.{◌≡◌, ℕ, suc, Bool, true, ◌==◌, List, [], ◌∷◌, ◌++◌, length, map, refl, ◌∙◌, ℤ, arith}
use Rattle.std.specs.Prelude.{IsTrue}
use Rattle.std.proofs.lemmas.List.Folds.{list_all-append}
use Rattle.std.proofs.lemmas.Bool.{and_parts, and_from, eqb-true}
use Rattle.mono_base.specs.Literal.{clause_true, all_true}
use Rattle.mono_problem.specs.Instance.{Instance}
use Rattle.mono_problem.specs.WellFormed.{IsInstance}
use Rattle.mono_problem.specs.Holds.{Agrees, Satisfies, HasNoModel}
use Rattle.mono_steps.specs.declared.step.Step.{Step}
use Rattle.mono_steps.specs.declared.step.Step.TheVariants as step
use Rattle.mono_steps.specs.Steps.{clause_of, is_justified_step, are_justified_after, are_justified, is_empty_chain, ends_empty, is_refutation}
use Rattle.mono_steps.proofs.LemmaTruth.{lemma_true}
use Rattle.mono_steps.proofs.Soundness.{chain_true}

step_true : (p : Instance) (a : ℕ → Bool) (earlier : List (List ℤ)) (s : Step) → IsInstance p → Agrees p a → IsTrue (all_true a earlier) → IsTrue (is_justified_step p earlier s)
    → IsTrue (clause_true a (clause_of s))
step_true p a earlier (step.Lemma l) ok agrees h j = lemma_true p a l ok agrees j
step_true p a earlier (step.Chain c) ok agrees h j = chain_true p a earlier c h j

steps_true : (p : Instance) (a : ℕ → Bool) (earlier : List (List ℤ)) (ss : List Step) → IsInstance p → Agrees p a → IsTrue (are_justified_after p earlier ss) → IsTrue (all_true a earlier)
    → IsTrue (all_true a (map clause_of ss))
steps_true p a earlier [] ok agrees j h = refl
steps_true p a earlier (s ∷ ss) ok agrees j h =
    let b = and_parts (is_justified_step p earlier s) (are_justified_after p (earlier ++ clause_of s ∷ []) ss) j in
    let t = step_true p a earlier s ok agrees h b.0 in
    let more : IsTrue (all_true a (earlier ++ clause_of s ∷ [])) =
    list_all-append (clause_true a) earlier (clause_of s ∷ []) ∙ and_from (all_true a earlier) (all_true a (clause_of s ∷ [])) h (and_from (clause_true a (clause_of s)) true t refl) in
    and_from (clause_true a (clause_of s)) (all_true a (map clause_of ss)) t (steps_true p a (earlier ++ clause_of s ∷ []) ss ok agrees b.1 more)

pub justified_true : (p : Instance) (a : ℕ → Bool) (ss : List Step) → IsInstance p → IsTrue (are_justified p ss) → Satisfies p a → IsTrue (all_true a (map clause_of ss))
justified_true p a ss ok j s = steps_true p a p.clauses ss ok s.1 j s.0

empty_false : (a : ℕ → Bool) (s : Step) → IsTrue (is_empty_chain s) → IsTrue (clause_true a (clause_of s)) → ⊥
empty_false a (step.Lemma l) e h = absurd cc
empty_false a (step.Chain c) e h = no_literal c.clause e h
  where
    no_literal : (ls : List ℤ) → IsTrue (length ls == 0) → IsTrue (clause_true a ls) → ⊥
    no_literal [] e h = cc
    no_literal (m ∷ ms) e h = let z : suc (length ms) ≡ 0 = eqb-true (suc (length ms)) 0 e in omega arith

not_all_true : (a : ℕ → Bool) (ss : List Step) → IsTrue (ends_empty ss) → IsTrue (all_true a (map clause_of ss)) → ⊥
not_all_true a [] e h = cc
not_all_true a (s ∷ []) e h = empty_false a s e (and_parts (clause_true a (clause_of s)) true h).0
not_all_true a (s ∷ t ∷ ss) e h = not_all_true a (t ∷ ss) e (and_parts (clause_true a (clause_of s)) (all_true a (map clause_of (t ∷ ss))) h).1

pub refutation_excludes : (p : Instance) (ss : List Step) → IsInstance p → IsTrue (is_refutation p ss) → HasNoModel p
refutation_excludes p ss ok r a s =
    let b = and_parts (are_justified p ss) (ends_empty ss) r in
    not_all_true a ss b.1 (justified_true p a ss ok b.0 s)
