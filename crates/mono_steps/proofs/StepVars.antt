-- The clauses of justified steps are over the problem's variables.
use Rattle.std.proofs.Common.{◌≡◌, ℕ, zero, suc, ◌&&◌, false, List, [], ◌∷◌, ◌++◌, None, Some, All, subst, ℤ}
use Rattle.std.specs.Prelude.{IsTrue, slice_get, nat_le}
use Rattle.std.proofs.lemmas.Bool.{and_parts, leb-true}
use Rattle.std.proofs.lemmas.List.Elements.{All-nil, All-cons}
use Rattle.std.proofs.lemmas.Option.{same_Some}
use Rattle.mono_base.specs.Literal.{var_of, IsLitWithin}
use Rattle.mono_problem.specs.declared.atom.Atom.{Atom}
use Rattle.mono_problem.specs.Instance.{Instance, numbered, graph_at}
use Rattle.mono_steps.specs.ChainSteps.{names_vars, names_clauses, clauses_named, covers}
use Rattle.mono_steps.specs.Chains.{chain_end}
use Rattle.mono_steps.specs.declared.lemma.Lemma.{Lemma}
use Rattle.mono_steps.specs.declared.step.Step.{Step}
use Rattle.mono_steps.specs.declared.step.Step.TheVariants as step
use Rattle.mono_steps.specs.Steps.{clause_of, is_justified_step, are_justified_after}
use Rattle.mono_steps.specs.Witnesses.{is_shown, justifies_by}

-- each literal of a clause that names variables of the problem is within these
pub vars_within : (p : Instance) (c : List ℤ) → IsTrue (names_vars p c) → All (IsLitWithin p.vars) c
vars_within p [] h = All-nil (IsLitWithin p.vars)
vars_within p (l ∷ c) h =
    let a = and_parts (nat_le 1 (var_of l) && nat_le (var_of l) p.vars) (names_vars p c) h in
    let b = and_parts (nat_le 1 (var_of l)) (nat_le (var_of l) p.vars) a.0 in
    All-cons (IsLitWithin p.vars) l c (leb-true 1 (var_of l) b.0, leb-true (var_of l) p.vars b.1) (vars_within p c a.1)

lemma_vars : (p : Instance) (l : Lemma) (x : Atom) → IsTrue (justifies_by p x l) → IsTrue (names_vars p l.clause)
lemma_vars p l x h = (and_parts (names_vars p l.clause) (is_shown (graph_at p x.graph) x l) h).0

-- of one step
pub step_vars : (p : Instance) (earlier : List (List ℤ)) (s : Step) → IsTrue (is_justified_step p earlier s) → IsTrue (names_vars p (clause_of s))
step_vars p earlier (step.Lemma l) h = (elim (numbered p.atoms l.atom) as (λ o. IsTrue (elim o [ None ↦ false | Some x ↦ justifies_by p x l ]) → IsTrue (names_vars p l.clause)) [
  | None ↦ λ no. absurd cc
  | Some x ↦ λ yes. lemma_vars p l x yes
]) h
step_vars p earlier (step.Chain d) h =
    let a = and_parts (names_vars p d.clause && names_clauses earlier d.used) (covers d.clause (chain_end (clauses_named earlier d.used))) h in
    (and_parts (names_vars p d.clause) (names_clauses earlier d.used) a.0).0

-- of each of several steps
pub vars_after : (p : Instance) (earlier : List (List ℤ)) (ss : List Step) (k : ℕ) (s : Step) → IsTrue (are_justified_after p earlier ss) → slice_get ss k ≡ Some s → IsTrue (names_vars p (clause_of s))
vars_after p earlier [] k s h at = absurd cc
vars_after p earlier (r ∷ ss) zero s h at =
    let a = and_parts (is_justified_step p earlier r) (are_justified_after p (earlier ++ clause_of r ∷ []) ss) h in
    subst (λ (t : Step). IsTrue (names_vars p (clause_of t))) (same_Some r s at) (step_vars p earlier r a.0)
vars_after p earlier (r ∷ ss) (suc k) s h at =
    let a = and_parts (is_justified_step p earlier r) (are_justified_after p (earlier ++ clause_of r ∷ []) ss) h in
    vars_after p (earlier ++ clause_of r ∷ []) ss k s a.1 at
