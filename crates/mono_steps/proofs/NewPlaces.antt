-- New steps, place by place.
use Rattle.std.proofs.Common.{◌≡◌, zero, suc, not, ◌==◌, List, [], ◌∷◌, ◌++◌, length, map, take, Option, Some, refl, sym, ap, subst, ℕ, ℤ, append_assoc}
use Rattle.std.specs.Prelude.{IsTrue, slice_get, unwrap_or, ◌↔◌}
use Rattle.std.proofs.lemmas.Bool.{and_parts, and_from, not_from_false}
use Rattle.std.proofs.lemmas.List.{append-nil}
use Rattle.mono_problem.specs.Instance.{Instance}
use Rattle.mono_steps.specs.declared.step.Chain.{Chain}
use Rattle.mono_steps.specs.declared.step.Step.{Step}
use Rattle.mono_steps.specs.declared.step.Step.TheVariants as step
use Rattle.mono_steps.specs.Journals.{chain_clauses, has_no_empty}
use Rattle.mono_steps.specs.New.{IsNewChain, HasNewChainsAfter, AreNew}
use Rattle.mono_steps.specs.Steps.{clause_of, is_full_chain}
use Rattle.mono_steps.proofs.LeftOpen.{not_empty}

-- each chain is new after what stands before its place
abbrev pub AreNewByPlace : List (List ℤ) → List (List ℤ) → List Step → Type 0
AreNewByPlace all known ss = (k : ℕ) (c : Chain) → slice_get ss k ≡ Some (step.Chain c) → IsNewChain (all ++ map clause_of (take k ss)) (known ++ chain_clauses (take k ss)) c

-- being new where nothing stands before the place
before_none : (all known : List (List ℤ)) (c : Chain) → IsNewChain all known c → IsNewChain (all ++ []) (known ++ []) c
before_none all known c h = subst (λ (cs : List (List ℤ)). IsNewChain (all ++ []) cs c) (sym (append-nil known)) (subst (λ (cs : List (List ℤ)). IsNewChain cs known c) (sym (append-nil all)) h)

from_none : (all known : List (List ℤ)) (c : Chain) → IsNewChain (all ++ []) (known ++ []) c → IsNewChain all known c
from_none all known c h = subst (λ (cs : List (List ℤ)). IsNewChain all cs c) (append-nil known) (subst (λ (cs : List (List ℤ)). IsNewChain cs (known ++ []) c) (append-nil all) h)

same_chain : (c d : Chain) → Some (step.Chain c) ≡ Some (step.Chain d) → c ≡ d
same_chain c d e = ap (λ (o : Option Step). chain_in (unwrap_or o (step.Chain c))) e
  where
    chain_in : Step → Chain
    chain_in (step.Lemma l) = c
    chain_in (step.Chain x) = x

pub at_each_place : (all known : List (List ℤ)) (ss : List Step) → HasNewChainsAfter all known ss → IsTrue (has_no_empty ss) → AreNewByPlace all known ss
at_each_place all known [] h none k c e = absurd cc
at_each_place all known (step.Lemma l ∷ ss) h none zero c e = absurd cc
at_each_place all known (step.Lemma l ∷ ss) h none (suc k) c e =
    subst (λ (cs : List (List ℤ)). IsNewChain cs (known ++ chain_clauses (take k ss)) c) (append_assoc all (l.clause ∷ []) (map clause_of (take k ss))) (at_each_place (all ++ l.clause ∷ []) known ss h none k c e)
at_each_place all known (step.Chain d ∷ ss) h none zero c e =
    let a = and_parts (is_full_chain (step.Chain d)) (has_no_empty ss) none in
    subst (λ (x : Chain). IsNewChain (all ++ []) (known ++ []) x) (same_chain d c e) (before_none all known d (h.0 a.0))
at_each_place all known (step.Chain d ∷ ss) h none (suc k) c e =
    let a = and_parts (is_full_chain (step.Chain d)) (has_no_empty ss) none in
    subst (λ (cs : List (List ℤ)). IsNewChain (all ++ d.clause ∷ map clause_of (take k ss)) cs c) (append_assoc known (d.clause ∷ []) (chain_clauses (take k ss)))
    (subst (λ (cs : List (List ℤ)). IsNewChain cs ((known ++ d.clause ∷ []) ++ chain_clauses (take k ss)) c) (append_assoc all (d.clause ∷ []) (map clause_of (take k ss)))
    (at_each_place (all ++ d.clause ∷ []) (known ++ d.clause ∷ []) ss h.1 a.1 k c e))

pub from_each_place : (all known : List (List ℤ)) (ss : List Step) → AreNewByPlace all known ss → HasNewChainsAfter all known ss × IsTrue (has_no_empty ss)
from_each_place all known [] f = (tt, refl)
from_each_place all known (step.Lemma l ∷ ss) f = from_each_place (all ++ l.clause ∷ []) known ss (λ k c e.
    subst (λ (cs : List (List ℤ)). IsNewChain cs (known ++ chain_clauses (take k ss)) c) (sym (append_assoc all (l.clause ∷ []) (map clause_of (take k ss)))) (f (suc k) c e))
from_each_place all known (step.Chain d ∷ ss) f =
    let new : IsNewChain all known d = from_none all known d (f 0 d refl) in
    let rest = from_each_place (all ++ d.clause ∷ []) (known ++ d.clause ∷ []) ss (λ k c e.
    subst (λ (cs : List (List ℤ)). IsNewChain ((all ++ d.clause ∷ []) ++ map clause_of (take k ss)) cs c) (sym (append_assoc known (d.clause ∷ []) (chain_clauses (take k ss))))
    (subst (λ (cs : List (List ℤ)). IsNewChain cs (known ++ d.clause ∷ chain_clauses (take k ss)) c) (sym (append_assoc all (d.clause ∷ []) (map clause_of (take k ss)))) (f (suc k) c e))) in
    let full : IsTrue (not (length d.clause == 0)) = not_from_false (length d.clause == 0) (not_empty known d.clause new.new) in
    (((λ e. new), rest.0), and_from (is_full_chain (step.Chain d)) (has_no_empty ss) full rest.1)

pub new_by_place : (p : Instance) (ss : List Step) → AreNew p ss ↔ AreNewByPlace p.clauses p.clauses ss
new_by_place p ss = (λ h. at_each_place p.clauses p.clauses ss h.chains h.none_empty, λ f. let parts = from_each_place p.clauses p.clauses ss f in record { chains = parts.0; none_empty = parts.1 })
