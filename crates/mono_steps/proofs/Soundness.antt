-- The clause of a justified chain is true wherever every clause before it is.
use Rattle.std.proofs.Common.{◌≡◌, ℕ, suc, zero, Bool, ◌&&◌, List, [], ◌∷◌, Option, Some, None, refl, subst, ℤ}
use Rattle.std.specs.Prelude.{IsTrue, slice_get}
use Rattle.std.specs.List.{cons_option}
use Rattle.std.proofs.lemmas.Bool.{and_parts, and_from}
use Rattle.mono_base.specs.Literal.{clause_true, all_true}
use Rattle.mono_base.proofs.Truth.{wider}
use Rattle.mono_problem.specs.Instance.{Instance, numbered}
use Rattle.mono_steps.specs.declared.step.Chain.{Chain}
use Rattle.mono_steps.specs.Chains.{chain_end}
use Rattle.mono_steps.specs.ChainSteps.{covers, clauses_named, names_vars, names_clauses, is_justified_chain}
use Rattle.mono_steps.proofs.Sets.{within-has}
use Rattle.mono_steps.proofs.Resolution.{HoldsOf, chain_end_true}

covers_true : (a : ℕ → Bool) (c : List ℤ) (o : Option (List ℤ)) → HoldsOf (λ (e : List ℤ). IsTrue (clause_true a e)) o → IsTrue (covers c o) → IsTrue (clause_true a c)
covers_true a c None h w = absurd cc
covers_true a c (Some e) h w = wider a e c (λ l. within-has e c l w) (h.of e refl)

item_true : (a : ℕ → Bool) (cs : List (List ℤ)) (k : ℕ) (x : List ℤ) → IsTrue (all_true a cs) → slice_get cs k ≡ Some x → IsTrue (clause_true a x)
item_true a [] k x h e = absurd cc
item_true a (c ∷ cs) zero x h e = let p = and_parts (clause_true a c) (all_true a cs) h in let same : c ≡ x = cc in subst (λ (y : List ℤ). IsTrue (clause_true a y)) same p.0
item_true a (c ∷ cs) (suc k) x h e = item_true a cs k x (and_parts (clause_true a c) (all_true a cs) h).1 e

numbered_true : (a : ℕ → Bool) (cs : List (List ℤ)) (n : ℕ) (x : List ℤ) → IsTrue (all_true a cs) → numbered cs n ≡ Some x → IsTrue (clause_true a x)
numbered_true a cs zero x h e = absurd cc
numbered_true a cs (suc k) x h e = item_true a cs k x h e

named_true : (a : ℕ → Bool) (earlier : List (List ℤ)) (ns : List ℕ) → IsTrue (all_true a earlier) → IsTrue (all_true a (clauses_named earlier ns))
named_true a earlier [] h = refl
named_true a earlier (n ∷ ns) h = by_item (numbered earlier n) (λ x e. numbered_true a earlier n x h e) (named_true a earlier ns h)
  where
    by_item : (o : Option (List ℤ)) → ((x : List ℤ) → o ≡ Some x → IsTrue (clause_true a x)) → IsTrue (all_true a (clauses_named earlier ns)) → IsTrue (all_true a (cons_option o (clauses_named earlier ns)))
    by_item None each rest = rest
    by_item (Some x) each rest = and_from (clause_true a x) (all_true a (clauses_named earlier ns)) (each x refl) rest

pub chain_true : (p : Instance) (a : ℕ → Bool) (earlier : List (List ℤ)) (c : Chain) → IsTrue (all_true a earlier) → IsTrue (is_justified_chain p earlier c) → IsTrue (clause_true a c.clause)
chain_true p a earlier c h j =
    let b = and_parts (names_vars p c.clause && names_clauses earlier c.used) (covers c.clause (chain_end (clauses_named earlier c.used))) j in
    covers_true a c.clause (chain_end (clauses_named earlier c.used)) (chain_end_true a (clauses_named earlier c.used) (named_true a earlier c.used h)) b.1
