-- Parts of the worked rows of new clauses.
use Rattle.std.proofs.Common.{◌≡◌, Bool, true, false, ◌||◌, List, [], ◌∷◌, refl, ℤ, pos, Some}
use Rattle.std.specs.Prelude.{IsTrue}
use Rattle.std.specs.Ordering.{int_eq}
use Rattle.mono_base.specs.Partial.{unit_quiet}
use Rattle.mono_problem.specs.Instance.{Instance}
use Rattle.mono_steps.specs.Chains.{chain_end}
use Rattle.mono_steps.specs.ChainSteps.{names_clauses, clauses_named}
use Rattle.mono_steps.specs.New.{IsExactEnd, IsNewClause, AreNew}
use Rattle.mono_steps.specs.WorkedLemmas.{chain}

-- {1} is the end of a chain over the first two clauses that ends in 1 twice
pub one_is_end : (all : List (List ℤ)) → IsTrue (names_clauses all (1 ∷ 2 ∷ [])) → chain_end (clauses_named all (1 ∷ 2 ∷ [])) ≡ Some (pos 1 ∷ pos 1 ∷ []) → IsExactEnd all (record { clause = pos 1 ∷ []; used = 1 ∷ 2 ∷ [] })
one_is_end all named is = record { named = named; end = pos 1 ∷ pos 1 ∷ []; is_end = is; same = λ l. twice (int_eq l (pos 1)) }
  where
    twice : (b : Bool) → (b || false) ≡ (b || (b || false))
    twice true = refl
    twice false = refl

-- and new where unit propagation has nothing to do before anything is assumed
pub one_is_left_open : (known : List (List ℤ)) → IsTrue (unit_quiet known []) → IsNewClause known (pos 1 ∷ [])
one_is_left_open known quiet = record { under = []; partial = refl; quiet = quiet; lit = pos 1; is_literal = refl; has = refl; is_open = refl; others = refl }

-- so the chain is new behind the clauses of such a problem
pub one_is_new : (p : Instance) → IsTrue (names_clauses p.clauses (1 ∷ 2 ∷ [])) → chain_end (clauses_named p.clauses (1 ∷ 2 ∷ [])) ≡ Some (pos 1 ∷ pos 1 ∷ []) → IsTrue (unit_quiet p.clauses []) → AreNew p (chain (pos 1 ∷ []) (1 ∷ 2 ∷ []) ∷ [])
one_is_new p named is quiet = record {
  chains = ((λ full. record { exact = one_is_end p.clauses named is; new = one_is_left_open p.clauses quiet }), tt);
  none_empty = refl;
}
