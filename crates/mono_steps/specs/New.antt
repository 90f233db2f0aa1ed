-- New learned clauses: each is exactly the end of its chain, and unit propagation over the clauses known before doesn't give
-- it. `all` are all clauses before a step, numbered from 1; `known` are those of the problem and of the chains before, without
-- those of lemmas.
use Rattle.std.specs.Prelude.{◌≡◌, ℕ, ◌<◌, ◌^◌, Bool, ℤ, List, [], ◌∷◌, ◌++◌, length, Some, IsTrue}
use Rattle.std.specs.List.{list_any}
use Rattle.mono_base.specs.Literal.{is_lit, has_lit, within}
use Rattle.mono_base.specs.Partial.{is_partial, is_open_in, others_false, unit_quiet}
use Rattle.mono_problem.specs.Instance.{Instance}
use Rattle.mono_steps.specs.declared.step.Chain.{Chain}
use Rattle.mono_steps.specs.declared.step.Step.{Step}
use Rattle.mono_steps.specs.declared.step.Step.TheVariants as step
use Rattle.mono_steps.specs.Chains.{chain_end}
use Rattle.mono_steps.specs.ChainSteps.{names_clauses, clauses_named}
use Rattle.mono_steps.specs.Current.{IsSetOf}
use Rattle.mono_steps.specs.Journals.{chain_count, has_no_empty}
use Rattle.mono_steps.specs.Steps.{are_justified, is_full_chain}

-- the chain names clauses that are there, and its clause is exactly its end
pub record IsExactEnd (all : List (List ℤ)) (c : Chain) : Type 0 where
  pub named : IsTrue (names_clauses all c.used)
  pub end : List ℤ
  pub is_end : chain_end (clauses_named all c.used) ≡ Some end
  pub same : IsSetOf c.clause end

-- under a partial assignment that leaves unit propagation nothing to do, one literal of the clause is open and the others are false
pub record IsNewClause (known : List (List ℤ)) (c : List ℤ) : Type 0 where
  pub under : List ℤ
  pub partial : IsTrue (is_partial under)
  pub quiet : IsTrue (unit_quiet known under)
  pub lit : ℤ
  pub is_literal : IsTrue (is_lit lit)
  pub has : IsTrue (has_lit c lit)
  pub is_open : IsTrue (is_open_in under lit)
  pub others : IsTrue (others_false under c lit)

pub record IsNewChain (all known : List (List ℤ)) (c : Chain) : Type 0 where
  pub exact : IsExactEnd all c
  pub new : IsNewClause known c.clause

-- each chain whose clause isn't empty is new after the clauses and the steps before it
abbrev pub HasNewChainsAfter : List (List ℤ) → List (List ℤ) → List Step → Type 0
HasNewChainsAfter all known [] = Unit {0}
HasNewChainsAfter all known (step.Lemma l ∷ ss) = HasNewChainsAfter (all ++ l.clause ∷ []) known ss
HasNewChainsAfter all known (step.Chain c ∷ ss) = (IsTrue (is_full_chain (step.Chain c)) → IsNewChain all known c)
    × HasNewChainsAfter (all ++ c.clause ∷ []) (known ++ c.clause ∷ []) ss

abbrev pub HasNewChains : Instance → List Step → Type 0
HasNewChains p steps = HasNewChainsAfter p.clauses p.clauses steps

-- each chain is new, and so none has the empty clause
pub record AreNew (p : Instance) (steps : List Step) : Type 0 where
  pub chains : HasNewChains p steps
  pub none_empty : IsTrue (has_no_empty steps)

-- justified steps with as many learned clauses as the budget says, each of them new and none empty. There are fewer than 3^V
-- such clauses, so a greater budget is never spent. The steps are no more than a list in memory has
pub record IsProgress (p : Instance) (budget : ℕ) (steps : List Step) : Type 0 where
  pub justified : IsTrue (are_justified p steps)
  pub new : AreNew p steps
  pub chains : chain_count steps ≡ budget
  pub few : budget < 3 ^ p.vars
  pub short : length steps < 2 ^ 63

-- the clause contains one of these
abbrev pub contains_one : List (List ℤ) → List ℤ → Bool
contains_one ds c = list_any (λ d. within d c) ds
