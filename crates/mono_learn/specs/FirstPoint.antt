-- What the analysis of a conflict comes to: the clause of the first unique implication point, without its redundant literals.
use Rattle.std.specs.Prelude.{◌≡◌, ◌≢◌, ℕ, ◌+◌, ◌<◌, false, ℤ, neg_ℤ, List, [], ◌∷◌, ◌++◌, length, Some, IsTrue}
use Rattle.mono_base.specs.Literal.{has_lit, within, without, lit_at}
use Rattle.mono_problem.specs.Instance.{numbered}
use Rattle.mono_steps.specs.Chains.{chain_end, resolvent}
use Rattle.mono_steps.specs.ChainSteps.{clauses_named}
use Rattle.mono_trail.specs.declared.reason.Reason.TheVariants.{Clause}
use Rattle.mono_trail.specs.Places.{level_at, reason_at}
use Rattle.mono_trail.specs.TrailView.{TrailView, StandsAt}
use Rattle.mono_learn.specs.Levels.{level_by}
use Rattle.mono_learn.specs.Resolvents.{AllFalse}

-- ---- the first unique implication point

-- the clause has two literals of the present level
pub record HasTwoPresent (t : TrailView) (c : List ℤ) : Type 0 where
  pub one : ℤ
  pub other : ℤ
  pub differ : one ≢ other
  pub has_one : IsTrue (has_lit c one)
  pub has_other : IsTrue (has_lit c other)
  pub at_one : StandsAt t (neg_ℤ one) t.level
  pub at_other : StandsAt t (neg_ℤ other) t.level

-- the clause has one literal of the present level, and its others are of lower ones
pub record HasOnePresent (t : TrailView) (c : List ℤ) : Type 0 where
  pub lit : ℤ
  pub has : IsTrue (has_lit c lit)
  pub present : StandsAt t (neg_ℤ lit) t.level
  pub others : (l : ℤ) → IsTrue (has_lit c l) → l ≢ lit → level_by t l < t.level

-- the clause c has two literals of the present level; the clause n is the reason of that literal whose variable stands last on
-- the trail, and resolving with it leads to the clause e
pub record StepsBack (cs : List (List ℤ)) (t : TrailView) (c : List ℤ) (n : ℕ) (e : List ℤ) : Type 0 where
  pub two : HasTwoPresent t c
  pub place : ℕ
  pub on_trail : place < length t.lits
  pub has : IsTrue (has_lit c (neg_ℤ (lit_at t.lits place)))
  pub last : AllFalse t.lits (place + 1) c
  pub why : reason_at t.marks place ≡ Clause n
  pub reason : List ℤ
  pub is : numbered cs n ≡ Some reason
  pub resolved : resolvent c reason ≡ Some e

-- steps back with these reasons, one after another, lead from the clause c to the clause e
abbrev pub ResolvesBack : List (List ℤ) → TrailView → List ℤ → List ℕ → List ℤ → Type 0
ResolvesBack cs t c [] e = e ≡ c
ResolvesBack cs t c (n ∷ ns) e = (d : List ℤ) × StepsBack cs t c n d × ResolvesBack cs t d ns e

-- steps back lead from the clause of that number to the clause e
pub record LeadsTo (cs : List (List ℤ)) (t : TrailView) (conflict : ℕ) (e : List ℤ) : Type 0 where
  pub clause : List ℤ
  pub is : numbered cs conflict ≡ Some clause
  pub reasons : List ℕ
  pub resolutions : ResolvesBack cs t clause reasons e

-- the chain's end is what steps back from the conflict lead to
pub record HasResolved (cs : List (List ℤ)) (t : TrailView) (conflict : ℕ) (used : List ℕ) : Type 0 where
  pub at : (e : List ℤ) → chain_end (clauses_named cs used) ≡ Some e → LeadsTo cs t conflict e

-- the chain goes on with the reason of the literal at the place
pub record GoesOnWith (cs : List (List ℤ)) (t : TrailView) (place : ℕ) (old new : List ℕ) : Type 0 where
  pub number : ℕ
  pub pushed : new ≡ old ++ number ∷ []
  pub why : reason_at t.marks place ≡ Clause number
  pub reason : List ℤ
  pub is : numbered cs number ≡ Some reason

-- ---- local minimization

-- the literal at the place is of a level below the present one, its reason is a clause, and the others of that are all in the
-- clause c
pub record IsRedundant (cs : List (List ℤ)) (t : TrailView) (c : List ℤ) (k : ℕ) : Type 0 where
  pub lower : level_at t.marks k < t.level
  pub number : ℕ
  pub why : reason_at t.marks k ≡ Clause number
  pub reason : List ℤ
  pub is : numbered cs number ≡ Some reason
  pub others : IsTrue (within (without reason (lit_at t.lits k)) c)

-- d is the false clause c without its redundant literals: none of them stays, and no other goes
pub record IsMinimized (cs : List (List ℤ)) (t : TrailView) (c d : List ℤ) : Type 0 where
  pub part : IsTrue (within d c)
  pub stays : (k : ℕ) → k < length t.lits → IsTrue (has_lit d (neg_ℤ (lit_at t.lits k))) → IsRedundant cs t c k → ⊥
  pub goes : (k : ℕ) → k < length t.lits → IsTrue (has_lit c (neg_ℤ (lit_at t.lits k))) → has_lit d (neg_ℤ (lit_at t.lits k)) ≡ false
      → IsRedundant cs t c k

-- the clause is what the conflict teaches: that of the first unique implication point, without its redundant literals
pub record IsTaught (cs : List (List ℤ)) (t : TrailView) (conflict : ℕ) (c : List ℤ) : Type 0 where
  pub whole : List ℤ
  pub leads : LeadsTo cs t conflict whole
  pub point : HasOnePresent t whole
  pub minimized : IsMinimized cs t whole c
