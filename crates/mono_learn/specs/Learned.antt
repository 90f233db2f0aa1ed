-- What a conflict teaches.
use Rattle.std.specs.Prelude.{◌≡◌, ◌≢◌, ℕ, zero, ◌<◌, ◌≤◌, ◌⊎◌, false, ℤ, neg_ℤ, List, [], ◌∷◌, ◌++◌, length, Some, IsTrue}
use Rattle.mono_base.specs.Literal.{has_lit, within, without, lit_at}
use Rattle.mono_problem.specs.Instance.{Instance, numbered}
use Rattle.mono_steps.specs.declared.lemma.Lemma.{Lemma}
use Rattle.mono_steps.specs.declared.step.Step.{Step}
use Rattle.mono_steps.specs.declared.step.Step.TheVariants as step
use Rattle.mono_steps.specs.Steps.{clauses_after}
use Rattle.mono_trail.specs.declared.reason.Reason.TheVariants.{Clause}
use Rattle.mono_trail.specs.Places.{level_at, reason_at}
use Rattle.mono_trail.specs.TrailView.{TrailView, StandsAt}
use Rattle.mono_steps.specs.Journals.{lemma_steps}
use Rattle.mono_steps.specs.New.{IsExactEnd}
use Rattle.mono_learn.specs.declared.learn.Learnt.{Learnt}

-- the clause is false, and has one literal of the present level; the level to go back to is the greatest one of the others, or 0
pub record IsLearnt (t : TrailView) (c : List ℤ) (back_to : ℕ) : Type 0 where
  pub lower : back_to < t.level
  pub lit : ℤ
  pub has : IsTrue (has_lit c lit)
  pub present : StandsAt t (neg_ℤ lit) t.level
  pub others : (l : ℤ) → IsTrue (has_lit c l) → l ≢ lit → (level : ℕ) × (level ≤ back_to) × StandsAt t (neg_ℤ l) level
  pub reached : (back_to ≡ zero) ⊎ ((l : ℤ) × IsTrue (has_lit c l) × (l ≢ lit) × StandsAt t (neg_ℤ l) back_to)

-- a literal of a level below the present one whose reason is a clause is there only where the others of that clause aren't all there
pub record IsMinimal (cs : List (List ℤ)) (t : TrailView) (c : List ℤ) : Type 0 where
  pub at : (k n : ℕ) (r : List ℤ) → k < length t.lits → level_at t.marks k < t.level → IsTrue (has_lit c (neg_ℤ (lit_at t.lits k)))
      → reason_at t.marks k ≡ Clause n → numbered cs n ≡ Some r → within (without r (lit_at t.lits k)) c ≡ false

-- lemmas that were asked for join the steps, and then the chain with the learned clause, which is exactly its end
pub record Learns (p : Instance) (t : TrailView) (old new : List Step) (r : Learnt) : Type 0 where
  pub lemmas : List Lemma
  pub used : List ℕ
  pub pushed : new ≡ (old ++ lemma_steps lemmas) ++ step.Chain (record { clause = r.clause; used = used }) ∷ []
  pub number : r.number ≡ length (clauses_after p new)
  pub exact : IsExactEnd (clauses_after p (old ++ lemma_steps lemmas)) (record { clause = r.clause; used = used })
  pub learnt : IsLearnt t r.clause r.back_to

-- lemmas that were asked for join the steps, and then a chain with the empty clause, whose number is n
pub record Refutes (p : Instance) (old new : List Step) (n : ℕ) : Type 0 where
  pub lemmas : List Lemma
  pub used : List ℕ
  pub pushed : new ≡ (old ++ lemma_steps lemmas) ++ step.Chain (record { clause = []; used = used }) ∷ []
  pub number : n ≡ length (clauses_after p new)
  pub exact : IsExactEnd (clauses_after p (old ++ lemma_steps lemmas)) (record { clause = []; used = used })
