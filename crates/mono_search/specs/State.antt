-- What a search keeps while it goes on.
use Rattle.std.specs.Prelude.{◌≡◌, ℕ, ◌+◌, ◌-◌, ◌*◌, ◌<◌, ◌≤◌, ℤ, List, length, take, Some, All, IsTrue}
use Rattle.mono_base.specs.Literal.{lit_at}
use Rattle.mono_base.specs.Partial.{is_false_clause, is_partial, unit_quiet}
use Rattle.mono_problem.specs.Instance.{Instance, numbered}
use Rattle.mono_steps.specs.declared.step.Step.{Step}
use Rattle.mono_steps.specs.Steps.{are_justified, clauses_after}
use Rattle.mono_steps.specs.Journals.{known_clauses, has_no_empty, chain_count}
use Rattle.mono_steps.specs.New.{HasNewChains}
use Rattle.mono_trail.specs.declared.reason.Mark.{Mark}
use Rattle.mono_trail.specs.declared.reason.Reason.{Reason}
use Rattle.mono_trail.specs.declared.reason.Reason.TheVariants.{Decided, Clause, Late}
use Rattle.mono_trail.specs.TrailView.{TrailView, IsSoundTrail}
use Rattle.mono_trail.specs.Places.{reason_at}
use Rattle.mono_trail.specs.Order.{OrderView, AllOpenWait}
use Rattle.mono_clauses.specs.Store.{Held, StoreView, Follows, FollowsBelow, lists_of}
use Rattle.mono_learn.specs.Explain.{AtomForces}
use Rattle.mono_learn.specs.Reasons.{WasUnit, IsFalseClause, IsConflict}
use Rattle.mono_search.specs.TheoryLists.{shown_of}
use Rattle.mono_search.specs.Theories.{TheoriesView, HaveSeen, AtomsQuiet}

-- ---- reasons

-- the atom forced the literal at the place, by the first `kept` literals that its theory had seen before it
pub record WasLate (b : TheoriesView) (t : List ℤ) (k atom kept : ℕ) : Type 0 where
  pub handed : k ≤ b.handed
  pub some : kept ≤ length (shown_of b.facts (take k t) atom)
  pub forces : AtomForces b.problem (take kept (shown_of b.facts (take k t) atom)) atom (lit_at t k)

abbrev pub KeepsReason : TheoriesView → List (List ℤ) → List ℤ → ℕ → Reason → Type 0
KeepsReason b cs t k Decided = Unit {0}
KeepsReason b cs t k (Clause n) = WasUnit cs t k n
KeepsReason b cs t k (Late atom kept) = WasLate b t k atom kept

-- each implied literal keeps its reason
pub record KeepsReasons (b : TheoriesView) (cs : List (List ℤ)) (lits : List ℤ) (marks : List Mark) : Type 0 where
  pub at : (k : ℕ) → k < length lits → KeepsReason b cs lits k (reason_at marks k)

-- ---- quiet below each decision

-- under the literals neither the clauses nor the atoms have anything to do
pub record QuietAt (p : Instance) (cs : List (List ℤ)) (t : List ℤ) : Type 0 where
  pub units : IsTrue (unit_quiet cs t)
  pub atoms : AtomsQuiet p t

-- neither the clauses nor the atoms have anything to do under the literals before each decision
pub record QuietBelow (p : Instance) (cs : List (List ℤ)) (lits : List ℤ) (marks : List Mark) : Type 0 where
  pub at : (k : ℕ) → k < length lits → reason_at marks k ≡ Decided → QuietAt p cs (take k lits)

-- ---- the journal

-- the steps are justified, and each chain but one with the empty clause is new
pub record IsJournal (p : Instance) (steps : List Step) : Type 0 where
  pub justified : IsTrue (are_justified p steps)
  pub fresh : HasNewChains p steps

-- such a journal in which no chain has the empty clause yet
pub record IsOpenJournal (p : Instance) (steps : List Step) : Type 0 where
  pub journal : IsJournal p steps
  pub none_empty : IsTrue (has_no_empty steps)

-- ---- the state

pub record StateView : Type 0 where
  pub theories : TheoriesView
  pub trail : TrailView
  pub store : StoreView
  pub steps : List Step
  pub order : OrderView

-- the clause is the one of its number
abbrev pub IsNamed : List (List ℤ) → Held → Type 0
IsNamed cs h = numbered cs h.number ≡ Some h.lits

-- The store holds the problem's clauses, the learned ones and those of so many lemmas, by their numbers. Where all that it holds
-- are quiet, the problem's and the learned ones are; where these and the atoms are quiet, none that it holds is false.
pub record HoldsKnown (p : Instance) (steps : List Step) (given : ℕ) (s : StoreView) : Type 0 where
  pub vars : s.vars ≡ p.vars
  pub named : All (IsNamed (clauses_after p steps)) s.clauses
  pub count : length s.clauses ≡ (length p.clauses + chain_count steps) + given
  pub units : (t : List ℤ) → IsTrue (unit_quiet (lists_of s.clauses) t) → IsTrue (unit_quiet (known_clauses p steps) t)
  pub none_false : (t : List ℤ) → IsTrue (is_partial t) → QuietAt p (known_clauses p steps) t → All (λ h. IsTrue (is_false_clause t h.lits) → ⊥) s.clauses

-- what stands on the trail stands there for a reason, and decisions were made where all was quiet
pub record IsSupported (b : TheoriesView) (t : TrailView) (steps : List Step) : Type 0 where
  pub vars : t.vars ≡ b.problem.vars
  pub sound : IsSoundTrail t
  pub shown : HaveSeen b t.lits
  pub reasons : KeepsReasons b (clauses_after b.problem steps) t.lits t.marks
  pub below : QuietBelow b.problem (known_clauses b.problem steps) t.lits t.marks

-- every open variable stands in the order
pub record OrderHasOpen (p : Instance) (o : OrderView) (t : TrailView) : Type 0 where
  pub vars : length o.waits ≡ p.vars
  pub wait : AllOpenWait o t.lits

-- all but how the store follows the trail
pub record IsConsistent (v : StateView) : Type 0 where
  pub journal : IsOpenJournal v.theories.problem v.steps
  pub held : HoldsKnown v.theories.problem v.steps v.theories.given v.store
  pub trail : IsSupported v.theories v.trail v.steps
  pub order : OrderHasOpen v.theories.problem v.order v.trail

-- propagation may begin
pub record IsReady (v : StateView) : Type 0 where
  pub whole : IsConsistent v
  pub follows : Follows v.store v.trail

-- the clause of the number n is false, and has a literal of the present level if that isn't 0
pub record IsInConflict (v : StateView) (n : ℕ) : Type 0 where
  pub whole : IsConsistent v
  pub follows : FollowsBelow v.store v.trail
  pub is_false : IsFalseClause (clauses_after v.theories.problem v.steps) v.trail.lits n
  pub present : 1 ≤ v.trail.level → IsConflict (clauses_after v.theories.problem v.steps) v.trail n

-- what is left to do within a budget: clauses to learn, and then open variables
abbrev pub work_left : ℕ → StateView → ℕ
work_left budget v = (budget - chain_count v.steps) * (v.trail.vars + 1) + (v.trail.vars - length v.trail.lits)
