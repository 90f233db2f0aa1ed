-- What the calls of a state answer, and leave.
use Rattle.std.specs.Prelude.{◌≡◌, ℕ, ◌+◌, ◌-◌, ◌<◌, ◌≤◌, Bool, false, max, ℤ, pos, int_lt, if◌then◌else◌, List, [], ◌∷◌, length, drop, replicate, slice_set, Option, Some, None, IsTrue, All}
use Rattle.mono_base.specs.Literal.{value_in, has_lit, var_of, IsLitWithin}
use Rattle.mono_base.specs.Partial.{is_true_in, is_open_in, others_false, unit_quiet}
use Rattle.mono_problem.specs.Instance.{Instance}
use Rattle.mono_steps.specs.Journals.{known_clauses, chain_count}
use Rattle.mono_steps.specs.Steps.{clauses_after}
use Rattle.mono_steps.specs.Switching.{literal_of}
use Rattle.mono_steps.specs.Witnesses.{justifies}
use Rattle.mono_theory.specs.declared.theory.UnitLemma.{UnitLemma}
use Rattle.mono_trail.specs.declared.reason.Reason.TheVariants.{Decided}
use Rattle.mono_trail.specs.TrailView.{TrailView, IsSoundTrail, count_to}
use Rattle.mono_trail.specs.Moves.{joined, lowered}
use Rattle.mono_trail.specs.Order.{OrderView, NoneOpen}
use Rattle.mono_clauses.specs.Store.{StoreView, Follows}
use Rattle.mono_clauses.specs.declared.found.Found.{Found}
use Rattle.mono_clauses.specs.declared.found.Found.TheVariants as found
use Rattle.mono_learn.specs.Explain.{AtomForces}
use Rattle.mono_learn.specs.declared.learn.Learnt.{Learnt}
use Rattle.mono_learn.specs.Learned.{Learns}
use Rattle.mono_learn.specs.Settled.{Settles}
use Rattle.mono_search.specs.Restarts.{Counted, Counts}
use Rattle.mono_search.specs.Stored.{inputs_from}
use Rattle.mono_search.specs.TheoryLists.{shown_of}
use Rattle.mono_search.specs.declared.theories.Forced.{Forced}
use Rattle.mono_search.specs.State.{StateView, IsReady, IsInConflict, IsJournal, QuietAt, work_left}
use Rattle.mono_search.specs.Outcomes.{EndsAs, empty_chains, is_unknown}
use Rattle.mono_search.specs.declared.propagation.Propagated.{Propagated}
use Rattle.mono_search.specs.declared.propagation.Propagated.TheVariants as propagated
use Rattle.mono_search.specs.declared.search.Outcome.{Outcome}

-- ---- the beginning

pub record HoldsInputs (p : Instance) (t : TrailView) (s : StoreView) : Type 0 where
  pub vars : s.vars ≡ p.vars
  pub clauses : s.clauses ≡ inputs_from 0 p.clauses
  pub follows : Follows s t

pub record BeginsWith (p : Instance) (v : StateView) : Type 0 where
  pub ready : IsReady v
  pub problem : v.theories.problem ≡ p
  pub steps : v.steps ≡ []
  pub signs : v.order.phases ≡ replicate p.vars false

-- ---- propagation by the clauses

-- no fewer literals stand on the trail
pub record HasGrown (v w : StateView) : Type 0 where
  pub vars : w.trail.vars ≡ v.trail.vars
  pub problem : w.theories.problem ≡ v.theories.problem
  pub steps : w.steps ≡ v.steps
  pub more : length v.trail.lits ≤ length w.trail.lits

pub record ClausesQuiet (v w : StateView) : Type 0 where
  pub grown : HasGrown v w
  pub ready : IsReady w
  pub units : IsTrue (unit_quiet (known_clauses w.theories.problem w.steps) w.trail.lits)
  pub all_given : w.trail.given ≡ length w.trail.lits

pub record ClauseFalse (v w : StateView) (n : ℕ) : Type 0 where
  pub grown : HasGrown v w
  pub conflict : IsInConflict w n

abbrev pub ClausesPropagatedAs : StateView → StateView → Found → Type 0
ClausesPropagatedAs v w found.Quiet = ClausesQuiet v w
ClausesPropagatedAs v w (found.False n) = ClauseFalse v w n

-- ---- propagation by the theories too

-- an atom forces a literal that isn't true, by all literals of the trail, which were handed on
pub record CanImply (v : StateView) (f : Forced) : Type 0 where
  pub handed : v.theories.handed ≡ length v.trail.lits
  pub kept : f.kept ≡ length (shown_of v.theories.facts v.trail.lits f.atom)
  pub forces : AtomForces v.theories.problem (shown_of v.theories.facts v.trail.lits f.atom) f.atom f.lit
  pub not_yet : is_true_in v.trail.lits f.lit ≡ false
  pub within : IsLitWithin v.trail.vars f.lit

-- the lemma is justified, and unit under the literals of the trail
pub record IsUnitNow (v : StateView) (u : UnitLemma) : Type 0 where
  pub justified : IsTrue (justifies v.theories.problem u.lemma)
  pub within : All (IsLitWithin v.trail.vars) u.lemma.clause
  pub has : IsTrue (has_lit u.lemma.clause u.lit)
  pub is_open : IsTrue (is_open_in v.trail.lits u.lit)
  pub others : IsTrue (others_false v.trail.lits u.lemma.clause u.lit)

-- neither the clauses nor the theories have anything to do
pub record IsQuietState (w : StateView) : Type 0 where
  pub ready : IsReady w
  pub quiet : QuietAt w.theories.problem (known_clauses w.theories.problem w.steps) w.trail.lits
  pub all_given : w.trail.given ≡ length w.trail.lits

-- more literals stand on the trail
pub record HasAdvanced (v w : StateView) : Type 0 where
  pub ready : IsReady w
  pub vars : w.trail.vars ≡ v.trail.vars
  pub more : length v.trail.lits < length w.trail.lits

pub record IsQuietAfter (v w : StateView) : Type 0 where
  pub quiet : IsQuietState w
  pub vars : w.trail.vars ≡ v.trail.vars
  pub more : length v.trail.lits ≤ length w.trail.lits

pub record IsInConflictAfter (v w : StateView) (n : ℕ) : Type 0 where
  pub conflict : IsInConflict w n
  pub vars : w.trail.vars ≡ v.trail.vars

abbrev pub PropagatedAs : StateView → StateView → Propagated → Type 0
PropagatedAs v w propagated.Quiet = IsQuietAfter v w
PropagatedAs v w propagated.Implied = HasAdvanced v w
PropagatedAs v w (propagated.Conflict n) = IsInConflictAfter v w n

-- ---- a decision

-- a literal of an open variable is decided: the variable itself, where the sign saved for it is true. Where that isn't, it is so only
-- where there are theories, which may want or prefer it
pub record DecidesBySign (v w : StateView) : Type 0 where
  pub var : ℕ
  pub sign : Bool
  pub is_open : IsTrue (is_open_in v.trail.lits (pos var))
  pub saved_sign : IsTrue (value_in v.order.phases var) → IsTrue sign
  pub by_theory : IsTrue sign → value_in v.order.phases var ≡ false → 0 < length v.theories.facts
  pub decided : w.trail ≡ joined v.trail (literal_of sign var) Decided
  pub phases : w.order.phases ≡ v.order.phases

-- every variable has a value, and nothing is left to do
pub record IsComplete (v : StateView) : Type 0 where
  pub journal : IsJournal v.theories.problem v.steps
  pub vars : v.trail.vars ≡ v.theories.problem.vars
  pub sound : IsSoundTrail v.trail
  pub quiet : QuietAt v.theories.problem (known_clauses v.theories.problem v.steps) v.trail.lits
  pub none : NoneOpen v.trail.vars v.trail.lits

-- ---- a conflict

-- the saved signs, once those of the literals are saved, one after the other
abbrev pub saved : List Bool → List ℤ → List Bool
saved phases [] = phases
saved phases (l ∷ ls) = saved (slice_set phases (var_of l - 1) (int_lt (pos 0) l)) ls

-- the variables of the literals stand in the order, and so do those that did before; the signs of the literals are saved
pub record Releases (o r : OrderView) (lits : List ℤ) : Type 0 where
  pub as_many : length r.waits ≡ length o.waits
  pub stay : (v : ℕ) → IsTrue (value_in o.waits v) → IsTrue (value_in r.waits v)
  pub back : (l : ℤ) → IsTrue (has_lit lits l) → IsTrue (value_in r.waits (var_of l))
  pub phases : r.phases ≡ saved o.phases lits

-- a clause was learned, and the search went back: to the level at which the clause is unit, or to the beginning where it restarts.
-- What was dropped from the trail stands in the order again
pub record GoesBack (v w : StateView) (restarts : Bool) : Type 0 where
  pub learnt : Learnt
  pub learns : Learns v.theories.problem v.trail v.steps w.steps learnt
  pub settled : TrailView
  pub settles : Settles (clauses_after v.theories.problem w.steps) v.trail settled
  pub trail : w.trail ≡ lowered (if restarts then 0 else learnt.back_to) settled
  pub order : Releases v.order w.order (drop (count_to (if restarts then 0 else learnt.back_to) settled.marks) settled.lits)

-- where the search restarts, signs may have been saved besides; nothing else has changed
pub record TurnsSigns (restarts : Bool) (v w : StateView) : Type 0 where
  pub signs : List Bool
  pub turned : w ≡ record v { order = record v.order { phases = signs } }
  pub as_before : restarts ≡ false → signs ≡ v.order.phases

-- the search went back after one clause more, and counted it: whether it restarts is as the counts say
pub record CountsAndGoesBack (m n : Counted) (v w : StateView) : Type 0 where
  pub restarts : Bool
  pub counts : Counts m n restarts
  pub gone : StateView
  pub back : GoesBack v gone restarts
  pub turned : TurnsSigns restarts gone w

-- one clause more was learned, within the budget
pub record HasLearned (budget : ℕ) (v w : StateView) : Type 0 where
  pub ready : IsReady w
  pub vars : w.trail.vars ≡ v.trail.vars
  pub under : chain_count v.steps < budget
  pub chains : chain_count w.steps ≡ chain_count v.steps + 1

-- the run ends within the budget. After Unknown it may go on
pub record IsEnd (budget : ℕ) (v w : StateView) (o : Outcome) : Type 0 where
  pub ends : EndsAs budget (chain_count v.steps) w.theories.problem w.steps o
  pub within : chain_count w.steps ≤ max budget (chain_count v.steps) + empty_chains o
  pub ready : IsTrue (is_unknown o) → IsReady w

abbrev pub ResolvedAs : ℕ → StateView → StateView → Option Outcome → Type 0
ResolvedAs budget v w None = HasLearned budget v w
ResolvedAs budget v w (Some o) = IsEnd budget v w o

-- ---- a step

-- the run goes on, with less to do
pub record Continues (budget : ℕ) (v w : StateView) : Type 0 where
  pub ready : IsReady w
  pub chains : chain_count w.steps ≤ max budget (chain_count v.steps)
  pub no_fewer : chain_count v.steps ≤ chain_count w.steps
  pub less : work_left budget w < work_left budget v

abbrev pub SteppedAs : ℕ → StateView → StateView → Option Outcome → Type 0
SteppedAs budget v w None = Continues budget v w
SteppedAs budget v w (Some o) = IsEnd budget v w o
