-- What a run of `core` shows of the problem that FILE stands for, under the assumptions.
use Rattle.std.proofs.Common.{◌≡◌, ◌<◌, ◌^◌, ◌⊎◌, ℕ, Bool, true, List, ◌++◌, Option, Some, ℤ, refl, ap, subst, inl, inr}
use Rattle.mono_base.specs.Literal.{value_in}
use Rattle.mono_problem.specs.Instance.{Instance}
use Rattle.mono_problem.specs.WellFormed.{IsInstance}
use Rattle.mono_problem.specs.Holds.{HasNoModel, Satisfies}
use Rattle.mono_problem.specs.Assuming.{assuming, HasRoom}
use Rattle.mono_gnf.proofs.WellFormedReading.{stands_well_formed}
use Rattle.mono_check.specs.declared.verdict.Verdict.TheVariants as verdict
use Rattle.mono_check.specs.Verdicts.{IsVerdict}
use Rattle.mono_core.specs.declared.outcome.CoreOutcome.{CoreOutcome}
use Rattle.mono_core.specs.declared.outcome.CoreOutcome.TheVariants as outcome
use Rattle.mono_io.specs.Shelf.{ShelfView}
use Rattle.mono_words.specs.declared.command.Command.{Command}
use Rattle.mono_words.specs.declared.command.Command.TheVariants as command
use Rattle.mono_words.specs.declared.command.TheConstants.{DEFAULT_BUDGET}
use Rattle.mono_forms.specs.declared.status.Status.{Status}
use Rattle.mono_forms.specs.declared.status.Status.TheVariants as status
use Rattle.mono_forms.specs.declared.ending.Ending.{Ending}
use Rattle.mono_forms.specs.declared.ending.Ending.TheVariants as ending
use Rattle.mono_forms.specs.CoreTexts.{outcome_text}
use Rattle.mono_forms.specs.Endings.{status_of, outcome_status}
use Rattle.mono_forms.specs.Solved.{IsNarrowing}
use Rattle.mono_forms.specs.Runs.{HasNoRoom, IsNarrowed, ComesTo, Runs, Narrows, IsCoreBy}
use Rattle.mono_forms.proofs.Cores.{core_excludes}
use Rattle.mono_forms.proofs.Replies.{is_reply, not_both, end_behind, shown, said}

-- what was found under the assumptions, for which there is room
abbrev IsFound : Instance → List ℤ → CoreOutcome → Type 0
IsFound p lits o = HasRoom p lits × IsNarrowing p DEFAULT_BUDGET lits o

narrowed_as : (p : Instance) (lits : List ℤ) (e : Ending) → HasNoRoom p lits e ⊎ IsNarrowed p lits e → is_reply (status_of e) ≡ true → (o : CoreOutcome) × (e ≡ ending.Narrowed o) × IsFound p lits o
narrowed_as p lits e (inl beyond) reply = absurd (not_both (status_of e) status.Refused (ap status_of beyond.1) reply refl)
narrowed_as p lits (ending.Narrowed o) (inr found) reply = (o, refl, found)
narrowed_as p lits e (inr found) reply = absurd found

-- what each outcome shows, by its status
abbrev Shows : Instance → List ℤ → Status → Type 0
Shows p lits status.Satisfiable = (a : ℕ → Bool) × Satisfies (assuming p lits) a
Shows p lits status.Unsatisfiable = HasNoModel (assuming p lits)
Shows p lits status.Unknown = DEFAULT_BUDGET < 3 ^ (assuming p lits).vars
Shows p lits s = Unit {0}

outcome_shows : (p : Instance) (lits : List ℤ) (o : CoreOutcome) → IsInstance p → IsFound p lits o → Shows p lits (outcome_status o)
outcome_shows p lits (outcome.Model values) ok h = (value_in values, h.1.right.satisfies)
outcome_shows p lits (outcome.Core some steps needs) ok h = core_excludes p DEFAULT_BUDGET lits some steps needs ok h.1.literals h.0 h.1.right
outcome_shows p lits (outcome.Unknown steps) ok h = h.1.right.few

-- what is said of its text
its_text : (p : Instance) (lits : List ℤ) (o : CoreOutcome) → IsFound p lits o → IsCoreBy (outcome_status o) p lits (outcome_text o)
its_text p lits (outcome.Model values) h = h.1.accepted
its_text p lits (outcome.Core some steps needs) h = (some, needs, steps, h.1.right, refl, h.1.accepted)
its_text p lits (outcome.Unknown steps) h =
    (steps, h.1.right, refl, subst (λ (n : ℕ). IsVerdict (assuming p lits) (outcome_text (outcome.Unknown steps)) (verdict.Progress n)) h.1.right.chains h.1.accepted)

-- ---- as clauses of a run

module _ (found : Option Command) (old new : ShelfView) (s : Status) (before now : Option (List ℕ)) (runs : Runs found old new s before now) (p : Instance) (lits : List ℤ) (narrows : Narrows found old.texts p lits) where
  came : (e : Ending) → ComesTo found old new e → is_reply (status_of e) ≡ true → (o : CoreOutcome) × (e ≡ ending.Narrowed o) × IsFound p lits o
  came e comes reply =
      let over : ComesTo (Some (command.Core narrows.file lits)) old new e = subst (λ (c : Option Command). ComesTo c old new e) narrows.is comes in
      narrowed_as p lits e (end_behind narrows.file narrows.text old new e p (λ q. HasNoRoom q lits e ⊎ IsNarrowed q lits e) narrows.told narrows.stands reply over) reply

  shows : (t : Status) → is_reply t ≡ true → s ≡ t → Shows p lits t
  shows =
      shown found old new s before now runs CoreOutcome (λ o. ending.Narrowed o) (IsFound p lits) came (Shows p lits)
      (λ o h w. outcome_shows p lits o (stands_well_formed narrows.text p narrows.stands) h)

  pub core_satisfiable : s ≡ status.Satisfiable → (a : ℕ → Bool) × Satisfies (assuming p lits) a
  core_satisfiable = shows status.Satisfiable refl

  pub core_unsatisfiable : s ≡ status.Unsatisfiable → HasNoModel (assuming p lits)
  core_unsatisfiable = shows status.Unsatisfiable refl

  pub core_unknown : s ≡ status.Unknown → DEFAULT_BUDGET < 3 ^ (assuming p lits).vars
  core_unknown = shows status.Unknown refl

  pub its_core : (there written : List ℕ) → before ≡ Some there → now ≡ Some (there ++ written) → IsCoreBy s p lits written
  its_core =
      said found old new s before now runs CoreOutcome (λ o. ending.Narrowed o) (IsFound p lits) came
      (λ t text. IsCoreBy t p lits text) (λ text. (tt, tt, tt, tt, tt, tt)) (its_text p lits)
