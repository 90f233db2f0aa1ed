-- What is found of a bound: that `check` accepts what `best` writes of it, two outcomes, and what a run of `best` or of `ask` shows.
use Rattle.std.proofs.Common.{◌≡◌, ◌<◌, ◌^◌, ◌+◌, ℕ, ℤ, pos, Bool, true, List, [], ◌∷◌, Option, Some, ◌++◌, length, refl, sym, subst, inl, inr}
use Rattle.std.specs.Prelude.{codes}
use Rattle.std.specs.Fmt.{signed_decimal}
use Rattle.std.specs.Io.KnownBytes.{Appends}
use Rattle.std.proofs.lemmas.Bool.{and_parts}
use Rattle.mono_base.specs.declared.limits.TheConstants.{MAX_BOUND}
use Rattle.mono_problem.specs.Instance.{Instance}
use Rattle.mono_problem.specs.WellFormed.{IsInstance}
use Rattle.mono_text.proofs.Spaced.{IsToken, AreTokens}
use Rattle.mono_gnf.specs.Printed.{printed}
use Rattle.mono_gnf.specs.Stands.{Stands}
use Rattle.mono_gnf.proofs.RoundTrip.{printed_stands}
use Rattle.mono_gnf.proofs.WellFormedReading.{stands_well_formed}
use Rattle.mono_steps.specs.declared.step.Step.{Step}
use Rattle.mono_steps.specs.Steps.{are_justified, ends_empty}
use Rattle.mono_steps.specs.Journals.{chain_count}
use Rattle.mono_search.specs.Outcomes.{HasModel}
use Rattle.mono_steps.specs.Trimmed.{IsTrimRefutation}
use Rattle.mono_steps.specs.New.{IsProgress}
use Rattle.mono_answer.specs.declared.kind.Kind.TheVariants as kind
use Rattle.mono_answer.specs.declared.answer.Answer.TheVariants as answer
use Rattle.mono_answer.specs.Printed.{numbers_text, with_zero, literals_from, answer_text}
use Rattle.mono_check.specs.declared.verdict.Verdict.TheVariants as verdict
use Rattle.mono_check.specs.Verdicts.{IsVerdict}
use Rattle.mono_check.proofs.Accepted.{refutation_iff, progress_iff, model_iff}
use Rattle.mono_answer.proofs.Tokens.{numbers_tokens}
use Rattle.mono_best.specs.Asking.{asking, predicate_of, HasBoundedAtom, HasRoomToAsk}
use Rattle.mono_best.specs.Bounds.{beyond, weakest, IsBoundOf}
use Rattle.mono_best.specs.Best.{IsBestOutcome, IsBest, IsBeyond, IsOpen}
use Rattle.mono_best.specs.Optimum.{IsNeverMet}
use Rattle.mono_best.specs.declared.outcome.BestOutcome.{BestOutcome}
use Rattle.mono_best.specs.declared.outcome.BestOutcome.TheVariants as bounded
use Rattle.mono_best.proofs.Asked.{asking-instance}
use Rattle.mono_best.proofs.Optimal.{next_in, weakest_in, optimal, never_met}
use Rattle.mono_best.proofs.Outcomes.{beyond_flow, one_best, best_or_never, best_or_beyond, never_or_beyond}
use Rattle.mono_io.specs.Shelf.{ShelfView}
use Rattle.mono_words.specs.declared.command.Command.{Command}
use Rattle.mono_words.specs.declared.command.Command.TheVariants as command
use Rattle.mono_words.specs.declared.command.TheConstants.{DEFAULT_BUDGET}
use Rattle.mono_forms.specs.declared.status.Status.{Status}
use Rattle.mono_forms.specs.declared.status.Status.TheVariants as status
use Rattle.mono_forms.specs.declared.ending.Ending.{Ending}
use Rattle.mono_forms.specs.declared.ending.Ending.TheVariants as ending
use Rattle.mono_forms.specs.CoreTexts.{note}
use Rattle.mono_forms.specs.BestTexts.{best_text, values_note}
use Rattle.mono_forms.specs.Endings.{status_of, best_status}
use Rattle.mono_forms.specs.Solved.{IsBounding}
use Rattle.mono_forms.specs.Runs.{IsBounded, IsAsked, ComesTo, Runs, Bounds, Asks, IsBestBy, AreConsistentBounds}
use Rattle.mono_forms.proofs.Format.{steps_within}
use Rattle.mono_forms.proofs.Notes.{KeepsSteps, keeps_both, keeps_note, keeps_model, open_word}
use Rattle.mono_forms.proofs.Solutions.{printed_model, printed_steps, few_steps}
use Rattle.mono_forms.proofs.Replies.{is_reply, not_both, end_behind, appended, shown, said}

-- ---- the lines before the answer

best_word : IsToken (codes "best")
best_word = (refl, refl, (refl, refl, (refl, refl, (refl, refl, tt))))

never_word : IsToken (codes "never")
never_word = (refl, refl, (refl, refl, (refl, refl, (refl, refl, (refl, refl, tt)))))

beyond_word : IsToken (codes "beyond")
beyond_word = (refl, refl, (refl, refl, (refl, refl, (refl, refl, (refl, refl, (refl, refl, tt))))))

values_word : IsToken (codes "v")
values_word = (refl, refl, tt)

keeps_best : (b : ℤ) (model : List Bool) → KeepsSteps (note (codes "best" ∷ signed_decimal b ∷ []) ++ values_note model)
keeps_best b model =
    let zs = with_zero (literals_from 1 model) in
    keeps_both (note (codes "best" ∷ signed_decimal b ∷ [])) (values_note model)
    (keeps_note (codes "best" ∷ numbers_text (b ∷ [])) (best_word, numbers_tokens (b ∷ [])))
    (keeps_note (codes "v" ∷ numbers_text zs) (values_word, numbers_tokens zs))

keeps_never : KeepsSteps (note (codes "never" ∷ []))
keeps_never = keeps_note (codes "never" ∷ []) (never_word, tt)

keeps_open : (b : ℤ) → KeepsSteps (note (codes "open" ∷ signed_decimal b ∷ []))
keeps_open b = keeps_note (codes "open" ∷ numbers_text (b ∷ [])) (open_word, numbers_tokens (b ∷ []))

-- ---- what `best` writes is accepted

refutation_accepted : (q : Instance) (notes : List ℕ) (steps : List Step) → IsInstance q → KeepsSteps notes → IsTrimRefutation q steps
    → IsVerdict q (notes ++ answer_text (answer.Refutation steps)) verdict.Refutation
refutation_accepted q notes steps ok keeps h =
    let justified = (and_parts (are_justified q steps) (ends_empty steps) h.refutes).0 in
    let within = steps_within q q.clauses steps ok (few_steps q steps ok h.short) justified in
    let alone = printed_steps (length q.clauses) kind.Refutation (answer.Refutation steps) steps refl within in
    (refutation_iff q (notes ++ answer_text (answer.Refutation steps))).1
    (steps, keeps (length q.clauses) kind.Refutation (answer_text (answer.Refutation steps)) steps alone, h.refutes)

progress_accepted : (q : Instance) (budget : ℕ) (notes : List ℕ) (steps : List Step) → IsInstance q → KeepsSteps notes → IsProgress q budget steps
    → IsVerdict q (notes ++ answer_text (answer.Progress steps)) (verdict.Progress (chain_count steps))
progress_accepted q budget notes steps ok keeps h =
    let within = steps_within q q.clauses steps ok (few_steps q steps ok h.short) h.justified in
    let alone = printed_steps (length q.clauses) kind.Progress (answer.Progress steps) steps refl within in
    (progress_iff q (notes ++ answer_text (answer.Progress steps)) (chain_count steps)).1
    (steps, keeps (length q.clauses) kind.Progress (answer_text (answer.Progress steps)) steps alone, h.justified, refl)

model_accepted : (q : Instance) (ts : List (List ℕ)) (values : List Bool) → IsInstance q → AreTokens ts → HasModel q values → IsVerdict q (note ts ++ answer_text (answer.Model values)) verdict.Model
model_accepted q ts values ok tokens h =
    (model_iff q (note ts ++ answer_text (answer.Model values))).1
    (values, keeps_model ts tokens q (answer_text (answer.Model values)) values (printed_model q values ok h.len), h.satisfies)

best_bounds : (p : Instance) (budget n : ℕ) (b : ℤ) (model : List Bool) (steps : List Step) → IsInstance p → HasBoundedAtom p n → HasRoomToAsk p
    → IsBest p n b model steps → IsBounding p budget n (bounded.Best b model steps)
best_bounds p budget n b model steps ok atom room h =
    let q = predicate_of p n in
    let asked_ok = asking-instance p n (beyond q b) ok atom room (next_in q b atom.bounded h.low h.high) in
    record {
      right = h;
      accepted = refutation_accepted (asking p n (beyond q b)) (note (codes "best" ∷ signed_decimal b ∷ []) ++ values_note model) steps asked_ok (keeps_best b model) h.refutes;
    }

never_bounds : (p : Instance) (budget n : ℕ) (steps : List Step) → IsInstance p → HasBoundedAtom p n → HasRoomToAsk p
    → IsTrimRefutation (asking p n (weakest (predicate_of p n))) steps → IsBounding p budget n (bounded.Never steps)
never_bounds p budget n steps ok atom room h =
    let q = predicate_of p n in
    let asked_ok = asking-instance p n (weakest q) ok atom room (weakest_in q atom.bounded) in
    record {
      right = h;
      accepted = refutation_accepted (asking p n (weakest q)) (note (codes "never" ∷ [])) steps asked_ok keeps_never h;
    }

beyond_bounds : (p : Instance) (budget n : ℕ) (model : List Bool) → IsInstance p → HasBoundedAtom p n → HasRoomToAsk p → IsBeyond p n model → IsBounding p budget n (bounded.Beyond model)
beyond_bounds p budget n model ok atom room h =
    let b = pos (MAX_BOUND + 1) in
    let asked_ok = asking-instance p n b ok atom room (beyond_flow (predicate_of p n) h.flow) in
    record {
      right = h;
      accepted = model_accepted (asking p n b) (codes "beyond" ∷ []) model asked_ok (beyond_word, tt) h.met;
    }

open_bounds : (p : Instance) (budget n : ℕ) (b : ℤ) (steps : List Step) → IsInstance p → HasBoundedAtom p n → HasRoomToAsk p
    → IsOpen p n budget b steps → IsBounding p budget n (bounded.Unknown b steps)
open_bounds p budget n b steps ok atom room h = record {
  right = h;
  accepted = progress_accepted (asking p n b) budget (note (codes "open" ∷ signed_decimal b ∷ [])) steps (asking-instance p n b ok atom room h.bound) (keeps_open b) h.progress;
}

pub outcome_bounds : (p : Instance) (budget n : ℕ) (o : BestOutcome) → IsInstance p → HasBoundedAtom p n → HasRoomToAsk p → IsBestOutcome p n budget o → IsBounding p budget n o
outcome_bounds p budget n (bounded.Best b model steps) ok atom room h = best_bounds p budget n b model steps ok atom room h
outcome_bounds p budget n (bounded.Never steps) ok atom room h = never_bounds p budget n steps ok atom room h
outcome_bounds p budget n (bounded.Beyond model) ok atom room h = beyond_bounds p budget n model ok atom room h
outcome_bounds p budget n (bounded.Unknown b steps) ok atom room h = open_bounds p budget n b steps ok atom room h

-- ---- two outcomes

pub consistent_bounds : (p : Instance) (budget n : ℕ) (a b : BestOutcome) → IsInstance p → HasBoundedAtom p n → HasRoomToAsk p → IsBestOutcome p n budget a → IsBestOutcome p n budget b → AreConsistentBounds a b
consistent_bounds p budget n (bounded.Best b model steps) (bounded.Best c other later) ok atom room x y = one_best p n b c model other steps later ok atom room x y
consistent_bounds p budget n (bounded.Best b model steps) (bounded.Never later) ok atom room x y = best_or_never p n b model steps later ok atom room x y
consistent_bounds p budget n (bounded.Best b model steps) (bounded.Beyond other) ok atom room x y = best_or_beyond p n b model other steps ok atom room x y
consistent_bounds p budget n (bounded.Never steps) (bounded.Best c other later) ok atom room x y = best_or_never p n c other later steps ok atom room y x
consistent_bounds p budget n (bounded.Never steps) (bounded.Beyond other) ok atom room x y = never_or_beyond p n other steps ok atom room x y
consistent_bounds p budget n (bounded.Beyond model) (bounded.Best c other later) ok atom room x y = best_or_beyond p n c other model later ok atom room y x
consistent_bounds p budget n (bounded.Beyond model) (bounded.Never later) ok atom room x y = never_or_beyond p n model later ok atom room y x
consistent_bounds p budget n a b ok atom room x y = tt

-- ---- what a run of `best` ended with

abbrev IsFound : Instance → ℕ → BestOutcome → Type 0
IsFound p n o = HasBoundedAtom p n × HasRoomToAsk p × IsBounding p DEFAULT_BUDGET n o

bounded_as : (p : Instance) (n : ℕ) (e : Ending) → IsBounded p n e → is_reply (status_of e) ≡ true → (o : BestOutcome) × (e ≡ ending.Bounded o) × IsFound p n o
bounded_as p n (ending.Bounded o) h reply = (o, refl, h)
bounded_as p n (ending.Unasked r) h reply = absurd (not_both status.Refused status.Refused refl reply refl)
bounded_as p n e h reply = absurd h

-- what each outcome shows, by its status
abbrev Shows : Instance → ℕ → Status → Type 0
Shows p n status.Unsatisfiable = IsNeverMet p n
Shows p n status.Unknown = DEFAULT_BUDGET < 3 ^ (p.vars + 1)
Shows p n s = Unit {0}

bound_shows : (p : Instance) (n : ℕ) (o : BestOutcome) → IsInstance p → IsFound p n o → Shows p n (best_status o)
bound_shows p n (bounded.Best b model steps) ok h = tt
bound_shows p n (bounded.Never steps) ok h = never_met p n steps ok h.0 h.1 h.2.right
bound_shows p n (bounded.Beyond model) ok h = tt
bound_shows p n (bounded.Unknown b steps) ok h = h.2.right.progress.few

-- what is said of its text
its_text : (p : Instance) (n : ℕ) (o : BestOutcome) → IsInstance p → IsFound p n o → IsBestBy (best_status o) p n (best_text o)
its_text p n (bounded.Best b model steps) ok h = inl (b, model, steps, h.2.right, optimal p n b model steps ok h.0 h.1 h.2.right, refl, h.2.accepted)
its_text p n (bounded.Never steps) ok h = (steps, never_met p n steps ok h.0 h.1 h.2.right, refl, h.2.accepted)
its_text p n (bounded.Beyond model) ok h = inr (model, h.2.right, refl, h.2.accepted)
its_text p n (bounded.Unknown b steps) ok h = (
  b,
  steps,
  h.2.right,
  refl,
  subst (λ (k : ℕ). IsVerdict (asking p n b) (best_text (bounded.Unknown b steps)) (verdict.Progress k)) h.2.right.progress.chains h.2.accepted,
)

-- ---- as clauses of a run of `best`

module _ (found : Option Command) (old new : ShelfView) (s : Status) (before now : Option (List ℕ)) (runs : Runs found old new s before now) (p : Instance) (n : ℕ) (bounds : Bounds found old.texts p n) where
  came : (e : Ending) → ComesTo found old new e → is_reply (status_of e) ≡ true → (o : BestOutcome) × (e ≡ ending.Bounded o) × IsFound p n o
  came e comes reply =
      let over : ComesTo (Some (command.Best bounds.file n)) old new e = subst (λ (c : Option Command). ComesTo c old new e) bounds.is comes in
      bounded_as p n e (end_behind bounds.file bounds.text old new e p (λ q. IsBounded q n e) bounds.told bounds.stands reply over) reply

  well_formed : IsInstance p
  well_formed = stands_well_formed bounds.text p bounds.stands

  shows : (t : Status) → is_reply t ≡ true → s ≡ t → Shows p n t
  shows =
      shown found old new s before now runs BestOutcome (λ o. ending.Bounded o) (IsFound p n) came (Shows p n) (λ o h w. bound_shows p n o well_formed h)

  pub best_is_never_met : s ≡ status.Unsatisfiable → IsNeverMet p n
  best_is_never_met = shows status.Unsatisfiable refl

  pub best_unknown : s ≡ status.Unknown → DEFAULT_BUDGET < 3 ^ (p.vars + 1)
  best_unknown = shows status.Unknown refl

  pub its_bound : (there written : List ℕ) → before ≡ Some there → now ≡ Some (there ++ written) → IsBestBy s p n written
  its_bound =
      said found old new s before now runs BestOutcome (λ o. ending.Bounded o) (IsFound p n) came
      (λ t text. IsBestBy t p n text) (λ text. (tt, tt, tt, tt, tt, tt)) (λ o h. its_text p n o well_formed h)

-- ---- as a clause of a run of `ask`

abbrev IsPrintedAsk : Instance → ℕ → ℤ → List ℕ → Type 0
IsPrintedAsk p n b text = HasBoundedAtom p n × IsBoundOf (predicate_of p n) b × HasRoomToAsk p × (text ≡ printed (asking p n b))

asked_as : (p : Instance) (n : ℕ) (b : ℤ) (e : Ending) → IsAsked p n b e → is_reply (status_of e) ≡ true → (text : List ℕ) × (e ≡ ending.Printed text) × IsPrintedAsk p n b text
asked_as p n b (ending.Printed text) h reply = (text, refl, h)
asked_as p n b (ending.Unasked r) h reply = absurd (not_both status.Refused status.Refused refl reply refl)
asked_as p n b e h reply = absurd h

printed_asks : (p : Instance) (n : ℕ) (b : ℤ) (text : List ℕ) → IsInstance p → IsPrintedAsk p n b text → Stands text (asking p n b)
printed_asks p n b text ok h = subst (λ (t : List ℕ). Stands t (asking p n b)) (sym h.3) (printed_stands (asking p n b) (asking-instance p n b ok h.0 h.2 h.1))

pub asked : (found : Option Command) (old new : ShelfView) (s : Status) (before now : Option (List ℕ)) → Runs found old new s before now → (p : Instance) (n : ℕ) (b : ℤ) → Asks found old.texts p n b → s ≡ status.Printed
    → (there written : List ℕ) → before ≡ Some there → now ≡ Some (there ++ written) → Stands written (asking p n b)
asked found old new s before now runs p n b asks is there written held wrote =
    shown found old new s before now runs (List ℕ) (λ text. ending.Printed text) (IsPrintedAsk p n b) came (λ t. Stands written (asking p n b)) stands status.Printed refl is
  where
    came : (e : Ending) → ComesTo found old new e → is_reply (status_of e) ≡ true → (text : List ℕ) × (e ≡ ending.Printed text) × IsPrintedAsk p n b text
    came e comes reply =
        let over : ComesTo (Some (command.Ask asks.file n b)) old new e = subst (λ (c : Option Command). ComesTo c old new e) asks.is comes in
        asked_as p n b e (end_behind asks.file asks.text old new e p (λ q. IsAsked q n b e) asks.told asks.stands reply over) reply

    stands : (text : List ℕ) → IsPrintedAsk p n b text → Appends before now text → Stands written (asking p n b)
    stands text h w =
        subst (λ (t : List ℕ). Stands t (asking p n b)) (appended before now there written text held wrote w) (printed_asks p n b text (stands_well_formed asks.text p asks.stands) h)
