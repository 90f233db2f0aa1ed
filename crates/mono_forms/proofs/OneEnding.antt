-- Over the same told texts one command comes to one ending, or to answers of `solve` that don't contradict each other.
use Rattle.std.proofs.Common.{◌≡◌, ◌≢◌, ◌<◌, ◌≤◌, ◌⊎◌, ℕ, Bool, true, false, List, Option, Some, None, IsNone, IsTrue, IfSome, length, refl, sym, ap, subst, ◌∙◌, inl, inr, arith, ℤ}
use Rattle.std.specs.Prelude.{IsSomeAnd}
use Rattle.mono_base.specs.declared.limits.TheConstants.{MAX_INPUT_BYTES, MAX_ANSWER_BYTES}
use Rattle.mono_base.specs.Literal.{value_in}
use Rattle.mono_problem.specs.Instance.{Instance}
use Rattle.mono_problem.specs.WellFormed.{IsInstance}
use Rattle.mono_problem.specs.Assuming.{assuming, HasRoom}
use Rattle.mono_steps.proofs.StepTruth.{refutation_excludes}
use Rattle.mono_gnf.proofs.WellFormedReading.{stands_well_formed}
use Rattle.mono_answer.specs.declared.answer.Answer.{Answer}
use Rattle.mono_answer.specs.declared.answer.Answer.TheVariants as answer
use Rattle.mono_gen.specs.Generated.{generated}
use Rattle.mono_gen.specs.declared.kind.GenKind.{GenKind}
use Rattle.mono_gnf.specs.Faults.{first_fault}
use Rattle.mono_gnf.specs.Printed.{printed}
use Rattle.mono_gnf.specs.Stands.{Stands}
use Rattle.mono_gnf.specs.declared.fault.GnfFault.{GnfFault}
use Rattle.mono_answer.specs.declared.version.Version.{Version}
use Rattle.mono_check.specs.declared.verdict.Verdict.TheVariants as verdict
use Rattle.mono_check.proofs.Accepted.{same_verdict}
use Rattle.mono_check.proofs.Stands.{migrates_once, never_both}
use Rattle.mono_best.specs.Asking.{predicate_of, HasBoundedAtom, HasRoomToAsk}
use Rattle.mono_best.specs.Bounds.{IsBoundOf}
use Rattle.mono_best.specs.declared.outcome.BestOutcome.{BestOutcome}
use Rattle.mono_best.specs.declared.outcome.BestOutcome.TheVariants as bounded
use Rattle.mono_core.specs.declared.outcome.CoreOutcome.{CoreOutcome}
use Rattle.mono_core.specs.declared.outcome.CoreOutcome.TheVariants as outcome
use Rattle.mono_io.specs.Reading.{IsRead, IsTooLong, IsNotRead}
use Rattle.mono_io.specs.Shelf.{Texts, ShelfView, text_named, Lacks}
use Rattle.mono_words.specs.declared.command.Command.{Command}
use Rattle.mono_words.specs.declared.command.Command.TheVariants as command
use Rattle.mono_words.specs.declared.command.TheConstants.{DEFAULT_BUDGET, MAX_MIGRATED_BYTES}
use Rattle.mono_forms.specs.declared.ending.Ending.{Ending}
use Rattle.mono_forms.specs.declared.ending.Ending.TheVariants as ending
use Rattle.mono_forms.specs.Endings.{status_of}
use Rattle.mono_forms.specs.Runs.{EndsAtText, EndsAtFile, WithText, WithProblem, HasProblem, IsJudged, IsMigration, IsSolved, HasNoRoom, IsNarrowed, IsJudgedWith, IsUnasked, IsBounded, IsAsked, ComesTo, Ends, AreConsistent, AreConsistentOutcomes, AreConsistentBounds, AreAlike, IsGenerated, IsSolving}
use Rattle.mono_forms.specs.Solved.{IsAnswer}
use Rattle.mono_forms.specs.Teams.{IsTeamed, IsTeamAnswer}
use Rattle.mono_forms.specs.declared.asking.AskRefusal.{AskRefusal}
use Rattle.mono_forms.specs.declared.asking.AskRefusal.TheVariants as refusal
use Rattle.mono_forms.proofs.Cores.{consistent_outcomes}
use Rattle.mono_forms.proofs.Bests.{consistent_bounds}
use Rattle.mono_forms.proofs.Stages.{ends_else, IsOwn, stage_of}
use Rattle.mono_forms.proofs.Replies.{is_reply, answer_reply, outcome_reply, best_reply, replied, same_problem}

-- ---- one text, if there is one

record WasRead (told : Option (List ℕ)) (limit : ℕ) (text : List ℕ) : Type 0 where
  is : told ≡ Some text
  within : length text ≤ limit

abbrev AtText : Option (List ℕ) → ℕ → Ending → Type 0
AtText told limit e = ((e ≡ ending.ReadFault) × IsNone told) ⊎ ((e ≡ ending.TooLong) × IsSomeAnd told (λ text. limit < length text))

missing_not_long : (told : Option (List ℕ)) (limit : ℕ) → IsNone told → IsSomeAnd told (λ text. limit < length text) → ⊥
missing_not_long None limit none longer = longer
missing_not_long (Some t) limit none longer = absurd cc

read_not_long : (told : Option (List ℕ)) (limit : ℕ) (text : List ℕ) → WasRead told limit text → IsSomeAnd told (λ t. limit < length t) → ⊥
read_not_long None limit text read longer = longer
read_not_long (Some t) limit text read longer =
    let same : t ≡ text = (let is : Some t ≡ Some text = read.is in cc) in
    absurd (omega (arith, read.within, subst (λ (u : List ℕ). limit < length u) same longer))

read_not_missing : (told : Option (List ℕ)) (limit : ℕ) (text : List ℕ) → WasRead told limit text → IsNone told → ⊥
read_not_missing None limit text read none = absurd (let is : ◌≡◌ {A = Option (List ℕ)} None (Some text) = read.is in cc)
read_not_missing (Some t) limit text read none = absurd cc

text_text : (told : Option (List ℕ)) (limit : ℕ) (e e' : Ending) → AtText told limit e → AtText told limit e' → e ≡ e'
text_text told limit e e' (inl a) (inl b) = a.0 ∙ sym b.0
text_text told limit e e' (inl a) (inr b) = absurd (missing_not_long told limit a.1 b.1)
text_text told limit e e' (inr a) (inl b) = absurd (missing_not_long told limit b.1 a.1)
text_text told limit e e' (inr a) (inr b) = a.0 ∙ sym b.0

text_read : (told : Option (List ℕ)) (limit : ℕ) (e : Ending) (text : List ℕ) → AtText told limit e → WasRead told limit text → ⊥
text_read told limit e text (inl a) read = read_not_missing told limit text read a.1
text_read told limit e text (inr a) read = read_not_long told limit text read a.1

same_text : (told : Option (List ℕ)) (limit : ℕ) (a b : List ℕ) → WasRead told limit a → WasRead told limit b → a ≡ b
same_text told limit a b r s = let is : Some a ≡ Some b = sym r.is ∙ s.is in cc

-- ---- the verdict

one_judged : (p : Instance) (text : List ℕ) (e e' : Ending) → IsJudged p text e → IsJudged p text e' → e ≡ e'
one_judged p text (ending.Judged v) (ending.Judged w) a b = ap ending.Judged (same_verdict p text v w a b)
one_judged p text (ending.Judged v) e' a b = absurd b
one_judged p text e e' a b = absurd a

-- ---- migrated answers

one_migrated : (p : Instance) (text : List ℕ) (v : Version) (e e' : Ending) → IsMigration p text v e → IsMigration p text v e' → e ≡ e'
one_migrated p text v (ending.Printed s) (ending.Printed t) a b = ap ending.Printed (migrates_once p text v s t a b)
one_migrated p text v (ending.Printed s) (ending.Judged (verdict.Rejected n r)) a b = absurd (never_both p text v s n r a b)
one_migrated p text v (ending.Printed s) e' a b = absurd b
one_migrated p text v (ending.Judged (verdict.Rejected n r)) (ending.Printed t) a b = absurd (never_both p text v t n r b a)
one_migrated p text v (ending.Judged (verdict.Rejected n r)) (ending.Judged (verdict.Rejected m s)) a b = ap ending.Judged (same_verdict p text (verdict.Rejected n r) (verdict.Rejected m s) a b)
one_migrated p text v (ending.Judged (verdict.Rejected n r)) e' a b = absurd b
one_migrated p text v e e' a b = absurd a

-- ---- answers of `solve`

-- one ending is like itself
same_alike : (e e' : Ending) → e ≡ e' → AreAlike e e'
same_alike e e' same = subst (AreAlike e) same (itself e)
  where
    by_answer : (a : Answer) → AreConsistent a a
    by_answer (answer.Model values) = tt
    by_answer a = tt

    by_outcome : (a : CoreOutcome) → AreConsistentOutcomes a a
    by_outcome (outcome.Model values) = tt
    by_outcome a = tt

    by_bound : (a : BestOutcome) → AreConsistentBounds a a
    by_bound (bounded.Best b model steps) = refl
    by_bound a = tt

    itself : (d : Ending) → AreAlike d d
    itself (ending.Solved a) = by_answer a
    itself (ending.Summed s) = by_answer s.answer
    itself (ending.Narrowed o) = by_outcome o
    itself (ending.Bounded o) = by_bound o
    itself d = refl

-- a problem that has a refutation has no model
consistent : (p : Instance) (budget : ℕ) (a b : Answer) → IsInstance p → IsAnswer p budget a → IsAnswer p budget b → AreConsistent a b
consistent p budget (answer.Model values) (answer.Refutation steps) ok x y = refutation_excludes p steps ok y.refutes (value_in values) x.satisfies
consistent p budget (answer.Refutation steps) (answer.Model values) ok x y = refutation_excludes p steps ok x.refutes (value_in values) y.satisfies
consistent p budget a b ok x y = tt

one_solved : (p : Instance) (budget : ℕ) (e e' : Ending) → IsInstance p → IsSolved p budget e → IsSolved p budget e' → AreAlike e e'
one_solved p budget (ending.Solved s) (ending.Solved t) ok a b = consistent p budget s t ok a.right b.right
one_solved p budget (ending.Solved s) e' ok a b = absurd b
one_solved p budget e e' ok a b = absurd a

-- ---- what is found under assumptions

narrowed_room : (p : Instance) (lits : List ℤ) (e : Ending) → IsNarrowed p lits e → HasRoom p lits
narrowed_room p lits (ending.Narrowed o) h = h.0
narrowed_room p lits e h = absurd h

both_narrowed : (p : Instance) (lits : List ℤ) (e e' : Ending) → IsInstance p → IsNarrowed p lits e → IsNarrowed p lits e' → AreAlike e e'
both_narrowed p lits (ending.Narrowed o) (ending.Narrowed o') ok a b = consistent_outcomes p DEFAULT_BUDGET lits o o' ok a.0 a.1 b.1
both_narrowed p lits (ending.Narrowed o) e' ok a b = absurd b
both_narrowed p lits e e' ok a b = absurd a

one_narrowed : (p : Instance) (lits : List ℤ) (e e' : Ending) → IsInstance p → (HasNoRoom p lits e ⊎ IsNarrowed p lits e) → (HasNoRoom p lits e' ⊎ IsNarrowed p lits e') → AreAlike e e'
one_narrowed p lits e e' ok (inl a) (inl b) = same_alike e e' (a.1 ∙ sym b.1)
one_narrowed p lits e e' ok (inl a) (inr b) = absurd (a.0 (narrowed_room p lits e' b))
one_narrowed p lits e e' ok (inr a) (inl b) = absurd (b.0 (narrowed_room p lits e a))
one_narrowed p lits e e' ok (inr a) (inr b) = both_narrowed p lits e e' ok a b

-- ---- bounds

-- the first reason that applies is one
one_refusal : (p : Instance) (n : ℕ) (Fits : Type 0) (r r' : AskRefusal) → IsUnasked p n Fits r → IsUnasked p n Fits r' → r ≡ r'
one_refusal p n Fits refusal.BadAtom refusal.BadAtom a b = refl
one_refusal p n Fits refusal.BadAtom refusal.BadBound a b = absurd (a b.0)
one_refusal p n Fits refusal.BadAtom refusal.TooMany a b = absurd (a b.0)
one_refusal p n Fits refusal.BadBound refusal.BadAtom a b = absurd (b a.0)
one_refusal p n Fits refusal.BadBound refusal.BadBound a b = refl
one_refusal p n Fits refusal.BadBound refusal.TooMany a b = absurd (a.1 b.1)
one_refusal p n Fits refusal.TooMany refusal.BadAtom a b = absurd (b a.0)
one_refusal p n Fits refusal.TooMany refusal.BadBound a b = absurd (b.1 a.1)
one_refusal p n Fits refusal.TooMany refusal.TooMany a b = refl

-- and none where nothing stands against asking
not_unasked : (p : Instance) (n : ℕ) (Fits : Type 0) (r : AskRefusal) → IsUnasked p n Fits r → HasBoundedAtom p n → Fits → HasRoomToAsk p → ⊥
not_unasked p n Fits refusal.BadAtom h atom fits room = h atom
not_unasked p n Fits refusal.BadBound h atom fits room = h.1 fits
not_unasked p n Fits refusal.TooMany h atom fits room = h.2 room

one_bounded : (p : Instance) (n : ℕ) (e e' : Ending) → IsInstance p → IsBounded p n e → IsBounded p n e' → AreAlike e e'
one_bounded p n (ending.Bounded o) (ending.Bounded o') ok a b = consistent_bounds p DEFAULT_BUDGET n o o' ok a.0 a.1 a.2.right b.2.right
one_bounded p n (ending.Bounded o) (ending.Unasked r) ok a b = absurd (not_unasked p n (Unit {0}) r b a.0 tt a.1)
one_bounded p n (ending.Bounded o) e' ok a b = absurd b
one_bounded p n (ending.Unasked r) (ending.Bounded o) ok a b = absurd (not_unasked p n (Unit {0}) r a b.0 tt b.1)
one_bounded p n (ending.Unasked r) (ending.Unasked r') ok a b = ap ending.Unasked (one_refusal p n (Unit {0}) r r' a b)
one_bounded p n (ending.Unasked r) e' ok a b = absurd b
one_bounded p n e e' ok a b = absurd a

one_asked : (p : Instance) (n : ℕ) (c : ℤ) (e e' : Ending) → IsAsked p n c e → IsAsked p n c e' → e ≡ e'
one_asked p n c (ending.Printed t) (ending.Printed t') a b = ap ending.Printed (a.3 ∙ sym b.3)
one_asked p n c (ending.Printed t) (ending.Unasked r) a b = absurd (not_unasked p n (IsBoundOf (predicate_of p n) c) r b a.0 a.1 a.2)
one_asked p n c (ending.Printed t) e' a b = absurd b
one_asked p n c (ending.Unasked r) (ending.Printed t) a b = absurd (not_unasked p n (IsBoundOf (predicate_of p n) c) r a b.0 b.1 b.2)
one_asked p n c (ending.Unasked r) (ending.Unasked r') a b = ap ending.Unasked (one_refusal p n (IsBoundOf (predicate_of p n) c) r r' a b)
one_asked p n c (ending.Unasked r) e' a b = absurd b
one_asked p n c e e' a b = absurd a

-- ---- answers of `team`

consistent_teams : (p : Instance) (workers rounds : ℕ) (a b : Answer) → IsInstance p → IsTeamAnswer p workers rounds a → IsTeamAnswer p workers rounds b → AreConsistent a b
consistent_teams p workers rounds (answer.Model values) (answer.Refutation steps) ok x y = refutation_excludes p steps ok y.2.trim.refutes (value_in values) x.1.model.satisfies
consistent_teams p workers rounds (answer.Refutation steps) (answer.Model values) ok x y = refutation_excludes p steps ok x.2.trim.refutes (value_in values) y.1.model.satisfies
consistent_teams p workers rounds a b ok x y = tt

one_teamed : (p : Instance) (workers rounds : ℕ) (e e' : Ending) → IsInstance p → IsTeamed p workers rounds e → IsTeamed p workers rounds e' → AreAlike e e'
one_teamed p workers rounds e e' ok a b =
    subst (λ (d : Ending). AreAlike d e') (sym a.is) (subst (λ (d : Ending). AreAlike (ending.Solved a.answer) d) (sym b.is) (consistent_teams p workers rounds a.answer b.answer ok a.right.right b.right.right))

-- ---- generated inputs

one_generated : (k : GenKind) (size seed : ℕ) (solve : Bool) (e e' : Ending) → IsGenerated k size seed solve e → IsGenerated k size seed solve e' → AreAlike e e'
one_generated k size seed false e e' a b = same_alike e e' (a ∙ sym b)
one_generated k size seed true e e' a b =
    let same = same_problem (generated k size seed) a.problem b.problem a.stands b.stands in
    let left = subst (λ (q : Instance). IsAnswer q DEFAULT_BUDGET a.summary.answer) same a.right.solves.right in
    let ok = stands_well_formed (generated k size seed) b.problem b.stands in
    subst (λ (d : Ending). AreAlike d e') (sym a.is) (subst (λ (d : Ending). AreAlike (ending.Summed a.summary) d) (sym b.is) (consistent b.problem DEFAULT_BUDGET a.summary.answer b.summary.answer ok left b.right.solves.right))

-- ---- FILE

record WasRefused (told : Option (List ℕ)) (e : Ending) : Type 0 where
  text : List ℕ
  read : WasRead told MAX_INPUT_BYTES text
  line : ℕ
  fault : GnfFault
  first : first_fault text ≡ Some (line, fault)
  is : e ≡ ending.Refused line fault

record StandsFor (told : Option (List ℕ)) (p : Instance) : Type 0 where
  text : List ℕ
  read : WasRead told MAX_INPUT_BYTES text
  stands : Stands text p

abbrev AtFile : Option (List ℕ) → Ending → Type 0
AtFile told e = AtText told MAX_INPUT_BYTES e ⊎ WasRefused told e

refused_refused : (told : Option (List ℕ)) (e e' : Ending) → WasRefused told e → WasRefused told e' → e ≡ e'
refused_refused told e e' a b =
    let text = same_text told MAX_INPUT_BYTES a.text b.text a.read b.read in
    let faults : Some (a.line, a.fault) ≡ Some (b.line, b.fault) = sym a.first ∙ ap first_fault text ∙ b.first in
    let pairs : ◌≡◌ {A = ℕ × GnfFault} (a.line, a.fault) (b.line, b.fault) = cc in
    a.is ∙ ap (λ (x : ℕ × GnfFault). ending.Refused x.0 x.1) pairs ∙ sym b.is

file_file : (told : Option (List ℕ)) (e e' : Ending) → AtFile told e → AtFile told e' → e ≡ e'
file_file told e e' (inl a) (inl b) = text_text told MAX_INPUT_BYTES e e' a b
file_file told e e' (inl a) (inr b) = absurd (text_read told MAX_INPUT_BYTES e b.text a b.read)
file_file told e e' (inr a) (inl b) = absurd (text_read told MAX_INPUT_BYTES e' a.text b a.read)
file_file told e e' (inr a) (inr b) = refused_refused told e e' a b

file_problem : (told : Option (List ℕ)) (e : Ending) (p : Instance) → AtFile told e → StandsFor told p → ⊥
file_problem told e p (inl a) b = text_read told MAX_INPUT_BYTES e b.text a b.read
file_problem told e p (inr a) b =
    let text = same_text told MAX_INPUT_BYTES a.text b.text a.read b.read in
    let none : ◌≡◌ {A = Option (ℕ × GnfFault)} (Some (a.line, a.fault)) None = sym a.first ∙ ap first_fault text ∙ b.stands.0 in
    absurd cc

one_problem : (told : Option (List ℕ)) (p q : Instance) → StandsFor told p → StandsFor told q → p ≡ q
one_problem told p q a b =
    let text = same_text told MAX_INPUT_BYTES a.text b.text a.read b.read in
    same_problem b.text p q (subst (λ (t : List ℕ). Stands t p) text a.stands) b.stands

-- ---- endings that say which answer was found

abbrev HoldsAnswer : Ending → Type 0
HoldsAnswer (ending.Solved a) = Unit {0}
HoldsAnswer (ending.Summed s) = Unit {0}
HoldsAnswer (ending.Narrowed o) = Unit {0}
HoldsAnswer (ending.Bounded o) = Unit {0}
HoldsAnswer e = ⊥

-- Only where an answer is looked for the run ends with one of these.
own_solving : (e : Ending) (found : Option Command) → HoldsAnswer e → IsOwn e found → IsSolving found
own_solving (ending.Solved a) (Some (command.Solve file budget)) holds own = tt
own_solving (ending.Solved a) (Some (command.Team file workers rounds)) holds own = tt
own_solving (ending.Solved a) found holds own = absurd own
own_solving (ending.Summed s) (Some (command.Gen k size seed true)) holds own = tt
own_solving (ending.Summed s) found holds own = absurd own
own_solving (ending.Narrowed o) (Some (command.Core file lits)) holds own = tt
own_solving (ending.Narrowed o) found holds own = absurd own
own_solving (ending.Bounded o) (Some (command.Best file n)) holds own = tt
own_solving (ending.Bounded o) found holds own = absurd own
own_solving e found holds own = absurd holds

holds_reply : (e : Ending) → HoldsAnswer e → is_reply (status_of e) ≡ true
holds_reply (ending.Solved a) holds = answer_reply a
holds_reply (ending.Summed s) holds = answer_reply s.answer
holds_reply (ending.Narrowed o) holds = outcome_reply o
holds_reply (ending.Bounded o) holds = best_reply o
holds_reply e holds = absurd holds

alike_same : (e e' : Ending) → (HoldsAnswer e → ⊥) → AreAlike e e' → e ≡ e'
alike_same (ending.Solved a) e' fixed is = absurd (fixed tt)
alike_same (ending.Summed s) e' fixed is = absurd (fixed tt)
alike_same (ending.Narrowed o) e' fixed is = absurd (fixed tt)
alike_same (ending.Bounded o) e' fixed is = absurd (fixed tt)
alike_same e e' fixed is = is

-- ---- over told texts

module _ (held : Texts) where
  -- the shelf tells these texts, and is steady where the run comes to a read fault
  record IsOver (shelf : ShelfView) (e : Ending) : Type 0 where
    texts : shelf.texts ≡ Some held
    sure : e ≡ ending.ReadFault → IsTrue shelf.steady

  was_read : (file : List ℕ) (limit : ℕ) (old new : ShelfView) (text : List ℕ) → old.texts ≡ Some held → IsRead file limit old new text → WasRead (text_named file held) limit text
  was_read file limit old new text told read =
      record { is = subst (λ (texts : Option Texts). IfSome texts (λ t. text_named file t ≡ Some text)) told read.whole; within = read.within }

  stands_for : (file : List ℕ) (old new : ShelfView) (p : Instance) → old.texts ≡ Some held → HasProblem file old new p → StandsFor (text_named file held) p
  stands_for file old new p told has = record { text = has.text; read = was_read file MAX_INPUT_BYTES old new has.text told has.read; stands = has.stands }

  not_read : (file : List ℕ) (limit : ℕ) (old new : ShelfView) → IsOver old ending.ReadFault → IsNotRead file limit old new → AtText (text_named file held) limit ending.ReadFault
  not_read file limit old new over ends = inl (refl, subst (λ (texts : Option Texts). Lacks texts file) over.texts (ends.lacking (over.sure refl)))

  too_long : (file : List ℕ) (limit : ℕ) (old new : ShelfView) → IsOver old ending.TooLong → IsTooLong file limit old new → AtText (text_named file held) limit ending.TooLong
  too_long file limit old new over ends =
      inr (refl, subst (λ (texts : Option Texts). IfSome texts (λ t. IsSomeAnd (text_named file t) (λ text. limit < length text))) over.texts ends.longer)

  at_text : (file : List ℕ) (limit : ℕ) (old new : ShelfView) (e : Ending) → e ≢ ending.Memory → IsOver old e → EndsAtText file limit old new e → AtText (text_named file held) limit e
  at_text file limit old new ending.ReadFault else over ends = not_read file limit old new over ends
  at_text file limit old new ending.TooLong else over ends = too_long file limit old new over ends
  at_text file limit old new ending.Memory else over ends = absurd (else refl)
  at_text file limit old new e else over ends = absurd ends

  at_file : (file : List ℕ) (old new : ShelfView) (e : Ending) → e ≢ ending.Memory → IsOver old e → EndsAtFile file old new e → AtFile (text_named file held) e
  at_file file old new (ending.Refused line fault) else over ends =
      inr (record { text = ends.text; read = was_read file MAX_INPUT_BYTES old new ends.text over.texts ends.read; line = line; fault = fault; first = ends.first; is = refl })
  at_file file old new ending.ReadFault else over ends = inl (not_read file MAX_INPUT_BYTES old new over ends)
  at_file file old new ending.TooLong else over ends = inl (too_long file MAX_INPUT_BYTES old new over ends)
  at_file file old new ending.Memory else over ends = absurd (else refl)
  at_file file old new e else over ends = absurd ends

  -- behind FILE the same texts are told, and a steady shelf is steady
  over_next : (file : List ℕ) (old read : ShelfView) (p : Instance) (e : Ending) → IsOver old e → HasProblem file old read p → IsOver read e
  over_next file old read p e over has = record { texts = has.read.once.texts ∙ over.texts; sure = λ same. has.read.once.steady (over.sure same) }

  -- two runs that end at FILE or go on behind it are alike where they are so behind it
  problem_once : (file : List ℕ) (old new old' new' : ShelfView) (e e' : Ending) (Next Next' : Instance → ShelfView → Type 0) → e ≢ ending.Memory → e' ≢ ending.Memory → IsOver old e → IsOver old' e'
      → ((p : Instance) (read read' : ShelfView) → IsInstance p → IsOver read e → IsOver read' e' → Next p read → Next' p read' → AreAlike e e')
      → WithProblem file old new e Next → WithProblem file old' new' e' Next' → AreAlike e e'
  problem_once file old new old' new' e e' Next Next' else else' over over' one (inl a) (inl b) =
      same_alike e e' (file_file (text_named file held) e e' (at_file file old new e else over a) (at_file file old' new' e' else' over' b))
  problem_once file old new old' new' e e' Next Next' else else' over over' one (inl a) (inr (q, read', has', next')) =
      absurd (file_problem (text_named file held) e q (at_file file old new e else over a) (stands_for file old' read' q over'.texts has'))
  problem_once file old new old' new' e e' Next Next' else else' over over' one (inr (p, read, has, next)) (inl b) =
      absurd (file_problem (text_named file held) e' p (at_file file old' new' e' else' over' b) (stands_for file old read p over.texts has))
  problem_once file old new old' new' e e' Next Next' else else' over over' one (inr (p, read, has, next)) (inr (q, read', has', next')) =
      let same = one_problem (text_named file held) p q (stands_for file old read p over.texts has) (stands_for file old' read' q over'.texts has') in
      one q read read' (stands_well_formed has'.text q has'.stands) (over_next file old read p e over has) (over_next file old' read' q e' over' has') (subst (λ (r : Instance). Next r read) same next) next'

  -- a command that reads FILE alone comes to one ending, where it comes to one for each problem
  file_once : (file : List ℕ) (old new old' new' : ShelfView) (e e' : Ending) (End : Instance → Ending → Type 0) → e ≢ ending.Memory → e' ≢ ending.Memory → IsOver old e → IsOver old' e'
      → ((p : Instance) → IsInstance p → End p e → End p e' → AreAlike e e')
      → WithProblem file old new e (λ p shelf. End p e × (new ≡ shelf)) → WithProblem file old' new' e' (λ p shelf. End p e' × (new' ≡ shelf)) → AreAlike e e'
  file_once file old new old' new' e e' End else else' over over' one a b =
      problem_once file old new old' new' e e' (λ p shelf. End p e × (new ≡ shelf)) (λ p shelf. End p e' × (new' ≡ shelf)) else else' over over'
      (λ p read read' ok over over' x y. one p ok x.0 y.0) a b

  -- two runs that end at ANSWER or behind it end alike where they end so for each text
  text_once : (file : List ℕ) (limit : ℕ) (old new old' new' : ShelfView) (e e' : Ending) (End : List ℕ → Ending → Type 0) → e ≢ ending.Memory → e' ≢ ending.Memory → IsOver old e → IsOver old' e'
      → ((text : List ℕ) → End text e → End text e' → e ≡ e')
      → WithText file limit old new e (λ text shelf. End text e × (new ≡ shelf)) → WithText file limit old' new' e' (λ text shelf. End text e' × (new' ≡ shelf)) → e ≡ e'
  text_once file limit old new old' new' e e' End else else' over over' one (inl a) (inl b) =
      text_text (text_named file held) limit e e' (at_text file limit old new e else over a) (at_text file limit old' new' e' else' over' b)
  text_once file limit old new old' new' e e' End else else' over over' one (inl a) (inr (text', shelf', given', end')) =
      absurd (text_read (text_named file held) limit e text' (at_text file limit old new e else over a) (was_read file limit old' shelf' text' over'.texts given'))
  text_once file limit old new old' new' e e' End else else' over over' one (inr (text, shelf, given, end)) (inl b) =
      absurd (text_read (text_named file held) limit e' text (at_text file limit old' new' e' else' over' b) (was_read file limit old shelf text over.texts given))
  text_once file limit old new old' new' e e' End else else' over over' one (inr (text, shelf, given, end)) (inr (text', shelf', given', end')) =
      let same = same_text (text_named file held) limit text text' (was_read file limit old shelf text over.texts given) (was_read file limit old' shelf' text' over'.texts given') in
      one text' (subst (λ (t : List ℕ). End t e) same end.0) end'.0

  -- so does a command that reads ANSWER behind FILE
  both_once : (file answer : List ℕ) (limit : ℕ) (old new old' new' : ShelfView) (e e' : Ending) (End : Instance → List ℕ → Ending → Type 0) → e ≢ ending.Memory → e' ≢ ending.Memory → IsOver old e → IsOver old' e'
      → ((p : Instance) (text : List ℕ) → End p text e → End p text e' → e ≡ e')
      → WithProblem file old new e (λ p read. WithText answer limit read new e (λ text shelf. End p text e × (new ≡ shelf)))
      → WithProblem file old' new' e' (λ p read. WithText answer limit read new' e' (λ text shelf. End p text e' × (new' ≡ shelf))) → AreAlike e e'
  both_once file answer limit old new old' new' e e' End else else' over over' one a b =
      problem_once file old new old' new' e e' (λ p read. WithText answer limit read new e (λ text shelf. End p text e × (new ≡ shelf))) (λ p read. WithText answer limit read new' e' (λ text shelf. End p text e' × (new' ≡ shelf)))
      else else' over over' (λ p read read' ok over over' x y. same_alike e e' (text_once answer limit read new read' new' e e' (λ text d. End p text d) else else' over over' (one p) x y)) a b

  -- with assumptions it may end between the two, for want of room
  with_once : (answer : List ℕ) (lits : List ℤ) (p : Instance) (read new read' new' : ShelfView) (e e' : Ending) → e ≢ ending.Memory → e' ≢ ending.Memory → IsOver read e → IsOver read' e'
      → (HasNoRoom p lits e × (new ≡ read)) ⊎ IsJudgedWith p lits answer read new e → (HasNoRoom p lits e' × (new' ≡ read')) ⊎ IsJudgedWith p lits answer read' new' e' → e ≡ e'
  with_once answer lits p read new read' new' e e' else else' over over' (inl a) (inl b) = a.0.1 ∙ sym b.0.1
  with_once answer lits p read new read' new' e e' else else' over over' (inl a) (inr b) = absurd (a.0.0 b.1)
  with_once answer lits p read new read' new' e e' else else' over over' (inr a) (inl b) = absurd (b.0.0 a.1)
  with_once answer lits p read new read' new' e e' else else' over over' (inr a) (inr b) =
      text_once answer MAX_ANSWER_BYTES read new read' new' e e' (λ text d. IsJudged (assuming p lits) text d) else else' over over' (λ text x y. one_judged (assuming p lits) text e e' x y) a.2 b.2

  comes_once : (found : Option Command) (old new old' new' : ShelfView) (e e' : Ending) → e ≢ ending.Memory → e' ≢ ending.Memory → IsOver old e → IsOver old' e'
      → ComesTo found old new e → ComesTo found old' new' e' → AreAlike e e'
  comes_once None old new old' new' e e' else else' over over' a b = same_alike e e' (a.0 ∙ sym b.0)
  comes_once (Some (command.Gen k size seed solve)) old new old' new' e e' else else' over over' a b = one_generated k size seed solve e e' a.0 b.0
  comes_once (Some (command.Solve file budget)) old new old' new' e e' else else' over over' a b =
      file_once file old new old' new' e e' (λ p d. IsSolved p budget d) else else' over over' (λ p ok x y. one_solved p budget e e' ok x y) a b
  comes_once (Some (command.Print file)) old new old' new' e e' else else' over over' a b =
      file_once file old new old' new' e e' (λ p d. d ≡ ending.Printed (printed p)) else else' over over' (λ p ok x y. same_alike e e' (x ∙ sym y)) a b
  comes_once (Some (command.Team file workers rounds)) old new old' new' e e' else else' over over' a b =
      file_once file old new old' new' e e' (λ p d. IsTeamed p workers rounds d) else else' over over' (λ p ok x y. one_teamed p workers rounds e e' ok x y) a b
  comes_once (Some (command.Core file lits)) old new old' new' e e' else else' over over' a b =
      file_once file old new old' new' e e' (λ p d. HasNoRoom p lits d ⊎ IsNarrowed p lits d) else else' over over' (λ p ok x y. one_narrowed p lits e e' ok x y) a b
  comes_once (Some (command.Best file n)) old new old' new' e e' else else' over over' a b =
      file_once file old new old' new' e e' (λ p d. IsBounded p n d) else else' over over' (λ p ok x y. one_bounded p n e e' ok x y) a b
  comes_once (Some (command.Ask file n c)) old new old' new' e e' else else' over over' a b =
      file_once file old new old' new' e e' (λ p d. IsAsked p n c d) else else' over over' (λ p ok x y. same_alike e e' (one_asked p n c e e' x y)) a b
  comes_once (Some (command.Check file answer)) old new old' new' e e' else else' over over' a b =
      both_once file answer MAX_ANSWER_BYTES old new old' new' e e' (λ p text d. IsJudged p text d) else else' over over' (λ p text x y. one_judged p text e e' x y) a b
  comes_once (Some (command.Migrate file answer v)) old new old' new' e e' else else' over over' a b =
      both_once file answer MAX_MIGRATED_BYTES old new old' new' e e' (λ p text d. IsMigration p text v d) else else' over over' (λ p text x y. one_migrated p text v e e' x y) a b
  comes_once (Some (command.CheckWith file answer lits)) old new old' new' e e' else else' over over' a b =
      problem_once file old new old' new' e e' (λ p read. (HasNoRoom p lits e × (new ≡ read)) ⊎ IsJudgedWith p lits answer read new e) (λ p read. (HasNoRoom p lits e' × (new' ≡ read)) ⊎ IsJudgedWith p lits answer read new' e')
      else else' over over' (λ p read read' ok over over' x y. same_alike e e' (with_once answer lits p read new read' new' e e' else else' over over' x y)) a b

  pub alike : (found : Option Command) (old new old' new' : ShelfView) (e e' : Ending) → old.texts ≡ Some held → old'.texts ≡ Some held
      → (e ≡ ending.ReadFault → IsTrue old.steady) → (e' ≡ ending.ReadFault → IsTrue old'.steady)
      → Ends found old new e → Ends found old' new' e' → e ≢ ending.Memory → e' ≢ ending.Memory → AreAlike e e'
  alike found old new old' new' e e' told told' sure sure' a b else else' =
      comes_once found old new old' new' e e' else else' (record { texts = told; sure = sure }) (record { texts = told'; sure = sure' }) (ends_else found old new e else a) (ends_else found old' new' e' else' b)

  pub same : (found : Option Command) (old new old' new' : ShelfView) (e e' : Ending) → ¬ IsSolving found → old.texts ≡ Some held → old'.texts ≡ Some held
      → (e ≡ ending.ReadFault → IsTrue old.steady) → (e' ≡ ending.ReadFault → IsTrue old'.steady)
      → Ends found old new e → Ends found old' new' e' → e ≢ ending.Memory → e' ≢ ending.Memory → e ≡ e'
  same found old new old' new' e e' other told told' sure sure' a b else else' =
      alike_same e e' (λ holds. other (own_solving e found holds (replied found old new e (stage_of found old new e (ends_else found old new e else a)) (holds_reply e holds)))) (alike found old new old' new' e e' told told' sure sure' a b else else')
