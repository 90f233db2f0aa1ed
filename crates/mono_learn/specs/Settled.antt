-- What asking for lemmas leaves: lemmas at the journal's end, and settled reasons on the trail.
use Rattle.std.specs.Prelude.{◌≡◌, ℕ, ◌+◌, ◌<◌, ◌≤◌, ℤ, List, length, Some, slice_get}
use Rattle.mono_problem.specs.Instance.{Instance}
use Rattle.mono_steps.specs.declared.lemma.Lemma.{Lemma}
use Rattle.mono_steps.specs.declared.step.Step.{Step}
use Rattle.mono_steps.specs.declared.step.Step.TheVariants as step
use Rattle.mono_trail.specs.declared.reason.Reason.{Reason}
use Rattle.mono_trail.specs.declared.reason.Reason.TheVariants.{Clause, Late}
use Rattle.mono_trail.specs.Places.{level_at, reason_at}
use Rattle.mono_trail.specs.TrailView.{TrailView}
use Rattle.mono_learn.specs.Reasons.{WasUnit}

-- at a place, the reason is the same, or a late one that is settled: the clause of the number that it has now was unit
abbrev pub SettledReason : List (List ℤ) → List ℤ → ℕ → Reason → Reason → Type 0
SettledReason cs t k (Late atom kept) (Clause n) = WasUnit cs t k n
SettledReason cs t k old new = new ≡ old

-- the trail u differs from t in settled reasons alone
pub record Settles (cs : List (List ℤ)) (t u : TrailView) : Type 0 where
  pub vars : u.vars ≡ t.vars
  pub lits : u.lits ≡ t.lits
  pub level : u.level ≡ t.level
  pub given : u.given ≡ t.given
  pub as_many : length u.marks ≡ length t.marks
  pub levels : (k : ℕ) → level_at u.marks k ≡ level_at t.marks k
  pub reasons : (k : ℕ) → k < length t.lits → SettledReason cs t.lits k (reason_at t.marks k) (reason_at u.marks k)

-- the lemma with the number n is now the reason of a literal that its atom forced, and whose reason was late
pub record IsAskedFor (t u : TrailView) (m : Lemma) (n : ℕ) : Type 0 where
  pub place : ℕ
  pub within : place < length t.lits
  pub kept : ℕ
  pub was : reason_at t.marks place ≡ Late m.atom kept
  pub is : reason_at u.marks place ≡ Clause n

-- each lemma that joined the steps is one that was asked for: none joins twice, or for nothing
pub record AreAskedFor (p : Instance) (t u : TrailView) (old new : List Step) : Type 0 where
  pub at : (k : ℕ) (m : Lemma) → length old ≤ k → slice_get new k ≡ Some (step.Lemma m) → IsAskedFor t u m (length p.clauses + 1 + k)
