-- What migrating an answer to a version of the format gives.
use Rattle.std.specs.Prelude.{◌≡◌, ℕ, ◌+◌, ◌^◌, ◌<◌, Bool, true, false, List, [], ◌∷◌, if◌then◌else◌, length, IsTrue}
use Rattle.std.specs.List.{list_all}
use Rattle.mono_text.specs.Text.{tokens_of}
use Rattle.mono_problem.specs.Instance.{Instance}
use Rattle.mono_steps.specs.declared.step.Step.{Step}
use Rattle.mono_steps.specs.declared.step.Step.TheVariants as step
use Rattle.mono_answer.specs.declared.kind.Kind.TheVariants as kind
use Rattle.mono_answer.specs.declared.answer.Answer.{Answer}
use Rattle.mono_answer.specs.declared.answer.Answer.TheVariants as answer
use Rattle.mono_answer.specs.declared.version.Version.{Version}
use Rattle.mono_answer.specs.declared.version.Version.TheVariants as version
use Rattle.mono_answer.specs.Versions.{is_version_two, items_by}
use Rattle.mono_answer.specs.Items.{items_in}
use Rattle.mono_answer.specs.Printed.{answer_text_as, is_literal}
use Rattle.mono_check.specs.declared.migrated.Migrated.{Migrated}
use Rattle.mono_check.specs.declared.migrated.Migrated.TheVariants as migrated
use Rattle.mono_check.specs.declared.verdict.Verdict.{Verdict}
use Rattle.mono_check.specs.declared.verdict.Verdict.TheVariants as verdict
use Rattle.mono_check.specs.Answers.{SaysModel, HasSteps}
use Rattle.mono_check.specs.StepLines.{steps_in}
use Rattle.mono_check.specs.Verdicts.{IsVerdict}

abbrev pub is_accepted : Verdict → Bool
is_accepted (verdict.Rejected n r) = false
is_accepted v = true

-- the text, of either version, is one of this answer: it says these values, or these steps
abbrev pub StandsFor : Instance → List ℕ → Answer → Type 0
StandsFor p text (answer.Model values) = SaysModel p text values
StandsFor p text (answer.Refutation steps) = HasSteps (length p.clauses) kind.Refutation text steps
StandsFor p text (answer.Progress steps) = HasSteps (length p.clauses) kind.Progress text steps

-- the text is accepted, and the other one is the printed text, in the version, of the answer that it stands for
pub record MigratesTo (p : Instance) (text : List ℕ) (v : Version) (other : List ℕ) : Type 0 where
  pub verdict : Verdict
  pub judged : IsVerdict p text verdict
  pub accepted : IsTrue (is_accepted verdict)
  pub answer : Answer
  pub stands : StandsFor p text answer
  pub is : other ≡ answer_text_as answer v (length p.clauses)

-- a text that is rejected isn't migrated
abbrev pub IsMigrated : Instance → List ℕ → Version → Migrated → Type 0
IsMigrated p text v (migrated.Text other) = MigratesTo p text v other
IsMigrated p text v (migrated.Rejected n r) = IsVerdict p text (verdict.Rejected n r)

-- ---- the verdicts on an answer's texts in both versions

abbrev pub steps_of : Answer → List Step
steps_of (answer.Model values) = []
steps_of (answer.Refutation steps) = steps
steps_of (answer.Progress steps) = steps

-- the literals of a chain are literals of the format, as each `Lit` is
abbrev pub has_literals : Step → Bool
has_literals (step.Lemma l) = true
has_literals (step.Chain c) = list_all is_literal c.clause

-- what every answer in memory meets: literals that a `Lit` holds, and few enough steps behind c clauses that a `u64` holds their numbers
pub record FitsMemory (c : ℕ) (a : Answer) : Type 0 where
  pub literals : IsTrue (list_all has_literals (steps_of a))
  pub few : c + length (steps_of a) < 2 ^ 64

-- a line further, where it names a line
abbrev pub one_line_later : Verdict → Verdict
one_line_later (verdict.Rejected n r) = verdict.Rejected (n + 1) r
one_line_later v = v

-- ---- on the way

-- of the lines that are no blank lines and no comments
abbrev pub version_in : List (ℕ × List ℕ) → Version
version_in [] = version.One
version_in (l ∷ ls) = if is_version_two (tokens_of l.1) then version.Two else version.One

-- the steps of lines, of which the next has this number
abbrev pub steps_held : Version → ℕ → List (ℕ × List ℕ) → List Step
steps_held v m lines = steps_in (items_by v m (items_in lines))
