-- The verdict on an answer. Whether a predicate holds isn't computed, so what a text comes to is a verdict, or values that the predicates decide on.
use Rattle.std.specs.Prelude.{◌≡◌, ℕ, Bool, true, false, List, [], ◌∷◌, length, if◌then◌else◌, Option, Some, None}
use Rattle.mono_base.specs.Literal.{value_in}
use Rattle.mono_problem.specs.Instance.{Instance}
use Rattle.mono_problem.specs.Holds.{Agrees}
use Rattle.mono_steps.specs.Steps.{ends_empty}
use Rattle.mono_answer.specs.declared.kind.Kind.TheVariants as kind
use Rattle.mono_answer.specs.declared.item.Item.{Item}
use Rattle.mono_answer.specs.declared.item.Item.TheVariants as says
use Rattle.mono_answer.specs.Items.{items_of, first_line_of}
use Rattle.mono_check.specs.declared.reason.Reason.{Reason}
use Rattle.mono_check.specs.declared.reason.Reason.TheVariants as reason
use Rattle.mono_check.specs.declared.verdict.Verdict.{Verdict}
use Rattle.mono_check.specs.declared.verdict.Verdict.TheVariants as verdict
use Rattle.mono_check.specs.Lines.{first_fault, last_line}
use Rattle.mono_check.specs.Values.{model_line_fault, literals_in, end_line, model_of, false_clause}
use Rattle.mono_check.specs.StepLines.{steps_line_fault, steps_in}
use Rattle.mono_steps.specs.Journals.{chain_count}
use Rattle.mono_check.specs.Atoms.{IsFirstWrong}

-- a verdict, or values without a false clause whose ending 0 stands in this line
pub data Outcome : Type 0 where
  Decided : Verdict → Outcome
  ValuesIn : ℕ → List Bool → Outcome

abbrev pub or_rejected : Option (ℕ × Reason) → Outcome → Outcome
or_rejected None o = o
or_rejected (Some (n, r)) o = Decided (verdict.Rejected n r)

-- ---- models

-- values whose ending 0 stands in line n: a false clause is told first
abbrev pub values_outcome : ℕ → Option ℕ → List Bool → Outcome
values_outcome n (Some k) values = Decided (verdict.Rejected n (reason.ClauseFalse k))
values_outcome n None values = ValuesIn n values

-- where no line behind the status line, line n, is at fault
abbrev pub ended_outcome : Instance → Option ℕ → ℕ → List Bool → Outcome
ended_outcome p None n values = Decided (verdict.Rejected n reason.BadLine)
ended_outcome p (Some k) n values = values_outcome k (false_clause p values) values

abbrev pub model_end : Instance → ℕ → List (ℕ × Option Item) → Outcome
model_end p n ls = ended_outcome p (end_line ls) (last_line n ls) (model_of p (literals_in ls))

-- what the lines behind the status line come to
abbrev pub model_outcome : Instance → ℕ → List (ℕ × Option Item) → Outcome
model_outcome p n ls = or_rejected (first_fault (model_line_fault p) [] ls) (model_end p n ls)

-- ---- steps

-- justified steps: a refutation ends in a chain with the empty clause
abbrev pub steps_verdict : Bool → ℕ → List (ℕ × Option Item) → Verdict
steps_verdict true n ls = if ends_empty (steps_in ls) then verdict.Refutation else verdict.Rejected (last_line n ls) reason.NoEmptyClause
steps_verdict false n ls = verdict.Progress (chain_count (steps_in ls))

abbrev pub steps_end : Bool → ℕ → List (ℕ × Option Item) → Outcome
steps_end refutes n ls = Decided (steps_verdict refutes n ls)

-- what the lines behind the status line come to, which says whether they are a refutation
abbrev pub steps_outcome : Instance → Bool → ℕ → List (ℕ × Option Item) → Outcome
steps_outcome p refutes n ls = or_rejected (first_fault (steps_line_fault p) [] ls) (steps_end refutes n ls)

-- ---- answers

-- what the items come to. Line m is named where there are none
abbrev pub items_outcome : Instance → ℕ → List (ℕ × Option Item) → Outcome
items_outcome p m [] = Decided (verdict.Rejected m reason.NotAnswer)
items_outcome p m ((n, Some (says.Status kind.Model)) ∷ ls) = model_outcome p n ls
items_outcome p m ((n, Some (says.Status kind.Refutation)) ∷ ls) = steps_outcome p true n ls
items_outcome p m ((n, Some (says.Status kind.Progress)) ∷ ls) = steps_outcome p false n ls
items_outcome p m ((n, i) ∷ ls) = Decided (verdict.Rejected n reason.NotAnswer)

-- what the text of an answer to the problem comes to, in either version
abbrev pub outcome_of : Instance → List ℕ → Outcome
outcome_of p text = items_outcome p (first_line_of text) (items_of (length p.clauses) text)

-- ---- the verdict

-- values are a model where each predicate's variable agrees with its predicate. Otherwise the first that doesn't is named
abbrev pub IsVerdictOf : Instance → Outcome → Verdict → Type 0
IsVerdictOf p (Decided w) v = v ≡ w
IsVerdictOf p (ValuesIn n values) verdict.Model = Agrees p (value_in values)
IsVerdictOf p (ValuesIn n values) (verdict.Rejected m (reason.AtomWrong k)) = (m ≡ n) × IsFirstWrong p (value_in values) k
IsVerdictOf p (ValuesIn n values) v = ⊥

-- the verdict on the text of an answer to the problem
abbrev pub IsVerdict : Instance → List ℕ → Verdict → Type 0
IsVerdict p text v = IsVerdictOf p (outcome_of p text) v
