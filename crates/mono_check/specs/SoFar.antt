-- What the lines so far have said, as the checker keeps it, and what the lines behind them come to.
use Rattle.std.specs.Prelude.{ℕ, ◌+◌, ℤ, Bool, true, false, if◌then◌else◌, List, [], ◌∷◌, ◌++◌, length, Option, Some, None, option_map, is_some}
use Rattle.std.specs.Option.{option_or}
use Rattle.mono_problem.specs.Instance.{Instance}
use Rattle.mono_steps.specs.Steps.{clause_of, is_empty_chain}
use Rattle.mono_answer.specs.declared.item.Item.{Item}
use Rattle.mono_answer.specs.declared.item.Item.TheVariants as says
use Rattle.mono_answer.specs.declared.version.Version.{Version}
use Rattle.mono_answer.specs.declared.version.Version.TheVariants as version
use Rattle.mono_answer.specs.Versions.{items_by}
use Rattle.mono_answer.specs.Items.{spoken, version_line, answer_said_in, items_in}
use Rattle.mono_check.specs.declared.reason.Reason.{Reason}
use Rattle.mono_check.specs.declared.reason.Reason.TheVariants as reason
use Rattle.mono_check.specs.declared.verdict.Verdict.{Verdict}
use Rattle.mono_check.specs.declared.verdict.Verdict.TheVariants as verdict
use Rattle.mono_check.specs.Values.{lits_in, ends_in, value_fault, model_of}
use Rattle.mono_check.specs.StepLines.{is_chain, step_line_fault}
use Rattle.mono_check.specs.Verdicts.{Outcome, Decided, or_rejected, ended_outcome, items_outcome}

-- of a model: the literals, the line of the ending 0, and the last line, at first the status line
pub record ModelSoFar : Type 0 where
  pub lits : List ℤ
  pub end : Option ℕ
  pub last : ℕ

-- of steps: their clauses, how many are chains, whether the last is a chain with the empty clause, and the last line
pub record StepsSoFar : Type 0 where
  pub clauses : List (List ℤ)
  pub chains : ℕ
  pub ends_empty : Bool
  pub last : ℕ

-- no line but blank ones and comments; the version line, by its number; a status line and what follows it, where steps say how their
-- chains count and whether they are to be a refutation; or a line at fault, and why
pub data SoFar : Type 0 where
  Nothing : SoFar
  OfVersion : ℕ → SoFar
  OfModel : ModelSoFar → SoFar
  OfSteps : Version → Bool → StepsSoFar → SoFar
  AtFault : ℕ → Reason → SoFar

-- the lines, where a fault of the first decides
abbrev pub or_fault : ℕ → Option Reason → Outcome → Outcome
or_fault n fault o = or_rejected (option_map (λ r. (n, r)) fault) o

-- ---- models

-- behind the status line, line n
abbrev pub no_values : ℕ → ModelSoFar
no_values n = record { lits = []; end = None; last = n }

-- behind one more line

abbrev pub model_more : ℕ → Option Item → ModelSoFar → ModelSoFar
model_more n i m = record { lits = m.lits ++ lits_in i; end = option_or m.end (if ends_in i then Some n else None); last = n }

abbrev pub model_behind : Instance → ModelSoFar → List (ℕ × Option Item) → Outcome
model_behind p m [] = ended_outcome p m.end m.last (model_of p m.lits)
model_behind p m ((n, i) ∷ ls) = or_fault n (value_fault p m.lits (is_some m.end) i) (model_behind p (model_more n i m) ls)

-- ---- steps

abbrev pub no_steps : ℕ → StepsSoFar
no_steps n = record { clauses = []; chains = 0; ends_empty = false; last = n }

abbrev pub steps_more : ℕ → Option Item → StepsSoFar → StepsSoFar
steps_more n (Some (says.Step r)) s = record {
  clauses = s.clauses ++ clause_of r ∷ [];
  chains = (if is_chain r then s.chains + 1 else s.chains);
  ends_empty = is_empty_chain r;
  last = n;
}
steps_more n i s = s

abbrev pub steps_so_far : Bool → StepsSoFar → Verdict
steps_so_far true s = if s.ends_empty then verdict.Refutation else verdict.Rejected s.last reason.NoEmptyClause
steps_so_far false s = verdict.Progress s.chains

abbrev pub steps_behind : Instance → Bool → StepsSoFar → List (ℕ × Option Item) → Outcome
steps_behind p refutes s [] = Decided (steps_so_far refutes s)
steps_behind p refutes s ((n, i) ∷ ls) = or_fault n (step_line_fault p s.clauses i) (steps_behind p refutes (steps_more n i s) ls)

-- ---- answers

-- the number of the next step behind steps with these clauses
abbrev pub next_number : Instance → List (List ℤ) → ℕ
next_number p earlier = length p.clauses + length earlier + 1

-- what the answer comes to where these are the items behind, as they are written, and no version line comes
abbrev pub behind_items : Instance → SoFar → List (ℕ × Option Item) → Outcome
behind_items p Nothing ls = items_outcome p 1 ls
behind_items p (OfVersion n) ls = items_outcome p n (items_by version.Two (length p.clauses + 1) ls)
behind_items p (OfModel m) ls = model_behind p m ls
behind_items p (OfSteps v refutes s) ls = steps_behind p refutes s (items_by v (next_number p s.clauses) ls)
behind_items p (AtFault n r) ls = Decided (verdict.Rejected n r)

-- what the answer comes to where these are the lines behind. A version line may come where there was no other line
abbrev pub behind : Instance → SoFar → List (ℕ × List ℕ) → Outcome
behind p Nothing lines = items_outcome p (version_line (spoken lines)) (answer_said_in (length p.clauses) (spoken lines))
behind p s lines = behind_items p s (items_in lines)
