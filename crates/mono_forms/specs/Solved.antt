-- What `solve` answers, and what the summary of a solved problem says.
use Rattle.std.specs.Prelude.{◌≡◌, ℕ, ◌+◌, ℤ, pos, List, length, All}
use Rattle.mono_base.specs.declared.limits.TheConstants.{MAX_VARS}
use Rattle.mono_base.specs.Literal.{IsLitWithin}
use Rattle.mono_problem.specs.Instance.{Instance, edges_total}
use Rattle.mono_steps.specs.Journals.{chain_count}
use Rattle.mono_search.specs.Outcomes.{HasModel}
use Rattle.mono_steps.specs.Trimmed.{IsTrimRefutation}
use Rattle.mono_steps.specs.New.{IsProgress}
use Rattle.mono_answer.specs.declared.answer.Answer.{Answer}
use Rattle.mono_answer.specs.declared.answer.Answer.TheVariants as answer
use Rattle.mono_answer.specs.Printed.{answer_text}
use Rattle.mono_check.specs.declared.verdict.Verdict.{Verdict}
use Rattle.mono_check.specs.declared.verdict.Verdict.TheVariants as verdict
use Rattle.mono_check.specs.Verdicts.{IsVerdict}
use Rattle.mono_problem.specs.Assuming.{assuming}
use Rattle.mono_core.specs.declared.outcome.CoreOutcome.{CoreOutcome}
use Rattle.mono_core.specs.declared.outcome.CoreOutcome.TheVariants as outcome
use Rattle.mono_core.specs.Cores.{IsCoreOutcome}
use Rattle.mono_base.specs.declared.limits.TheConstants.{MAX_BOUND}
use Rattle.mono_best.specs.declared.outcome.BestOutcome.{BestOutcome}
use Rattle.mono_best.specs.declared.outcome.BestOutcome.TheVariants as bounded
use Rattle.mono_best.specs.Asking.{asking, predicate_of}
use Rattle.mono_best.specs.Bounds.{beyond, weakest}
use Rattle.mono_best.specs.Best.{IsBestOutcome}
use Rattle.mono_forms.specs.BestTexts.{best_text}
use Rattle.mono_forms.specs.CoreTexts.{outcome_text}
use Rattle.mono_forms.specs.declared.summary.Summary.{Summary}
use Rattle.mono_forms.specs.Endings.{progress_text}

abbrev pub IsAnswer : Instance → ℕ → Answer → Type 0
IsAnswer p budget (answer.Model values) = HasModel p values
IsAnswer p budget (answer.Refutation steps) = IsTrimRefutation p steps
IsAnswer p budget (answer.Progress steps) = IsProgress p budget steps

-- the verdict of `check` on its text
abbrev pub verdict_of : Answer → Verdict
verdict_of (answer.Model values) = verdict.Model
verdict_of (answer.Refutation steps) = verdict.Refutation
verdict_of (answer.Progress steps) = verdict.Progress (chain_count steps)

-- an answer to the problem within the budget, whose printed text `check` accepts
pub record IsSolution (p : Instance) (budget : ℕ) (a : Answer) : Type 0 where
  pub right : IsAnswer p budget a
  pub accepted : IsVerdict p (answer_text a) (verdict_of a)

-- the assumptions under which `check-with` judges what was found: all of them, or those of the core
abbrev pub judged_under : List ℤ → CoreOutcome → List ℤ
judged_under assumed (outcome.Model values) = assumed
judged_under assumed (outcome.Core lits steps needs) = lits
judged_under assumed (outcome.Unknown steps) = assumed

abbrev pub outcome_verdict : CoreOutcome → Verdict
outcome_verdict (outcome.Model values) = verdict.Model
outcome_verdict (outcome.Core lits steps needs) = verdict.Refutation
outcome_verdict (outcome.Unknown steps) = verdict.Progress (chain_count steps)

-- what was found of a problem under assumptions, which are literals, and whose printed text `check-with` accepts
pub record IsNarrowing (p : Instance) (budget : ℕ) (assumed : List ℤ) (o : CoreOutcome) : Type 0 where
  pub literals : All (IsLitWithin MAX_VARS) assumed
  pub right : IsCoreOutcome p budget assumed o
  pub accepted : IsVerdict (assuming p (judged_under assumed o)) (outcome_text o) (outcome_verdict o)

-- what was found of the bound of a predicate, whose printed text `check` accepts of the problem that asks for this bound
abbrev pub judged_bound : Instance → ℕ → BestOutcome → ℤ
judged_bound p n (bounded.Best b model steps) = beyond (predicate_of p n) b
judged_bound p n (bounded.Never steps) = weakest (predicate_of p n)
judged_bound p n (bounded.Beyond model) = pos (MAX_BOUND + 1)
judged_bound p n (bounded.Unknown b steps) = b

abbrev pub best_verdict : BestOutcome → Verdict
best_verdict (bounded.Best b model steps) = verdict.Refutation
best_verdict (bounded.Never steps) = verdict.Refutation
best_verdict (bounded.Beyond model) = verdict.Model
best_verdict (bounded.Unknown b steps) = verdict.Progress (chain_count steps)

pub record IsBounding (p : Instance) (budget n : ℕ) (o : BestOutcome) : Type 0 where
  pub right : IsBestOutcome p n budget o
  pub accepted : IsVerdict (asking p n (judged_bound p n o)) (best_text o) (best_verdict o)

-- the sizes of a problem, an answer to it, its text where it is progress, and the verdict of `check` on its text
pub record IsSummary (p : Instance) (budget : ℕ) (s : Summary) : Type 0 where
  pub vars : s.vars ≡ p.vars
  pub clauses : s.clauses ≡ length p.clauses
  pub edges : s.edges ≡ edges_total p
  pub predicates : s.predicates ≡ length p.atoms
  pub solves : IsSolution p budget s.answer
  pub progress : s.progress ≡ progress_text s.answer
  pub judged : IsVerdict p (answer_text s.answer) s.verdict
