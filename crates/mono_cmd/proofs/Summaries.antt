-- What a run of `gen` with `--solve` shows of the problem that the generated input stands for.
use Rattle.std.proofs.Common.{◌≡◌, ◌<◌, ◌^◌, ℕ, Bool, true, List, ◌++◌, length, Option, Some, refl, ap, subst, ◌∙◌}
use Rattle.std.specs.Prelude.{codes}
use Rattle.std.proofs.lemmas.List.{append-nil}
use Rattle.mono_problem.specs.Instance.{Instance, edges_total}
use Rattle.mono_problem.specs.Holds.{HasNoModel, Satisfies}
use Rattle.mono_gnf.proofs.WellFormedReading.{stands_well_formed}
use Rattle.mono_gen.specs.Generated.{generated}
use Rattle.mono_answer.specs.declared.answer.Answer.{Answer}
use Rattle.mono_answer.specs.declared.answer.Answer.TheVariants as answer
use Rattle.mono_answer.specs.Printed.{answer_text}
use Rattle.mono_check.specs.declared.verdict.Verdict.{Verdict}
use Rattle.mono_check.specs.declared.verdict.Verdict.TheVariants as verdict
use Rattle.mono_check.proofs.Accepted.{same_verdict}
use Rattle.mono_io.specs.Shelf.{ShelfView}
use Rattle.mono_words.specs.declared.command.Command.{Command}
use Rattle.mono_words.specs.declared.command.Command.TheVariants as command
use Rattle.mono_words.specs.declared.command.TheConstants.{DEFAULT_BUDGET}
use Rattle.mono_forms.specs.declared.status.Status.{Status}
use Rattle.mono_forms.specs.declared.status.Status.TheVariants as status
use Rattle.mono_forms.specs.declared.summary.Summary.{Summary}
use Rattle.mono_forms.specs.declared.ending.Ending.{Ending}
use Rattle.mono_forms.specs.declared.ending.Ending.TheVariants as ending
use Rattle.mono_forms.specs.Endings.{status_of, answer_status, result_word, verdict_text, progress_text, summary_lines, summary_text}
use Rattle.mono_forms.specs.Solved.{IsSolution, IsSummary, verdict_of}
use Rattle.mono_forms.specs.Runs.{ComesTo, Runs, SumsUp, SolvesGenerated, summary_of, IsSummaryBy}
use Rattle.mono_forms.proofs.Replies.{is_reply, same_problem, shown, said}
use Rattle.mono_cmd.proofs.Solves.{Shows, solution_shows}

-- ---- the text

abbrev text_with : ℕ → ℕ → ℕ → ℕ → Verdict → Answer → List ℕ
text_with vars clauses edges predicates v a = summary_lines vars clauses edges predicates (result_word a) (verdict_text v) ++ progress_text a

-- the sizes are the problem's, and the verdict is the answer's
right_text : (p : Instance) (s : Summary) → IsSummary p DEFAULT_BUDGET s → summary_text s ≡ summary_of p (result_word s.answer) (verdict_text (verdict_of s.answer)) ++ progress_text s.answer
right_text p s right =
    let judged = same_verdict p (answer_text s.answer) s.verdict (verdict_of s.answer) right.judged right.solves.accepted in
    ap (λ (text : List ℕ). summary_lines s.vars s.clauses s.edges s.predicates (result_word s.answer) (verdict_text s.verdict) ++ text) right.progress
    ∙ (ap (λ (n : ℕ). text_with n s.clauses s.edges s.predicates s.verdict s.answer) right.vars
    ∙ (ap (λ (n : ℕ). text_with p.vars n s.edges s.predicates s.verdict s.answer) right.clauses
    ∙ (ap (λ (n : ℕ). text_with p.vars (length p.clauses) n s.predicates s.verdict s.answer) right.edges
    ∙ (ap (λ (n : ℕ). text_with p.vars (length p.clauses) (edges_total p) n s.verdict s.answer) right.predicates
    ∙ ap (λ (v : Verdict). text_with p.vars (length p.clauses) (edges_total p) (length p.atoms) v s.answer) judged))))

abbrev IsText : Instance → List ℕ → Answer → Type 0
IsText p text a = text ≡ summary_of p (result_word a) (verdict_text (verdict_of a)) ++ progress_text a

its_text : (p : Instance) (text : List ℕ) (a : Answer) → IsSolution p DEFAULT_BUDGET a → IsText p text a → IsSummaryBy (answer_status a) p text
its_text p text (answer.Model values) h is = is ∙ append-nil (summary_of p (codes "satisfiable") (codes "accepted model\n"))
its_text p text (answer.Refutation steps) h is = is ∙ append-nil (summary_of p (codes "unsatisfiable") (codes "accepted refutation\n"))
its_text p text (answer.Progress steps) h is =
    (steps, h.right, is ∙ ap (λ (n : ℕ). summary_of p (codes "unknown") (verdict_text (verdict.Progress n)) ++ answer_text (answer.Progress steps)) h.right.chains)

-- ---- as clauses of a run

module _ (found : Option Command) (old new : ShelfView) (s : Status) (before now : Option (List ℕ)) (runs : Runs found old new s before now) (p : Instance) (solves : SolvesGenerated found p) where
  came : (e : Ending) → ComesTo found old new e → is_reply (status_of e) ≡ true → (t : Summary) × (e ≡ ending.Summed t) × IsSummary p DEFAULT_BUDGET t
  came e comes reply =
      let over : ComesTo (Some (command.Gen solves.kind solves.size solves.seed true)) old new e = subst (λ (c : Option Command). ComesTo c old new e) solves.is comes in
      let sums : SumsUp solves.kind solves.size solves.seed e = over.0 in
      let same = same_problem (generated solves.kind solves.size solves.seed) sums.problem p sums.stands solves.stands in
      (sums.summary, sums.is, subst (λ (q : Instance). IsSummary q DEFAULT_BUDGET sums.summary) same sums.right)

  shows : (t : Status) → is_reply t ≡ true → s ≡ t → Shows p DEFAULT_BUDGET t
  shows =
      shown found old new s before now runs Summary (λ t. ending.Summed t) (λ t. IsSummary p DEFAULT_BUDGET t) came (Shows p DEFAULT_BUDGET)
      (λ t h w. solution_shows p DEFAULT_BUDGET t.answer (stands_well_formed (generated solves.kind solves.size solves.seed) p solves.stands) h.solves)

  pub gen_satisfiable : s ≡ status.Satisfiable → (a : ℕ → Bool) × Satisfies p a
  gen_satisfiable = shows status.Satisfiable refl

  pub gen_unsatisfiable : s ≡ status.Unsatisfiable → HasNoModel p
  gen_unsatisfiable = shows status.Unsatisfiable refl

  pub gen_unknown : s ≡ status.Unknown → DEFAULT_BUDGET < 3 ^ p.vars
  gen_unknown = shows status.Unknown refl

  pub summed : (there written : List ℕ) → before ≡ Some there → now ≡ Some (there ++ written) → IsSummaryBy s p written
  summed =
      said found old new s before now runs Summary (λ t. ending.Summed t) (λ t. IsSummary p DEFAULT_BUDGET t) came
      (λ t text. IsSummaryBy t p text) (λ text. (tt, tt, tt, tt, tt, tt)) (λ t h. its_text p (summary_text t) t.answer h.solves (right_text p t h))
