-- `check` accepts what an answer's text says.
use Rattle.std.proofs.Common.{◌≡◌, ℕ, ◌+◌, ◌<◌, ◌^◌, Bool, List, ◌∷◌, length, map, refl, ap, ◌∙◌, arith}
use Rattle.std.specs.Prelude.{IsTrue}
use Rattle.std.proofs.lemmas.Bool.{and_parts}
use Rattle.mono_problem.specs.Instance.{Instance}
use Rattle.mono_problem.specs.WellFormed.{IsInstance}
use Rattle.mono_steps.specs.declared.step.Step.{Step}
use Rattle.mono_steps.specs.Steps.{are_justified, ends_empty}
use Rattle.mono_steps.specs.Journals.{chain_count}
use Rattle.mono_answer.specs.declared.kind.Kind.{Kind}
use Rattle.mono_answer.specs.declared.kind.Kind.TheVariants as kind
use Rattle.mono_answer.specs.declared.item.Item.TheVariants as says
use Rattle.mono_answer.specs.declared.answer.Answer.{Answer}
use Rattle.mono_answer.specs.declared.answer.Answer.TheVariants as answer
use Rattle.mono_answer.specs.declared.version.Version.TheVariants as version
use Rattle.mono_answer.specs.Printed.{answer_text, answer_items, in_lines, is_within_format}
use Rattle.mono_answer.proofs.RoundTrip.{printed_is_read}
use Rattle.mono_check.specs.Answers.{HasSteps, SaysModel}
use Rattle.mono_check.proofs.Accepted.{refutation_iff, progress_iff, model_iff}
use Rattle.mono_check.proofs.PrintedValues.{model_stands}
use Rattle.mono_check.proofs.Stands.{has_steps}
use Rattle.mono_search.specs.Outcomes.{HasModel}
use Rattle.mono_steps.specs.Trimmed.{IsTrimRefutation}
use Rattle.mono_steps.specs.New.{IsProgress}
use Rattle.mono_forms.specs.Solved.{IsSolution}
use Rattle.mono_forms.proofs.Format.{steps_within}

-- ---- models

pub printed_model : (p : Instance) (values : List Bool) → IsInstance p → length values ≡ p.vars → SaysModel p (answer_text (answer.Model values)) values
printed_model p values ok len = model_stands p values version.One ok len

pub model_solves : (p : Instance) (budget : ℕ) (values : List Bool) → IsInstance p → HasModel p values → IsSolution p budget (answer.Model values)
model_solves p budget values ok h = record {
  right = h;
  accepted = (model_iff p (answer_text (answer.Model values))).1 (values, printed_model p values ok h.len, h.satisfies);
}

-- ---- steps

pub printed_steps : (c : ℕ) (k : Kind) (a : Answer) (steps : List Step) → answer_items a ≡ says.Status k ∷ map says.Step steps → IsTrue (is_within_format a) → HasSteps c k (answer_text a) steps
printed_steps c k a steps is within =
    has_steps c 1 k (answer_text a) steps (printed_is_read c a within ∙ ap in_lines is)

-- so many steps have clause numbers that the format can write
pub few_steps : (p : Instance) (steps : List Step) → IsInstance p → length steps < 2 ^ 63 → length p.clauses + length steps < 2 ^ 64
few_steps p steps ok few = omega (arith, few, ok.few_clauses)

pub refutation_solves : (p : Instance) (budget : ℕ) (steps : List Step) → IsInstance p → IsTrimRefutation p steps → IsSolution p budget (answer.Refutation steps)
refutation_solves p budget steps ok h =
    let justified = (and_parts (are_justified p steps) (ends_empty steps) h.refutes).0 in
    let within = steps_within p p.clauses steps ok (few_steps p steps ok h.short) justified in
    record {
      right = h;
      accepted = (refutation_iff p (answer_text (answer.Refutation steps))).1 (steps, printed_steps (length p.clauses) kind.Refutation (answer.Refutation steps) steps refl within, h.refutes);
    }

pub progress_solves : (p : Instance) (budget : ℕ) (steps : List Step) → IsInstance p → IsProgress p budget steps → IsSolution p budget (answer.Progress steps)
progress_solves p budget steps ok h =
    let within = steps_within p p.clauses steps ok (few_steps p steps ok h.short) h.justified in
    record {
      right = h;
      accepted = (progress_iff p (answer_text (answer.Progress steps)) (chain_count steps)).1 (steps, printed_steps (length p.clauses) kind.Progress (answer.Progress steps) steps refl within, h.justified, refl);
    }
