-- What lines come to behind what the checker keeps of those before them.
use Rattle.std.proofs.Common.{◌≡◌, ℕ, List, [], ◌∷◌, ◌++◌, Bool, true, false, Option, Some, None, refl, ap, ◌∙◌, is_some}
use Rattle.mono_problem.specs.Instance.{Instance}
use Rattle.mono_answer.specs.declared.item.Item.{Item}
use Rattle.mono_check.specs.declared.reason.Reason.{Reason}
use Rattle.mono_check.specs.Values.{literals_in, end_line, value_fault, model_line_fault}
use Rattle.mono_check.specs.StepLines.{clauses_in, step_line_fault, steps_line_fault}
use Rattle.mono_check.specs.SoFar.{ModelSoFar, StepsSoFar, or_fault, model_behind, model_more, steps_behind, steps_more}
use Rattle.mono_check.specs.Verdicts.{model_end, steps_end}
use Rattle.mono_check.proofs.Walked.{walked, walked_on, walked_to_fault, walked_all}
use Rattle.mono_check.proofs.SeenMore.{ended_by_line, model_said, model_said_more, steps_said, steps_said_more}

-- ---- steps

same_end : (p : Instance) (refutes : Bool) (n : ℕ) (before : List (ℕ × Option Item)) → steps_end refutes n before ≡ steps_behind p refutes (steps_said n before) []
same_end p true n before = refl
same_end p false n before = refl

steps_line : (p : Instance) (refutes : Bool) (n : ℕ) (before ls : List (ℕ × Option Item)) (m : ℕ) (i : Option Item) (o : Option Reason) → o ≡ step_line_fault p (clauses_in before) i
    → walked (steps_line_fault p) (steps_end refutes n) (before ++ (m, i) ∷ []) ls ≡ steps_behind p refutes (steps_said n (before ++ (m, i) ∷ [])) ls
    → walked (steps_line_fault p) (steps_end refutes n) before ((m, i) ∷ ls) ≡ steps_behind p refutes (steps_said n before) ((m, i) ∷ ls)
steps_line p refutes n before ls m i (Some r) e rest =
    walked_to_fault (steps_line_fault p) (steps_end refutes n) before ls m i r e
    ∙ ap (λ (o : Option Reason). or_fault m o (steps_behind p refutes (steps_more m i (steps_said n before)) ls)) e
steps_line p refutes n before ls m i None e rest =
    walked_on (steps_line_fault p) (steps_end refutes n) before ls m i e ∙ rest
    ∙ ap (λ (s : StepsSoFar). steps_behind p refutes s ls) (steps_said_more p n before m i e)
    ∙ ap (λ (o : Option Reason). or_fault m o (steps_behind p refutes (steps_more m i (steps_said n before)) ls)) e

-- the definition by the lines before is the one by what is kept of them
pub steps_walked : (p : Instance) (refutes : Bool) (n : ℕ) (before ls : List (ℕ × Option Item)) → walked (steps_line_fault p) (steps_end refutes n) before ls ≡ steps_behind p refutes (steps_said n before) ls
steps_walked p refutes n before [] = walked_all (steps_line_fault p) (steps_end refutes n) before ∙ same_end p refutes n before
steps_walked p refutes n before ((m, i) ∷ ls) = steps_line p refutes n before ls m i (step_line_fault p (clauses_in before) i) refl (steps_walked p refutes n (before ++ (m, i) ∷ []) ls)

-- ---- models

model_fault : (p : Instance) (n : ℕ) (before : List (ℕ × Option Item)) (i : Option Item) → model_line_fault p before i ≡ value_fault p (literals_in before) (is_some (end_line before)) i
model_fault p n before i = ap (λ (b : Bool). value_fault p (literals_in before) b i) (ended_by_line before)

model_line : (p : Instance) (n : ℕ) (before ls : List (ℕ × Option Item)) (m : ℕ) (i : Option Item) (o : Option Reason) → o ≡ model_line_fault p before i
    → walked (model_line_fault p) (model_end p n) (before ++ (m, i) ∷ []) ls ≡ model_behind p (model_said n (before ++ (m, i) ∷ [])) ls
    → walked (model_line_fault p) (model_end p n) before ((m, i) ∷ ls) ≡ model_behind p (model_said n before) ((m, i) ∷ ls)
model_line p n before ls m i (Some r) e rest =
    walked_to_fault (model_line_fault p) (model_end p n) before ls m i r e
    ∙ ap (λ (o : Option Reason). or_fault m o (model_behind p (model_more m i (model_said n before)) ls)) (e ∙ model_fault p n before i)
model_line p n before ls m i None e rest =
    walked_on (model_line_fault p) (model_end p n) before ls m i e ∙ rest
    ∙ ap (λ (s : ModelSoFar). model_behind p s ls) (model_said_more n before m i)
    ∙ ap (λ (o : Option Reason). or_fault m o (model_behind p (model_more m i (model_said n before)) ls)) (e ∙ model_fault p n before i)

pub model_walked : (p : Instance) (n : ℕ) (before ls : List (ℕ × Option Item)) → walked (model_line_fault p) (model_end p n) before ls ≡ model_behind p (model_said n before) ls
model_walked p n before [] = walked_all (model_line_fault p) (model_end p n) before
model_walked p n before ((m, i) ∷ ls) = model_line p n before ls m i (model_line_fault p before i) refl (model_walked p n (before ++ (m, i) ∷ []) ls)
