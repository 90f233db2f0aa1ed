-- What is found under assumptions, and that `check-with` accepts what `core` writes of it.
use Rattle.std.proofs.Common.{ℕ, Bool, true, false, List, [], ◌∷◌, length, map, All, ℤ, refl, sym, subst}
use Rattle.std.specs.Prelude.{IsTrue}
use Rattle.std.proofs.lemmas.Bool.{and_parts, and_from}
use Rattle.std.proofs.lemmas.List.Folds.{list_all-append}
use Rattle.mono_base.specs.declared.limits.TheConstants.{MAX_VARS}
use Rattle.mono_base.specs.Literal.{IsLitWithin, clause_true, all_true, value_in}
use Rattle.mono_problem.specs.Instance.{Instance}
use Rattle.mono_problem.specs.WellFormed.{IsInstance}
use Rattle.mono_problem.specs.Holds.{Satisfies, HasNoModel}
use Rattle.mono_problem.specs.Assuming.{assuming, HasRoom}
use Rattle.mono_problem.proofs.Assumed.{assuming-instance}
use Rattle.mono_steps.specs.declared.step.Step.{Step}
use Rattle.mono_steps.specs.Steps.{are_justified, ends_empty}
use Rattle.mono_steps.specs.Renumbering.{pick}
use Rattle.mono_steps.proofs.StepTruth.{refutation_excludes}
use Rattle.mono_answer.specs.declared.kind.Kind.TheVariants as kind
use Rattle.mono_answer.specs.declared.answer.Answer.TheVariants as answer
use Rattle.mono_answer.specs.Printed.{answer_text}
use Rattle.mono_check.specs.declared.verdict.Verdict.TheVariants as verdict
use Rattle.mono_check.specs.Verdicts.{IsVerdict}
use Rattle.mono_check.proofs.Accepted.{refutation_iff}
use Rattle.mono_search.specs.Outcomes.{HasModel}
use Rattle.mono_steps.specs.New.{IsProgress}
use Rattle.mono_steps.specs.Trimmed.{IsTrimRefutation}
use Rattle.mono_core.specs.declared.outcome.Need.{Need}
use Rattle.mono_core.specs.declared.outcome.CoreOutcome.{CoreOutcome}
use Rattle.mono_core.specs.declared.outcome.CoreOutcome.TheVariants as outcome
use Rattle.mono_core.specs.Cores.{IsCore, IsCoreOutcome}
use Rattle.mono_core.proofs.Minimal.{pick_within}
use Rattle.mono_core.proofs.Needs.{room_fewer}
use Rattle.mono_forms.specs.CoreTexts.{outcome_text}
use Rattle.mono_forms.specs.Solved.{IsNarrowing}
use Rattle.mono_forms.specs.Runs.{AreConsistentOutcomes}
use Rattle.mono_forms.proofs.Format.{steps_within}
use Rattle.mono_forms.proofs.Notes.{keeps_core}
use Rattle.mono_forms.proofs.Solutions.{model_solves, progress_solves, printed_steps, few_steps}

-- ---- problems under some of the assumptions

core_instance : (p : Instance) (budget : ℕ) (assumed lits : List ℤ) (steps : List Step) (needs : List Need) → IsInstance p → All (IsLitWithin MAX_VARS) assumed → HasRoom p assumed
    → IsCore p budget assumed lits steps needs → IsInstance (assuming p lits)
core_instance p budget assumed lits steps needs ok within room core =
    subst (λ (ls : List ℤ). IsInstance (assuming p ls)) (sym core.is)
    (assuming-instance p (pick core.kept assumed) ok (pick_within MAX_VARS core.kept assumed within) (room_fewer p assumed core.kept core.as_many room))

-- what satisfies a problem under all assumptions satisfies it under some
units_picked : (a : ℕ → Bool) (bs : List Bool) (xs : List ℤ) → IsTrue (all_true a (map (λ l. l ∷ []) xs)) → IsTrue (all_true a (map (λ l. l ∷ []) (pick bs xs)))
units_picked a [] xs h = refl
units_picked a (b ∷ bs) [] h = refl
units_picked a (true ∷ bs) (x ∷ xs) h =
    let both = and_parts (clause_true a (x ∷ [])) (all_true a (map (λ l. l ∷ []) xs)) h in
    and_from (clause_true a (x ∷ [])) (all_true a (map (λ l. l ∷ []) (pick bs xs))) both.0 (units_picked a bs xs both.1)
units_picked a (false ∷ bs) (x ∷ xs) h = units_picked a bs xs (and_parts (clause_true a (x ∷ [])) (all_true a (map (λ l. l ∷ []) xs)) h).1

satisfies_picked : (p : Instance) (a : ℕ → Bool) (bs : List Bool) (xs : List ℤ) → Satisfies (assuming p xs) a → Satisfies (assuming p (pick bs xs)) a
satisfies_picked p a bs xs h =
    let more = map (λ (l : ℤ). l ∷ []) xs in
    let fewer = map (λ (l : ℤ). l ∷ []) (pick bs xs) in
    let both = and_parts (all_true a p.clauses) (all_true a more) (subst (λ (v : Bool). IsTrue v) (list_all-append (clause_true a) p.clauses more) h.0) in
    let all = and_from (all_true a p.clauses) (all_true a fewer) both.0 (units_picked a bs xs both.1) in
    (subst (λ (v : Bool). IsTrue v) (sym (list_all-append (clause_true a) p.clauses fewer)) all, h.1)

-- a core excludes a model under all assumptions
pub core_excludes : (p : Instance) (budget : ℕ) (assumed lits : List ℤ) (steps : List Step) (needs : List Need) → IsInstance p → All (IsLitWithin MAX_VARS) assumed → HasRoom p assumed
    → IsCore p budget assumed lits steps needs → HasNoModel (assuming p assumed)
core_excludes p budget assumed lits steps needs ok within room core = λ a satisfies.
    refutation_excludes (assuming p lits) steps (core_instance p budget assumed lits steps needs ok within room core) core.refutes.refutes a
    (subst (λ (ls : List ℤ). Satisfies (assuming p ls) a) (sym core.is) (satisfies_picked p a core.kept assumed satisfies))

-- ---- what `core` writes is accepted

model_narrows : (p : Instance) (budget : ℕ) (assumed : List ℤ) (values : List Bool) → IsInstance p → All (IsLitWithin MAX_VARS) assumed → HasRoom p assumed
    → HasModel (assuming p assumed) values → IsNarrowing p budget assumed (outcome.Model values)
model_narrows p budget assumed values ok within room h = record {
  literals = within;
  right = h;
  accepted = (model_solves (assuming p assumed) budget values (assuming-instance p assumed ok within room) h).accepted;
}

progress_narrows : (p : Instance) (budget : ℕ) (assumed : List ℤ) (steps : List Step) → IsInstance p → All (IsLitWithin MAX_VARS) assumed → HasRoom p assumed
    → IsProgress (assuming p assumed) budget steps → IsNarrowing p budget assumed (outcome.Unknown steps)
progress_narrows p budget assumed steps ok within room h = record {
  literals = within;
  right = h;
  accepted = (progress_solves (assuming p assumed) budget steps (assuming-instance p assumed ok within room) h).accepted;
}

-- the lines of the core and of its needs are skipped
core_accepted : (q : Instance) (lits : List ℤ) (steps : List Step) (needs : List Need) → IsInstance q → IsTrimRefutation q steps
    → IsVerdict q (outcome_text (outcome.Core lits steps needs)) verdict.Refutation
core_accepted q lits steps needs ok trim =
    let justified = (and_parts (are_justified q steps) (ends_empty steps) trim.refutes).0 in
    let within = steps_within q q.clauses steps ok (few_steps q steps ok trim.short) justified in
    let alone = printed_steps (length q.clauses) kind.Refutation (answer.Refutation steps) steps refl within in
    (refutation_iff q (outcome_text (outcome.Core lits steps needs))).1
    (steps, keeps_core lits needs (length q.clauses) kind.Refutation (answer_text (answer.Refutation steps)) steps alone, trim.refutes)

core_narrows : (p : Instance) (budget : ℕ) (assumed lits : List ℤ) (steps : List Step) (needs : List Need) → IsInstance p → All (IsLitWithin MAX_VARS) assumed → HasRoom p assumed
    → IsCore p budget assumed lits steps needs → IsNarrowing p budget assumed (outcome.Core lits steps needs)
core_narrows p budget assumed lits steps needs ok within room core = record {
  literals = within;
  right = core;
  accepted = core_accepted (assuming p lits) lits steps needs (core_instance p budget assumed lits steps needs ok within room core) core.refutes;
}

pub outcome_narrows : (p : Instance) (budget : ℕ) (assumed : List ℤ) (o : CoreOutcome) → IsInstance p → All (IsLitWithin MAX_VARS) assumed → HasRoom p assumed → IsCoreOutcome p budget assumed o
    → IsNarrowing p budget assumed o
outcome_narrows p budget assumed (outcome.Model values) ok within room h = model_narrows p budget assumed values ok within room h
outcome_narrows p budget assumed (outcome.Core lits steps needs) ok within room h = core_narrows p budget assumed lits steps needs ok within room h
outcome_narrows p budget assumed (outcome.Unknown steps) ok within room h = progress_narrows p budget assumed steps ok within room h

-- ---- two outcomes

pub consistent_outcomes : (p : Instance) (budget : ℕ) (assumed : List ℤ) (a b : CoreOutcome) → IsInstance p → HasRoom p assumed → IsNarrowing p budget assumed a → IsNarrowing p budget assumed b → AreConsistentOutcomes a b
consistent_outcomes p budget assumed (outcome.Model values) (outcome.Core lits steps needs) ok room x y =
    core_excludes p budget assumed lits steps needs ok y.literals room y.right (value_in values) x.right.satisfies
consistent_outcomes p budget assumed (outcome.Core lits steps needs) (outcome.Model values) ok room x y =
    core_excludes p budget assumed lits steps needs ok x.literals room x.right (value_in values) y.right.satisfies
consistent_outcomes p budget assumed a b ok room x y = tt
