-- What the answers that are accepted hold.
use Rattle.std.proofs.Common.{◌≡◌, ℕ, Bool, true, false, List, [], ◌∷◌, ◌++◌, length, map, Option, Some, None, option_map, is_some, refl, sym, ap, subst, ◌∙◌, ◌↔◌, append_assoc, append-nil, inl, inr, ◌⊎◌, ℤ}
use Rattle.std.specs.Prelude.{IsTrue, if◌then◌else◌}
use Rattle.std.specs.Option.{option_or}
use Rattle.std.specs.List.{cons_option}
use Rattle.std.proofs.lemmas.Bool.{and_parts, and_from}
use Rattle.mono_base.specs.Literal.{value_in}
use Rattle.mono_problem.specs.Holds.{Agrees, Satisfies, HasNoModel}
use Rattle.mono_problem.specs.Instance.{Instance}
use Rattle.mono_problem.specs.WellFormed.{IsInstance}
use Rattle.mono_steps.specs.declared.fault.StepFault.{StepFault}
use Rattle.mono_steps.specs.declared.step.Step.{Step}
use Rattle.mono_steps.specs.Steps.{clause_of, is_justified_step, are_justified_after, are_justified, ends_empty, is_refutation, step_fault}
use Rattle.mono_steps.proofs.StepTruth.{refutation_excludes}
use Rattle.mono_steps.proofs.StepFaults.{justified_without_fault}
use Rattle.mono_answer.specs.declared.kind.Kind.{Kind}
use Rattle.mono_answer.specs.declared.kind.Kind.TheVariants as kind
use Rattle.mono_answer.specs.declared.item.Item.{Item}
use Rattle.mono_answer.specs.declared.item.Item.TheVariants as says
use Rattle.mono_answer.specs.Items.{items_of, first_line_of, spoken_of}
use Rattle.mono_answer.proofs.SmallSteps.{IsSmallItem, AreSmallLines, answer_small}
use Rattle.mono_check.specs.declared.reason.Reason.{Reason}
use Rattle.mono_check.specs.declared.reason.Reason.TheVariants as reason
use Rattle.mono_check.specs.declared.verdict.Verdict.{Verdict}
use Rattle.mono_check.specs.declared.verdict.Verdict.TheVariants as verdict
use Rattle.mono_check.specs.Lines.{first_fault, last_line}
use Rattle.mono_check.specs.Values.{model_line_fault, literals_in, has_ended, end_line, model_of, false_clause}
use Rattle.mono_check.specs.StepLines.{step_line_fault, steps_line_fault, reason_of, clauses_in, steps_in, step_in}
use Rattle.mono_steps.specs.Journals.{chain_count}
use Rattle.mono_check.specs.Verdicts.{Outcome, Decided, ValuesIn, IsVerdictOf, IsVerdict, outcome_of, items_outcome, values_outcome, ended_outcome, model_end, steps_verdict, steps_end, or_rejected}
use Rattle.mono_check.specs.Migrations.{is_accepted}
use Rattle.mono_check.specs.Answers.{step_item, HasSteps, SaysModel}
use Rattle.mono_check.proofs.AllTrue.{none_false}
use Rattle.mono_check.proofs.ValueRows.{one_each, as_test, enough, no_end}
use Rattle.mono_check.proofs.ModelText.{to_faultless, from_faultless, to_rows, from_rows}
use Rattle.mono_check.proofs.SeenMore.{clauses_push, ended_by_line, unmapped, both_none}
use Rattle.mono_check.proofs.WrongAtoms.{wrong_disagrees, same_wrong}

-- ---- steps without a fault

-- the lines are those of the steps
abbrev AreStepLines : List (ℕ × Option Item) → List Step → Type 0
AreStepLines ls ss = map (λ l. l.1) ls ≡ map step_item ss

same_steps : (ls : List (ℕ × Option Item)) (ss : List Step) → AreStepLines ls ss → steps_in ls ≡ ss
same_steps [] [] h = refl
same_steps [] (s ∷ ss) h = absurd cc
same_steps (l ∷ ls) [] h = absurd cc
same_steps (l ∷ ls) (s ∷ ss) h =
    let head : l.1 ≡ Some (says.Step s) = cc in
    let rest : map (λ (k : ℕ × Option Item). k.1) ls ≡ map step_item ss = cc in
    ap (λ (i : Option Item). cons_option (step_in i) (steps_in ls)) head ∙ ap (λ (xs : List Step). s ∷ xs) (same_steps ls ss rest)

record Justified (p : Instance) (earlier : List (List ℤ)) (ls : List (ℕ × Option Item)) : Type 0 where
  lines : AreStepLines ls (steps_in ls)
  steps : IsTrue (are_justified_after p earlier (steps_in ls))

one_further : (p : Instance) (before : List (ℕ × Option Item)) (n : ℕ) (s : Step) → p.clauses ++ clauses_in (before ++ (n, Some (says.Step s)) ∷ []) ≡ (p.clauses ++ clauses_in before) ++ clause_of s ∷ []
one_further p before n s = ap (λ (cs : List (List ℤ)). p.clauses ++ cs) (clauses_push before n s) ∙ sym (append_assoc p.clauses (clauses_in before) (clause_of s ∷ []))

justified_lines : (p : Instance) (before ls : List (ℕ × Option Item)) → AreSmallLines ls → first_fault (steps_line_fault p) before ls ≡ None → Justified p (p.clauses ++ clauses_in before) ls
justified_lines p before [] small h = record { lines = refl; steps = refl }
justified_lines p before ((n, i) ∷ ls) small h = by_item i small.0 h (λ s k. justified_lines p (before ++ (n, Some (says.Step s)) ∷ []) ls small.1 k)
  where
    by_item : (j : Option Item) → IsSmallItem j → option_or (option_map (λ r. (n, r)) (step_line_fault p (clauses_in before) j)) (first_fault (steps_line_fault p) (before ++ (n, j) ∷ []) ls) ≡ None
        → ((s : Step) → first_fault (steps_line_fault p) (before ++ (n, Some (says.Step s)) ∷ []) ls ≡ None → Justified p (p.clauses ++ clauses_in (before ++ (n, Some (says.Step s)) ∷ [])) ls)
        → Justified p (p.clauses ++ clauses_in before) ((n, j) ∷ ls)
    by_item None m e later = absurd cc
    by_item (Some (says.Status k)) m e later = absurd cc
    by_item (Some (says.Values zs)) m e later = absurd cc
    by_item (Some (says.Step s)) m e later =
        let a = both_none (option_map (λ (r : Reason). (n, r)) (option_map reason_of (step_fault p (p.clauses ++ clauses_in before) s))) (first_fault (steps_line_fault p) (before ++ (n, Some (says.Step s)) ∷ []) ls) e in
        let none = unmapped reason_of (step_fault p (p.clauses ++ clauses_in before) s) (unmapped (λ (r : Reason). (n, r)) (option_map reason_of (step_fault p (p.clauses ++ clauses_in before) s)) a.0) in
        let rest = later s a.1 in
        record {
          lines = ap (λ (xs : List (Option Item)). Some (says.Step s) ∷ xs) rest.lines;
          steps = and_from (is_justified_step p (p.clauses ++ clauses_in before) s) (are_justified_after p ((p.clauses ++ clauses_in before) ++ clause_of s ∷ []) (steps_in ls))
              ((justified_without_fault p (p.clauses ++ clauses_in before) s).1 (m, none))
              (subst (λ (cs : List (List ℤ)). IsTrue (are_justified_after p cs (steps_in ls))) (one_further p before n s) rest.steps);
        }

lines_without_fault : (p : Instance) (before ls : List (ℕ × Option Item)) (ss : List Step) → AreStepLines ls ss → IsTrue (are_justified_after p (p.clauses ++ clauses_in before) ss) → first_fault (steps_line_fault p) before ls ≡ None
lines_without_fault p before [] ss h j = refl
lines_without_fault p before (l ∷ ls) [] h j = absurd cc
lines_without_fault p before ((n, i) ∷ ls) (s ∷ ss) h j =
    let head : i ≡ Some (says.Step s) = cc in
    let rest : map (λ (k : ℕ × Option Item). k.1) ls ≡ map step_item ss = cc in
    let a = and_parts (is_justified_step p (p.clauses ++ clauses_in before) s) (are_justified_after p ((p.clauses ++ clauses_in before) ++ clause_of s ∷ []) ss) j in
    let none : step_fault p (p.clauses ++ clauses_in before) s ≡ None = ((justified_without_fault p (p.clauses ++ clauses_in before) s).0 a.0).1 in
    let later = lines_without_fault p (before ++ (n, Some (says.Step s)) ∷ []) ls ss rest (subst (λ (cs : List (List ℤ)). IsTrue (are_justified_after p cs ss)) (sym (one_further p before n s)) a.1) in
    subst (λ (k : Option Item). option_or (option_map (λ r. (n, r)) (step_line_fault p (clauses_in before) k)) (first_fault (steps_line_fault p) (before ++ (n, k) ∷ []) ls) ≡ None) (sym head)
    (ap (λ (o : Option StepFault). option_or (option_map (λ (r : Reason). (n, r)) (option_map reason_of o)) (first_fault (steps_line_fault p) (before ++ (n, Some (says.Step s)) ∷ []) ls)) none ∙ later)

-- ---- verdicts

abbrev IsAccepted : Verdict → Type 0
IsAccepted w = (n : ℕ) (r : Reason) → w ≡ verdict.Rejected n r → ⊥

not_rejected : (p : Instance) (o : Option (ℕ × Reason)) (end : Outcome) (w : Verdict) → IsAccepted w → IsVerdictOf p (or_rejected o end) w → (o ≡ None) × IsVerdictOf p end w
not_rejected p None end w ok h = (refl, h)
not_rejected p (Some (n, r)) end w ok h = absurd (ok n r h)

-- the kind of answer that steps make
abbrev pub kind_by : Bool → Kind
kind_by true = kind.Refutation
kind_by false = kind.Progress

-- an accepted text is a model without a fault, or steps without one
record IsModelText (p : Instance) (text : List ℕ) (w : Verdict) : Type 0 where
  status : ℕ
  lines : List (ℕ × Option Item)
  is : items_of (length p.clauses) text ≡ (status, Some (says.Status kind.Model)) ∷ lines
  fault : first_fault (model_line_fault p) [] lines ≡ None
  end : IsVerdictOf p (model_end p status lines) w

record AreStepsText (p : Instance) (text : List ℕ) (w : Verdict) : Type 0 where
  refutes : Bool
  status : ℕ
  lines : List (ℕ × Option Item)
  is : items_of (length p.clauses) text ≡ (status, Some (says.Status (kind_by refutes))) ∷ lines
  fault : first_fault (steps_line_fault p) [] lines ≡ None
  end : w ≡ steps_verdict refutes status lines

by_status : (p : Instance) (text : List ℕ) (w : Verdict) → IsAccepted w → IsVerdict p text w → IsModelText p text w ⊎ AreStepsText p text w
by_status p text w ok h = by_items (items_of (length p.clauses) text) refl h
  where
    by_items : (ls : List (ℕ × Option Item)) → items_of (length p.clauses) text ≡ ls → IsVerdictOf p (items_outcome p (first_line_of text) ls) w → IsModelText p text w ⊎ AreStepsText p text w
    by_items [] e k = absurd (ok (first_line_of text) reason.NotAnswer k)
    by_items ((n, None) ∷ ls) e k = absurd (ok n reason.NotAnswer k)
    by_items ((n, Some (says.Values zs)) ∷ ls) e k = absurd (ok n reason.NotAnswer k)
    by_items ((n, Some (says.Step s)) ∷ ls) e k = absurd (ok n reason.NotAnswer k)
    by_items ((n, Some (says.Status kind.Model)) ∷ ls) e k =
        let a = not_rejected p (first_fault (model_line_fault p) [] ls) (model_end p n ls) w ok k in
        inl (record { status = n; lines = ls; is = e; fault = a.0; end = a.1 })
    by_items ((n, Some (says.Status kind.Refutation)) ∷ ls) e k =
        let a = not_rejected p (first_fault (steps_line_fault p) [] ls) (steps_end true n ls) w ok k in
        inr (record { refutes = true; status = n; lines = ls; is = e; fault = a.0; end = a.1 })
    by_items ((n, Some (says.Status kind.Progress)) ∷ ls) e k =
        let a = not_rejected p (first_fault (steps_line_fault p) [] ls) (steps_end false n ls) w ok k in
        inr (record { refutes = false; status = n; lines = ls; is = e; fault = a.0; end = a.1 })

-- ---- refutations and progress

pub record ClaimsSteps (p : Instance) (text : List ℕ) (k : Kind) (w : Verdict) : Type 0 where
  pub steps : List Step
  pub has : HasSteps (length p.clauses) k text steps
  pub justified : IsTrue (are_justified p steps)

small_text : (c : ℕ) (text : List ℕ) (n : ℕ) (i : Option Item) (ls : List (ℕ × Option Item)) → items_of c text ≡ (n, i) ∷ ls → AreSmallLines ls
small_text c text n i ls e = (subst (λ (xs : List (ℕ × Option Item)). AreSmallLines xs) e (answer_small c (spoken_of text))).1

abbrev from_steps : (p : Instance) (text : List ℕ) (w : Verdict) (t : AreStepsText p text w) → ClaimsSteps p text (kind_by t.refutes) w
from_steps p text w t =
    let j = justified_lines p [] t.lines (small_text (length p.clauses) text t.status (Some (says.Status (kind_by t.refutes))) t.lines t.is) t.fault in
    record {
      steps = steps_in t.lines;
      has = (t.lines, (t.status, t.is), j.lines);
      justified = subst (λ (cs : List (List ℤ)). IsTrue (are_justified_after p cs (steps_in t.lines))) (append-nil p.clauses) j.steps;
    }

to_steps : (p : Instance) (text : List ℕ) (refutes : Bool) (w : Verdict) (steps : List Step) → HasSteps (length p.clauses) (kind_by refutes) text steps → IsTrue (are_justified p steps) → ((n : ℕ) (ls : List (ℕ × Option Item)) → steps_in ls ≡ steps → w ≡ steps_verdict refutes n ls) → IsVerdict p text w
to_steps p text refutes w steps (ls, (n, is), lines) j end =
    let none = lines_without_fault p [] ls steps lines (subst (λ (cs : List (List ℤ)). IsTrue (are_justified_after p cs steps)) (sym (append-nil p.clauses)) j) in
    let e : items_outcome p (first_line_of text) (items_of (length p.clauses) text) ≡ steps_end refutes n ls =
    ap (items_outcome p (first_line_of text)) is ∙ by_kind refutes ∙ ap (λ (o : Option (ℕ × Reason)). or_rejected o (steps_end refutes n ls)) none in
    subst (λ (o : Outcome). IsVerdictOf p o w) (sym e) (end n ls (same_steps ls steps lines))
  where
    by_kind : (b : Bool) → items_outcome p (first_line_of text) ((n, Some (says.Status (kind_by b))) ∷ ls) ≡ or_rejected (first_fault (steps_line_fault p) [] ls) (steps_end b n ls)
    by_kind true = refl
    by_kind false = refl

-- ---- the ends of models

record HasEnded (p : Instance) (o : Option ℕ) (values : List Bool) (w : Verdict) : Type 0 where
  line : ℕ
  is : o ≡ Some line
  clauses : false_clause p values ≡ None
  atoms : IsVerdictOf p (ValuesIn line values) w

values_ended : (p : Instance) (k : ℕ) (o : Option ℕ) (values : List Bool) (w : Verdict) → IsAccepted w → IsVerdictOf p (values_outcome k o values) w → (o ≡ None) × IsVerdictOf p (ValuesIn k values) w
values_ended p k None values w ok h = (refl, h)
values_ended p k (Some j) values w ok h = absurd (ok k (reason.ClauseFalse j) h)

has_ended_by : (p : Instance) (o : Option ℕ) (n : ℕ) (values : List Bool) (w : Verdict) → IsAccepted w → IsVerdictOf p (ended_outcome p o n values) w → HasEnded p o values w
has_ended_by p None n values w ok h = absurd (ok n reason.BadLine h)
has_ended_by p (Some k) n values w ok h = let a = values_ended p k (false_clause p values) values w ok h in record { line = k; is = refl; clauses = a.0; atoms = a.1 }

ended : (p : Instance) (text : List ℕ) (w : Verdict) → IsAccepted w → (t : IsModelText p text w) → HasEnded p (end_line t.lines) (model_of p (literals_in t.lines)) w
ended p text w ok t = has_ended_by p (end_line t.lines) (last_line t.status t.lines) (model_of p (literals_in t.lines)) w ok t.end

-- ---- what is accepted

refutation_ok : IsAccepted verdict.Refutation
refutation_ok = λ n r e. cc

progress_ok : (m : ℕ) → IsAccepted (verdict.Progress m)
progress_ok m = λ n r e. cc

model_ok : IsAccepted verdict.Model
model_ok = λ n r e. cc

pub refutation_iff : (p : Instance) (text : List ℕ) → IsVerdict p text verdict.Refutation ↔ ((steps : List Step) × HasSteps (length p.clauses) kind.Refutation text steps × IsTrue (is_refutation p steps))
refutation_iff p text = (λ h. to (by_status p text verdict.Refutation refutation_ok h), from)
  where
    empty : (b : Bool) (n : ℕ) → verdict.Refutation ≡ (if b then verdict.Refutation else verdict.Rejected n reason.NoEmptyClause) → IsTrue b
    empty true n e = refl
    empty false n e = absurd cc

    steps_refute : (t : AreStepsText p text verdict.Refutation) (b : Bool) → t.refutes ≡ b → ((steps : List Step) × HasSteps (length p.clauses) kind.Refutation text steps × IsTrue (is_refutation p steps))
    steps_refute t true e =
        let s = from_steps p text verdict.Refutation t in
        let end : verdict.Refutation ≡ steps_verdict true t.status t.lines = subst (λ (b : Bool). verdict.Refutation ≡ steps_verdict b t.status t.lines) e t.end in
        let last : IsTrue (ends_empty (steps_in t.lines)) = empty (ends_empty (steps_in t.lines)) (last_line t.status t.lines) end in
        (steps_in t.lines, subst (λ (b : Bool). HasSteps (length p.clauses) (kind_by b) text (steps_in t.lines)) e s.has, and_from (are_justified p (steps_in t.lines)) (ends_empty (steps_in t.lines)) s.justified last)
    steps_refute t false e = absurd (let end : verdict.Refutation ≡ steps_verdict false t.status t.lines = subst (λ (b : Bool). verdict.Refutation ≡ steps_verdict b t.status t.lines) e t.end in cc)

    to : IsModelText p text verdict.Refutation ⊎ AreStepsText p text verdict.Refutation → ((steps : List Step) × HasSteps (length p.clauses) kind.Refutation text steps × IsTrue (is_refutation p steps))
    to (inl t) = absurd (ended p text verdict.Refutation refutation_ok t).atoms
    to (inr t) = steps_refute t t.refutes refl

    from : ((steps : List Step) × HasSteps (length p.clauses) kind.Refutation text steps × IsTrue (is_refutation p steps)) → IsVerdict p text verdict.Refutation
    from (steps, has, r) =
        let a = and_parts (are_justified p steps) (ends_empty steps) r in
        to_steps p text true verdict.Refutation steps has a.0 (λ n ls same. sym (ap (λ (b : Bool). if b then verdict.Refutation else verdict.Rejected (last_line n ls) reason.NoEmptyClause) (ap ends_empty same ∙ a.1)))

pub progress_iff : (p : Instance) (text : List ℕ) (m : ℕ) → IsVerdict p text (verdict.Progress m) ↔ ((steps : List Step) × HasSteps (length p.clauses) kind.Progress text steps × IsTrue (are_justified p steps) × (m ≡ chain_count steps))
progress_iff p text m = (λ h. to (by_status p text (verdict.Progress m) (progress_ok m) h), from)
  where
    refutation_end : (b : Bool) (n : ℕ) → verdict.Progress m ≡ (if b then verdict.Refutation else verdict.Rejected n reason.NoEmptyClause) → ⊥
    refutation_end true n e = cc
    refutation_end false n e = cc

    steps_count : (t : AreStepsText p text (verdict.Progress m)) (b : Bool) → t.refutes ≡ b → ((steps : List Step) × HasSteps (length p.clauses) kind.Progress text steps × IsTrue (are_justified p steps) × (m ≡ chain_count steps))
    steps_count t true e = absurd (refutation_end (ends_empty (steps_in t.lines)) (last_line t.status t.lines) (subst (λ (b : Bool). verdict.Progress m ≡ steps_verdict b t.status t.lines) e t.end))
    steps_count t false e =
        let s = from_steps p text (verdict.Progress m) t in
        let end : verdict.Progress m ≡ verdict.Progress (chain_count (steps_in t.lines)) = subst (λ (b : Bool). verdict.Progress m ≡ steps_verdict b t.status t.lines) e t.end in
        let k : m ≡ chain_count (steps_in t.lines) = cc in
        (steps_in t.lines, subst (λ (b : Bool). HasSteps (length p.clauses) (kind_by b) text (steps_in t.lines)) e s.has, s.justified, k)

    to : IsModelText p text (verdict.Progress m) ⊎ AreStepsText p text (verdict.Progress m) → ((steps : List Step) × HasSteps (length p.clauses) kind.Progress text steps × IsTrue (are_justified p steps) × (m ≡ chain_count steps))
    to (inl t) = absurd (ended p text (verdict.Progress m) (progress_ok m) t).atoms
    to (inr t) = steps_count t t.refutes refl

    from : ((steps : List Step) × HasSteps (length p.clauses) kind.Progress text steps × IsTrue (are_justified p steps) × (m ≡ chain_count steps)) → IsVerdict p text (verdict.Progress m)
    from (steps, has, j, count) = to_steps p text false (verdict.Progress m) steps has j (λ n ls same. ap (λ (k : ℕ). verdict.Progress k) (count ∙ sym (ap chain_count same)))

-- the values that the lines of an accepted model give
has_values : (p : Instance) (text : List ℕ) (t : IsModelText p text verdict.Model) → HasEnded p (end_line t.lines) (model_of p (literals_in t.lines)) verdict.Model → SaysModel p text (model_of p (literals_in t.lines))
has_values p text t e =
    let r = to_rows p [] t.lines (to_faultless p [] t.lines t.fault) (ended_by_line t.lines ∙ ap is_some e.is) in
    record {
      lines = t.lines;
      rows = r.rows;
      lits = r.lits;
      behind = (t.status, t.is);
      alone = r.alone;
      numbers = r.numbers;
      one_each = one_each p r.lits r.values r.full;
      true_where = ap (model_of p) r.all;
    }

same_values : (p : Instance) (end : Option ℕ) (last : ℕ) (values : List Bool) (line : ℕ) (a : List Bool) → ended_outcome p end last values ≡ ValuesIn line a → values ≡ a
same_values p None last values line a e = absurd cc
same_values p (Some k) last values line a e = by_clause (false_clause p values) e
  where
    by_clause : (o : Option ℕ) → values_outcome k o values ≡ ValuesIn line a → values ≡ a
    by_clause None f = cc
    by_clause (Some j) f = absurd cc

model_or_steps : (b : Bool) (n : ℕ) → verdict.Model ≡ (if b then verdict.Refutation else verdict.Rejected n reason.NoEmptyClause) → ⊥
model_or_steps true n e = cc
model_or_steps false n e = cc

no_model : {p : Instance} {text : List ℕ} (t : AreStepsText p text verdict.Model) (b : Bool) → t.refutes ≡ b → ⊥
no_model t true e = model_or_steps (ends_empty (steps_in t.lines)) (last_line t.status t.lines) (subst (λ (b : Bool). verdict.Model ≡ steps_verdict b t.status t.lines) e t.end)
no_model t false e = (let end : verdict.Model ≡ steps_verdict false t.status t.lines = subst (λ (b : Bool). verdict.Model ≡ steps_verdict b t.status t.lines) e t.end in cc)

-- they are those that any account of an accepted model gives
pub model_held : (p : Instance) (text : List ℕ) (end : Option ℕ) (last : ℕ) (values : List Bool) → IsVerdict p text verdict.Model → outcome_of p text ≡ ended_outcome p end last values → SaysModel p text values
model_held p text end last values h is = by_text (by_status p text verdict.Model model_ok h)
  where
    by_text : IsModelText p text verdict.Model ⊎ AreStepsText p text verdict.Model → SaysModel p text values
    by_text (inl t) =
        let e = ended p text verdict.Model model_ok t in
        let a = model_of p (literals_in t.lines) in
        let here : outcome_of p text ≡ ValuesIn e.line a =
        ap (items_outcome p (first_line_of text)) t.is
        ∙ ap (λ (o : Option (ℕ × Reason)). or_rejected o (model_end p t.status t.lines)) t.fault
        ∙ ap (λ (o : Option ℕ). ended_outcome p o (last_line t.status t.lines) a) e.is
        ∙ ap (λ (o : Option ℕ). values_outcome e.line o a) e.clauses in
        subst (λ (b : List Bool). SaysModel p text b) (sym (same_values p end last values e.line a (sym is ∙ here))) (has_values p text t e)
    by_text (inr t) = absurd (no_model t t.refutes refl)

-- the steps of a text that has steps
pub steps_are_held : (c : ℕ) (k : Kind) (text : List ℕ) (steps : List Step) → HasSteps c k text steps → steps_in (items_of c text) ≡ steps
steps_are_held c k text steps (ls, (n, is), lines) = ap steps_in is ∙ same_steps ls steps lines

pub same_parts : (j k : Kind) (n m : ℕ) (ls ms : List (ℕ × Option Item)) → (n, Some (says.Status j)) ∷ ls ≡ (m, Some (says.Status k)) ∷ ms → (j ≡ k) × (ls ≡ ms)
same_parts j k n m ls ms e =
    let head : ◌≡◌ {A = ℕ × Option Item} (n, Some (says.Status j)) (m, Some (says.Status k)) = cc in
    let item : ◌≡◌ {A = Option Item} (Some (says.Status j)) (Some (says.Status k)) = ap (λ (l : ℕ × Option Item). l.1) head in
    let rest : ls ≡ ms = cc in
    let kinds : j ≡ k = cc in
    (kinds, rest)

model_or_kind : (b : Bool) → kind.Model ≡ kind_by b → ⊥
model_or_kind true e = (let kinds : kind.Model ≡ kind.Refutation = e in cc)
model_or_kind false e = (let kinds : kind.Model ≡ kind.Progress = e in cc)

-- an accepted text that has steps has justified ones
pub steps_justified : (p : Instance) (text : List ℕ) (w : Verdict) (refutes : Bool) (steps : List Step) → IsTrue (is_accepted w) → IsVerdict p text w → HasSteps (length p.clauses) (kind_by refutes) text steps → IsTrue (are_justified p steps)
steps_justified p text w refutes steps ok h has = by_text (by_status p text w (accepted w ok) h)
  where
    accepted : (v : Verdict) → IsTrue (is_accepted v) → IsAccepted v
    accepted verdict.Model e = model_ok
    accepted verdict.Refutation e = refutation_ok
    accepted (verdict.Progress n) e = progress_ok n
    accepted (verdict.Rejected n r) e = absurd cc

    by_text : IsModelText p text w ⊎ AreStepsText p text w → IsTrue (are_justified p steps)
    by_text (inl t) = absurd (model_or_kind refutes (same_parts kind.Model (kind_by refutes) t.status has.1.0 t.lines has.0 (sym t.is ∙ has.1.1)).0)
    by_text (inr t) =
        let s = from_steps p text w t in
        let same : s.steps ≡ steps = sym (steps_are_held (length p.clauses) (kind_by t.refutes) text s.steps s.has) ∙ steps_are_held (length p.clauses) (kind_by refutes) text steps has in
        subst (λ (xs : List Step). IsTrue (are_justified p xs)) same s.justified

pub model_iff : (p : Instance) (text : List ℕ) → IsVerdict p text verdict.Model ↔ ((a : List Bool) × SaysModel p text a × Satisfies p (value_in a))
model_iff p text = (λ h. to (by_status p text verdict.Model model_ok h), from)
  where
    to : IsModelText p text verdict.Model ⊎ AreStepsText p text verdict.Model → ((a : List Bool) × SaysModel p text a × Satisfies p (value_in a))
    to (inl t) =
        let e = ended p text verdict.Model model_ok t in
        let a = model_of p (literals_in t.lines) in
        (a, has_values p text t e, ((none_false (value_in a) p.clauses).0 e.clauses, e.atoms))
    to (inr t) = absurd (no_model t t.refutes refl)

    from : ((a : List Bool) × SaysModel p text a × Satisfies p (value_in a)) → IsVerdict p text verdict.Model
    from (a, has, s) =
        let ls = has.lines in
        let n = has.behind.0 in
        let is = has.behind.1 in
        let f = from_rows p [] has.lits has.rows ls has.alone has.numbers (no_end p has.lits has.one_each.known) (as_test p has.lits has.one_each) (enough p has.lits has.one_each) in
        let none = from_faultless p [] ls f.faultless in
        let done : IsTrue (has_ended ls) = f.end in
        let b : List Bool = model_of p (literals_in ls) in
        let t : Satisfies p (value_in b) = subst (λ (c : List Bool). Satisfies p (value_in c)) (has.true_where ∙ ap (model_of p) (sym f.all)) s in
        let e : items_outcome p (first_line_of text) (items_of (length p.clauses) text) ≡ model_end p n ls = ap (items_outcome p (first_line_of text)) is ∙ ap (λ (o : Option (ℕ × Reason)). or_rejected o (model_end p n ls)) none in
        subst (λ (o : Outcome). IsVerdictOf p o verdict.Model) (sym e) (by_end (end_line ls) (last_line n ls) b (sym (ended_by_line ls) ∙ done) ((none_false (value_in b) p.clauses).1 t.0) t.1)
      where
        by_end : (o : Option ℕ) (m : ℕ) (b : List Bool) → is_some o ≡ true → false_clause p b ≡ None → Agrees p (value_in b) → IsVerdictOf p (ended_outcome p o m b) verdict.Model
        by_end None m b e f g = absurd cc
        by_end (Some k) m b e f g = subst (λ (o : Option ℕ). IsVerdictOf p (values_outcome k o b) verdict.Model) (sym f) g

pub model_satisfies : (p : Instance) (text : List ℕ) → IsVerdict p text verdict.Model → (a : ℕ → Bool) × Satisfies p a
model_satisfies p text h = let m = (model_iff p text).0 h in (value_in m.0, m.2)

pub refutation_has_no_model : (p : Instance) (text : List ℕ) → IsInstance p → IsVerdict p text verdict.Refutation → HasNoModel p
refutation_has_no_model p text ok h = let r = (refutation_iff p text).0 h in refutation_excludes p r.0 ok r.2

-- ---- one verdict

same_outcome : (p : Instance) (o : Outcome) (v w : Verdict) → IsVerdictOf p o v → IsVerdictOf p o w → v ≡ w
same_outcome p (Decided u) v w h k = h ∙ sym k
same_outcome p (ValuesIn n values) verdict.Model verdict.Model h k = refl
same_outcome p (ValuesIn n values) verdict.Model (verdict.Rejected m (reason.AtomWrong j)) h k = absurd (wrong_disagrees p (value_in values) j k.1 h)
same_outcome p (ValuesIn n values) (verdict.Rejected m (reason.AtomWrong j)) verdict.Model h k = absurd (wrong_disagrees p (value_in values) j h.1 k)
same_outcome p (ValuesIn n values) (verdict.Rejected m (reason.AtomWrong j)) (verdict.Rejected l (reason.AtomWrong i)) h k =
    ap (λ (x : ℕ). verdict.Rejected x (reason.AtomWrong j)) (h.0 ∙ sym k.0) ∙ ap (λ (x : ℕ). verdict.Rejected l (reason.AtomWrong x)) (same_wrong p (value_in values) j i h.1 k.1)
same_outcome p (ValuesIn n values) v w h k = absurd (search (h, k))

pub same_verdict : (p : Instance) (text : List ℕ) (v w : Verdict) → IsVerdict p text v → IsVerdict p text w → v ≡ w
same_verdict p text v w h k = same_outcome p (items_outcome p (first_line_of text) (items_of (length p.clauses) text)) v w h k
