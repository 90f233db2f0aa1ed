-- The verdicts on an answer's printed texts in both versions: the same, a line further in version 2.
use Rattle.std.proofs.Common.{◌≡◌, ◌↔◌, ◌<◌, ◌^◌, ℕ, ◌+◌, Bool, true, false, List, [], ◌∷◌, map, Option, Some, None, option_map, is_some, ℤ, refl, sym, ap, subst, ◌∙◌, arith}
use Rattle.std.specs.Prelude.{IsTrue, if◌then◌else◌, length}
use Rattle.std.specs.Option.{option_or}
use Rattle.std.specs.List.{list_all, enumerate_from}
use Rattle.mono_problem.specs.Instance.{Instance}
use Rattle.mono_steps.specs.declared.step.Step.{Step}
use Rattle.mono_answer.specs.declared.kind.Kind.{Kind}
use Rattle.mono_answer.specs.declared.kind.Kind.TheVariants as kind
use Rattle.mono_answer.specs.declared.item.Item.{Item}
use Rattle.mono_answer.specs.declared.item.Item.TheVariants as says
use Rattle.mono_answer.specs.declared.answer.Answer.{Answer}
use Rattle.mono_answer.specs.declared.answer.Answer.TheVariants as answer
use Rattle.mono_answer.specs.declared.version.Version.TheVariants as version
use Rattle.mono_answer.specs.Items.{first_line_of, item_of, items_of, values_of}
use Rattle.mono_answer.specs.Versions.{items_by, turned_steps, turned_answer, all_name_earlier, answer_names_earlier}
use Rattle.mono_answer.specs.Printed.{numbers_text, with_zero, literals_from, values_line, step_line, answer_lines, answer_text_as}
use Rattle.mono_answer.proofs.KeptLines.{items_from, printed_items, items_behind_version}
use Rattle.mono_check.specs.declared.reason.Reason.{Reason}
use Rattle.mono_check.specs.declared.reason.Reason.TheVariants as reason
use Rattle.mono_check.specs.declared.verdict.Verdict.{Verdict}
use Rattle.mono_check.specs.declared.verdict.Verdict.TheVariants as verdict
use Rattle.mono_check.specs.Values.{ends_in, value_fault, false_clause, model_of}
use Rattle.mono_check.specs.StepLines.{step_line_fault}
use Rattle.mono_check.specs.SoFar.{ModelSoFar, StepsSoFar, or_fault, model_behind, model_more, steps_behind, steps_more}
use Rattle.mono_check.specs.Verdicts.{Outcome, Decided, ValuesIn, IsVerdictOf, IsVerdict, outcome_of, values_outcome, ended_outcome, steps_outcome, items_outcome}
use Rattle.mono_check.specs.Migrations.{has_literals, FitsMemory, one_line_later}
use Rattle.mono_check.proofs.BothVersions.{steps_alike}
use Rattle.mono_check.proofs.Behind.{steps_walked, model_walked}
use Rattle.mono_check.proofs.SeenMore.{model_said, steps_said}

-- ---- lines and outcomes, one line later

abbrev later : List (ℕ × Option Item) → List (ℕ × Option Item)
later ls = map (λ l. (l.0 + 1, l.1)) ls

abbrev outcome_later : Outcome → Outcome
outcome_later (Decided v) = Decided (one_line_later v)
outcome_later (ValuesIn n values) = ValuesIn (n + 1) values

enumerate_later : (n : ℕ) (is : List (Option Item)) → enumerate_from (n + 1) is ≡ later (enumerate_from n is)
enumerate_later n [] = refl
enumerate_later n (i ∷ is) = ap (λ (ls : List (ℕ × Option Item)). (n + 1, i) ∷ ls) (enumerate_later (n + 1) is)

fault_later : (n : ℕ) (o : Option Reason) (x y : Outcome) → y ≡ outcome_later x → or_fault (n + 1) o y ≡ outcome_later (or_fault n o x)
fault_later n None x y e = e
fault_later n (Some r) x y e = refl

-- ---- steps

abbrev steps_later : StepsSoFar → StepsSoFar
steps_later s = record { clauses = s.clauses; chains = s.chains; ends_empty = s.ends_empty; last = s.last + 1 }

more_later : (n : ℕ) (i : Option Item) (s : StepsSoFar) → steps_more (n + 1) i (steps_later s) ≡ steps_later (steps_more n i s)
more_later n None s = refl
more_later n (Some (says.Status k)) s = refl
more_later n (Some (says.Values zs)) s = refl
more_later n (Some (says.Step r)) s = refl

behind_later : (p : Instance) (refutes : Bool) (s : StepsSoFar) (ls : List (ℕ × Option Item)) → steps_behind p refutes (steps_later s) (later ls) ≡ outcome_later (steps_behind p refutes s ls)
behind_later p true s [] = by_end s.ends_empty
  where
    by_end : (b : Bool) → Decided (if b then verdict.Refutation else verdict.Rejected (s.last + 1) reason.NoEmptyClause) ≡ outcome_later (Decided (if b then verdict.Refutation else verdict.Rejected s.last reason.NoEmptyClause))
    by_end true = refl
    by_end false = refl
behind_later p false s [] = refl
behind_later p refutes s ((n, i) ∷ ls) =
    fault_later n (step_line_fault p s.clauses i) (steps_behind p refutes (steps_more n i s) ls) (steps_behind p refutes (steps_more (n + 1) i (steps_later s)) (later ls))
    (ap (λ (t : StepsSoFar). steps_behind p refutes t (later ls)) (more_later n i s) ∙ behind_later p refutes (steps_more n i s) ls)

-- ---- models

abbrev line_later : Option ℕ → Option ℕ
line_later o = option_map (λ n. n + 1) o

abbrev model_later : ModelSoFar → ModelSoFar
model_later m = record { lits = m.lits; end = line_later m.end; last = m.last + 1 }

end_later : (n : ℕ) (o : Option ℕ) (b : Bool) → option_or (line_later o) (if b then Some (n + 1) else None) ≡ line_later (option_or o (if b then Some n else None))
end_later n None true = refl
end_later n None false = refl
end_later n (Some k) b = refl

model_more_later : (n : ℕ) (i : Option Item) (m : ModelSoFar) → model_more (n + 1) i (model_later m) ≡ model_later (model_more n i m)
model_more_later n i m = ap (λ (o : Option ℕ). record { lits = (model_more n i m).lits; end = o; last = n + 1 }) (end_later n m.end (ends_in i))

some_later : (o : Option ℕ) → is_some (line_later o) ≡ is_some o
some_later None = refl
some_later (Some n) = refl

values_later : (k : ℕ) (o : Option ℕ) (values : List Bool) → values_outcome (k + 1) o values ≡ outcome_later (values_outcome k o values)
values_later k None values = refl
values_later k (Some j) values = refl

ended_later : (p : Instance) (end : Option ℕ) (last : ℕ) (values : List Bool) → ended_outcome p (line_later end) (last + 1) values ≡ outcome_later (ended_outcome p end last values)
ended_later p None last values = refl
ended_later p (Some k) last values = values_later k (false_clause p values) values

model_behind_later : (p : Instance) (m : ModelSoFar) (ls : List (ℕ × Option Item)) → model_behind p (model_later m) (later ls) ≡ outcome_later (model_behind p m ls)
model_behind_later p m [] = ended_later p m.end m.last (model_of p m.lits)
model_behind_later p m ((n, i) ∷ ls) =
    ap (λ (b : Bool). or_fault (n + 1) (value_fault p m.lits b i) (model_behind p (model_more (n + 1) i (model_later m)) (later ls))) (some_later m.end)
    ∙ fault_later n (value_fault p m.lits (is_some m.end) i) (model_behind p (model_more n i m) ls) (model_behind p (model_more (n + 1) i (model_later m)) (later ls))
    (ap (λ (t : ModelSoFar). model_behind p t (later ls)) (model_more_later n i m) ∙ model_behind_later p (model_more n i m) ls)

-- ---- answers

status_later : (p : Instance) (f g n : ℕ) (k : Kind) (ls : List (ℕ × Option Item)) → items_outcome p g ((n + 1, Some (says.Status k)) ∷ later ls) ≡ outcome_later (items_outcome p f ((n, Some (says.Status k)) ∷ ls))
status_later p f g n kind.Model ls = model_walked p (n + 1) [] (later ls) ∙ model_behind_later p (model_said n []) ls ∙ ap outcome_later (sym (model_walked p n [] ls))
status_later p f g n kind.Refutation ls = steps_walked p true (n + 1) [] (later ls) ∙ behind_later p true (steps_said n []) ls ∙ ap outcome_later (sym (steps_walked p true n [] ls))
status_later p f g n kind.Progress ls = steps_walked p false (n + 1) [] (later ls) ∙ behind_later p false (steps_said n []) ls ∙ ap outcome_later (sym (steps_walked p false n [] ls))

behind_status : (p : Instance) (f g : ℕ) (k : Kind) (is : List (Option Item)) → items_outcome p g ((2, Some (says.Status k)) ∷ enumerate_from 3 is) ≡ outcome_later (items_outcome p f ((1, Some (says.Status k)) ∷ enumerate_from 2 is))
behind_status p f g k is =
    ap (λ (ls : List (ℕ × Option Item)). items_outcome p g ((2, Some (says.Status k)) ∷ ls)) (enumerate_later 2 is) ∙ status_later p f g 1 k (enumerate_from 2 is)

-- texts by what they say
later_by : (p : Instance) (here there : List ℕ) (xs ys : List (ℕ × Option Item)) → items_of (length p.clauses) here ≡ xs → items_of (length p.clauses) there ≡ ys
    → ((f g : ℕ) → items_outcome p g ys ≡ outcome_later (items_outcome p f xs)) → outcome_of p there ≡ outcome_later (outcome_of p here)
later_by p here there xs ys first second h =
    ap (items_outcome p (first_line_of there)) second
    ∙ (h (first_line_of here) (first_line_of there) ∙ ap (λ (ls : List (ℕ × Option Item)). outcome_later (items_outcome p (first_line_of here) ls)) (sym first))

-- a model's line is the same in both
values_alike : (m : ℕ) (o : Option (List ℤ)) → items_by version.Two m ((3, option_map says.Values o) ∷ []) ≡ (3, option_map says.Values o) ∷ []
values_alike m None = refl
values_alike m (Some zs) = refl

-- a refutation's lines, or those of progress
steps_lines : (p : Instance) (refutes : Bool) (k : Kind) (steps : List Step)
    → ((n m : ℕ) (ls : List (ℕ × Option Item)) → items_outcome p m ((n, Some (says.Status k)) ∷ ls) ≡ steps_outcome p refutes n ls)
    → IsTrue (list_all has_literals steps) → length p.clauses + length steps < 2 ^ 64 → IsTrue (all_name_earlier (length p.clauses + 1) steps) → (f g : ℕ)
    → items_outcome p g ((2, Some (says.Status k)) ∷ items_by version.Two (length p.clauses + 1) (items_from 3 (map step_line (turned_steps (length p.clauses + 1) steps))))
    ≡ outcome_later (items_outcome p f ((1, Some (says.Status k)) ∷ items_from 2 (map step_line steps)))
steps_lines p refutes k steps is literals few names f g =
    let c = length p.clauses in
    let xs = items_from 3 (map step_line steps) in
    let ys = items_by version.Two (c + 1) (items_from 3 (map step_line (turned_steps (c + 1) steps))) in
    is 2 g ys
    ∙ (steps_walked p refutes 2 [] ys ∙ (steps_alike p refutes (c + 1) 3 steps literals names (omega (arith, few)) (steps_said 2 []) ∙ sym (steps_walked p refutes 2 [] xs))
    ∙ (sym (is 2 g xs) ∙ behind_status p f g k (map item_of (map step_line steps))))

lines_later : (p : Instance) (a : Answer) → FitsMemory (length p.clauses) a → IsTrue (answer_names_earlier (length p.clauses) a) → (f g : ℕ)
    → items_outcome p g (items_by version.Two (length p.clauses + 1) (items_from 2 (answer_lines (turned_answer (length p.clauses) a))))
    ≡ outcome_later (items_outcome p f (items_from 1 (answer_lines a)))
lines_later p (answer.Model values) fits names f g =
    ap (λ (ls : List (ℕ × Option Item)). items_outcome p g ((2, Some (says.Status kind.Model)) ∷ ls))
    (values_alike (length p.clauses + 1) (values_of (numbers_text (with_zero (literals_from 1 values)))))
    ∙ behind_status p f g kind.Model (item_of (values_line values) ∷ [])
lines_later p (answer.Refutation steps) fits names f g = steps_lines p true kind.Refutation steps (λ n m ls. refl) fits.literals fits.few names f g
lines_later p (answer.Progress steps) fits names f g = steps_lines p false kind.Progress steps (λ n m ls. refl) fits.literals fits.few names f g

pub answer_later : (p : Instance) (a : Answer) → FitsMemory (length p.clauses) a → IsTrue (answer_names_earlier (length p.clauses) a)
    → outcome_of p (answer_text_as a version.Two (length p.clauses)) ≡ outcome_later (outcome_of p (answer_text_as a version.One (length p.clauses)))
answer_later p a fits names =
    let c = length p.clauses in
    let other = turned_answer c a in
    later_by p (answer_text_as a version.One c) (answer_text_as a version.Two c)
    (items_from 1 (answer_lines a)) (items_by version.Two (c + 1) (items_from 2 (answer_lines other)))
    (printed_items c a) (items_behind_version c other) (lines_later p a fits names)

-- ---- verdicts

same_before : (v w : Verdict) → one_line_later v ≡ one_line_later w → v ≡ w
same_before verdict.Model verdict.Model e = refl
same_before verdict.Model verdict.Refutation e = absurd cc
same_before verdict.Model (verdict.Progress m) e = absurd cc
same_before verdict.Model (verdict.Rejected m r) e = absurd cc
same_before verdict.Refutation verdict.Model e = absurd cc
same_before verdict.Refutation verdict.Refutation e = refl
same_before verdict.Refutation (verdict.Progress m) e = absurd cc
same_before verdict.Refutation (verdict.Rejected m r) e = absurd cc
same_before (verdict.Progress n) verdict.Model e = absurd cc
same_before (verdict.Progress n) verdict.Refutation e = absurd cc
same_before (verdict.Progress n) (verdict.Progress m) e = e
same_before (verdict.Progress n) (verdict.Rejected m r) e = absurd cc
same_before (verdict.Rejected n q) verdict.Model e = absurd cc
same_before (verdict.Rejected n q) verdict.Refutation e = absurd cc
same_before (verdict.Rejected n q) (verdict.Progress m) e = absurd cc
same_before (verdict.Rejected n q) (verdict.Rejected m r) e =
    let lines : n + 1 ≡ m + 1 = cc in
    let reasons : q ≡ r = cc in
    let line : n ≡ m = omega (arith, lines) in
    ap (λ (k : ℕ). verdict.Rejected k q) line ∙ ap (λ (x : Reason). verdict.Rejected m x) reasons

verdict_later : (p : Instance) (o : Outcome) (v : Verdict) → IsVerdictOf p o v ↔ IsVerdictOf p (outcome_later o) (one_line_later v)
verdict_later p (Decided w) v = (λ h. ap one_line_later h, λ h. same_before v w h)
verdict_later p (ValuesIn n values) verdict.Model = (λ h. h, λ h. h)
verdict_later p (ValuesIn n values) verdict.Refutation = (λ h. h, λ h. h)
verdict_later p (ValuesIn n values) (verdict.Progress m) = (λ h. h, λ h. h)
verdict_later p (ValuesIn n values) (verdict.Rejected m (reason.AtomWrong k)) = (λ h. (ap (λ (x : ℕ). x + 1) h.0, h.1), λ h. ((let e = h.0 in omega (arith, e)), h.1))
verdict_later p (ValuesIn n values) (verdict.Rejected m (reason.ClauseFalse k)) = (λ h. h, λ h. h)
verdict_later p (ValuesIn n values) (verdict.Rejected m reason.NotAnswer) = (λ h. h, λ h. h)
verdict_later p (ValuesIn n values) (verdict.Rejected m reason.BadLine) = (λ h. h, λ h. h)
verdict_later p (ValuesIn n values) (verdict.Rejected m reason.UnknownAtom) = (λ h. h, λ h. h)
verdict_later p (ValuesIn n values) (verdict.Rejected m reason.WrongKind) = (λ h. h, λ h. h)
verdict_later p (ValuesIn n values) (verdict.Rejected m reason.UnknownNumber) = (λ h. h, λ h. h)
verdict_later p (ValuesIn n values) (verdict.Rejected m reason.MissingLiteral) = (λ h. h, λ h. h)
verdict_later p (ValuesIn n values) (verdict.Rejected m reason.WitnessFails) = (λ h. h, λ h. h)
verdict_later p (ValuesIn n values) (verdict.Rejected m reason.ChainStuck) = (λ h. h, λ h. h)
verdict_later p (ValuesIn n values) (verdict.Rejected m reason.NotCovered) = (λ h. h, λ h. h)
verdict_later p (ValuesIn n values) (verdict.Rejected m reason.NoEmptyClause) = (λ h. h, λ h. h)
verdict_later p (ValuesIn n values) (verdict.Rejected m reason.ModelVariables) = (λ h. h, λ h. h)

pub versions_alike : (p : Instance) (a : Answer) (v : Verdict) → FitsMemory (length p.clauses) a → IsTrue (answer_names_earlier (length p.clauses) a)
    → IsVerdict p (answer_text_as a version.One (length p.clauses)) v ↔ IsVerdict p (answer_text_as a version.Two (length p.clauses)) (one_line_later v)
versions_alike p a v fits names =
    let there = answer_later p a fits names in
    let both = verdict_later p (outcome_of p (answer_text_as a version.One (length p.clauses))) v in (
      λ h. subst (λ (o : Outcome). IsVerdictOf p o (one_line_later v)) (sym there) (both.0 h),
      λ h. both.1 (subst (λ (o : Outcome). IsVerdictOf p o (one_line_later v)) there h),
    )
