-- The steps that a text holds, and answers that are migrated.
use Rattle.std.proofs.Common.{◌≡◌, ◌≤◌, ◌<◌, ℕ, ◌+◌, Bool, true, false, not, ◌&&◌, cond, List, [], ◌∷◌, ◌++◌, length, length-append, Option, Some, None, refl, sym, ap, subst, ◌∙◌, arith, append_assoc, ℤ}
use Rattle.std.specs.Prelude.{IsTrue, nat_le, nat_lt, if◌then◌else◌}
use Rattle.std.specs.List.{list_all}
use Rattle.std.proofs.lemmas.Bool.{and_parts, and_from, leb-true, lt-ltb}
use Rattle.mono_text.specs.Text.{is_skipped, tokens_of, lines_of, numbered_from}
use Rattle.mono_problem.specs.Instance.{Instance}
use Rattle.mono_steps.specs.Chains.{chain_end}
use Rattle.mono_steps.specs.ChainSteps.{names_vars, names_clauses, covers, clauses_named}
use Rattle.mono_steps.specs.declared.step.Step.{Step}
use Rattle.mono_steps.specs.declared.step.Step.TheVariants as step
use Rattle.mono_steps.specs.Steps.{clause_of, is_justified_step, are_justified_after, are_justified, ends_empty}
use Rattle.mono_answer.specs.declared.kind.Kind.TheVariants as kind
use Rattle.mono_answer.specs.declared.item.Item.{Item}
use Rattle.mono_answer.specs.declared.item.Item.TheVariants as says
use Rattle.mono_answer.specs.declared.version.Version.{Version}
use Rattle.mono_answer.specs.declared.version.Version.TheVariants as version
use Rattle.mono_answer.specs.declared.answer.Answer.{Answer}
use Rattle.mono_answer.specs.declared.answer.Answer.TheVariants as answer
use Rattle.mono_answer.specs.Versions.{is_version_two, step_by, items_by, names_earlier, all_name_earlier, answer_names_earlier}
use Rattle.mono_answer.specs.Items.{item_of, spoken, said_in, items_in, answer_said_in, spoken_of, items_of}
use Rattle.mono_check.specs.declared.verdict.Verdict.{Verdict}
use Rattle.mono_check.specs.declared.verdict.Verdict.TheVariants as verdict
use Rattle.mono_check.specs.Answers.{HasSteps}
use Rattle.mono_check.specs.Held.{step_said}
use Rattle.mono_check.specs.Migrations.{StandsFor, is_accepted, version_in, steps_held}
use Rattle.mono_check.specs.StepLines.{step_in, steps_in}
use Rattle.mono_check.specs.Verdicts.{IsVerdict, outcome_of, ended_outcome}
use Rattle.mono_check.proofs.Accepted.{refutation_iff, progress_iff, steps_are_held, model_held}
use Rattle.mono_check.proofs.Versions.{items_one, version_is_none}

-- ---- items of a text, by the version of its first line

-- a version line adds no step, so that it may be gone through like the others
pub all_held : (c : ℕ) (ls : List (ℕ × List ℕ)) → steps_in (items_by (version_in ls) (c + 1) (said_in ls)) ≡ steps_in (answer_said_in c ls)
all_held c [] = refl
all_held c (l ∷ ls) = by_test (is_version_two (tokens_of l.1)) refl
  where
    by_test : (b : Bool) → is_version_two (tokens_of l.1) ≡ b
        → steps_in (items_by (if b then version.Two else version.One) (c + 1) (said_in (l ∷ ls))) ≡ steps_in (if b then items_by version.Two (c + 1) (said_in ls) else said_in (l ∷ ls))
    by_test true e = ap (λ (i : Option Item). steps_in (items_by version.Two (c + 1) ((l.0, i) ∷ said_in ls))) (version_is_none (tokens_of l.1) e)
    by_test false e = ap steps_in (items_one (c + 1) (said_in (l ∷ ls)))

-- no line was gone through
pub held_first : (v : Version) (c n : ℕ) (text : List ℕ) (steps : List Step) (lines : List (ℕ × List ℕ)) → v ≡ version_in (spoken_of text) → n ≡ c → steps ≡ [] → lines ≡ numbered_from 1 (lines_of text)
    → steps ++ steps_held v (n + length steps + 1) lines ≡ steps_in (items_of c text)
held_first v c n text steps lines first same none all =
    let few = ap length none in
    let number : n + length steps + 1 ≡ c + 1 = omega (arith, same, few) in
    ap (λ (k : ℕ). steps ++ steps_held v k lines) number
    ∙ ap (λ (xs : List Step). xs ++ steps_held v (c + 1) lines) none
    ∙ ap (λ (ls : List (ℕ × List ℕ)). steps_held v (c + 1) ls) all
    ∙ ap (λ (w : Version). steps_held w (c + 1) (numbered_from 1 (lines_of text))) first
    ∙ all_held c (spoken_of text)

-- ---- one line more

pub no_step_held : (v : Version) (m n : ℕ) (text : List ℕ) (rest : List (ℕ × List ℕ)) → None ≡ step_said (tokens_of text) → steps_held v m ((n, text) ∷ rest) ≡ steps_held v m rest
no_step_held v m n text rest e = by_test (is_skipped (tokens_of text)) e
  where
    by_item : (i : Option Item) → None ≡ step_in i → steps_in (items_by v m ((n, i) ∷ items_in rest)) ≡ steps_in (items_by v m (items_in rest))
    by_item None f = refl
    by_item (Some (says.Status k)) f = refl
    by_item (Some (says.Values zs)) f = refl
    by_item (Some (says.Step s)) f = absurd cc

    by_test : (b : Bool) → None ≡ (if b then None else step_in (item_of (tokens_of text)))
        → steps_in (items_by v m (said_in (cond (not b) ((n, text) ∷ spoken rest) (spoken rest)))) ≡ steps_in (items_by v m (items_in rest))
    by_test true f = refl
    by_test false f = by_item (item_of (tokens_of text)) f

pub step_held : (v : Version) (m n : ℕ) (text : List ℕ) (rest : List (ℕ × List ℕ)) (s : Step) → Some s ≡ step_said (tokens_of text) → steps_held v m ((n, text) ∷ rest) ≡ step_by v m s ∷ steps_held v (m + 1) rest
step_held v m n text rest s e = by_test (is_skipped (tokens_of text)) e
  where
    by_item : (i : Option Item) → Some s ≡ step_in i → steps_in (items_by v m ((n, i) ∷ items_in rest)) ≡ step_by v m s ∷ steps_in (items_by v (m + 1) (items_in rest))
    by_item None f = absurd cc
    by_item (Some (says.Status k)) f = absurd cc
    by_item (Some (says.Values zs)) f = absurd cc
    by_item (Some (says.Step r)) f = (let same : r ≡ s = cc in ap (λ (x : Step). step_by v m x ∷ steps_in (items_by v (m + 1) (items_in rest))) same)

    by_test : (b : Bool) → Some s ≡ (if b then None else step_in (item_of (tokens_of text)))
        → steps_in (items_by v m (said_in (cond (not b) ((n, text) ∷ spoken rest) (spoken rest)))) ≡ step_by v m s ∷ steps_in (items_by v (m + 1) (items_in rest))
    by_test true f = absurd cc
    by_test false f = by_item (item_of (tokens_of text)) f

-- the steps that were gathered, and those of the lines that are left
pub more_held : (v : Version) (c n : ℕ) (text : List ℕ) (rest : List (ℕ × List ℕ)) (steps more : List Step) (s : Step) → Some s ≡ step_said (tokens_of text) → more ≡ steps ++ step_by v (c + length steps + 1) s ∷ []
    → more ++ steps_held v (c + length more + 1) rest ≡ steps ++ steps_held v (c + length steps + 1) ((n, text) ∷ rest)
more_held v c n text rest steps more s e is =
    let m = c + length steps + 1 in
    let longer = ap length is ∙ length-append steps (step_by v m s ∷ []) in
    let next : c + length more + 1 ≡ m + 1 = omega (arith, longer) in
    ap (λ (k : ℕ). more ++ steps_held v k rest) next
    ∙ ap (λ (xs : List Step). xs ++ steps_held v (m + 1) rest) is
    ∙ append_assoc steps (step_by v m s ∷ []) (steps_held v (m + 1) rest)
    ∙ ap (λ (xs : List Step). steps ++ xs) (sym (step_held v m n text rest s e))

-- ---- justified steps name earlier clauses

numbers_earlier : (earlier : List (List ℤ)) (ns : List ℕ) → IsTrue (names_clauses earlier ns) → IsTrue (list_all (λ d. nat_le 1 d && nat_lt d (length earlier + 1)) ns)
numbers_earlier earlier [] h = refl
numbers_earlier earlier (n ∷ ns) h =
    let a = and_parts (nat_le 1 n && nat_le n (length earlier)) (names_clauses earlier ns) h in
    let b = and_parts (nat_le 1 n) (nat_le n (length earlier)) a.0 in
    let high : n ≤ length earlier = leb-true n (length earlier) b.1 in
    let below : n < length earlier + 1 = omega (arith, high) in
    and_from (nat_le 1 n && nat_lt n (length earlier + 1)) (list_all (λ d. nat_le 1 d && nat_lt d (length earlier + 1)) ns)
    (and_from (nat_le 1 n) (nat_lt n (length earlier + 1)) b.0 (lt-ltb n (length earlier + 1) below)) (numbers_earlier earlier ns a.1)

step_earlier : (p : Instance) (earlier : List (List ℤ)) (s : Step) → IsTrue (is_justified_step p earlier s) → IsTrue (names_earlier (length earlier + 1) s)
step_earlier p earlier (step.Lemma l) h = refl
step_earlier p earlier (step.Chain c) h =
    let a = and_parts (names_vars p c.clause && names_clauses earlier c.used) (covers c.clause (chain_end (clauses_named earlier c.used))) h in
    numbers_earlier earlier c.used (and_parts (names_vars p c.clause) (names_clauses earlier c.used) a.0).1

pub justified_earlier : (p : Instance) (earlier : List (List ℤ)) (ss : List Step) → IsTrue (are_justified_after p earlier ss) → IsTrue (all_name_earlier (length earlier + 1) ss)
justified_earlier p earlier [] h = refl
justified_earlier p earlier (s ∷ ss) h =
    let a = and_parts (is_justified_step p earlier s) (are_justified_after p (earlier ++ clause_of s ∷ []) ss) h in
    let rest = justified_earlier p (earlier ++ clause_of s ∷ []) ss a.1 in
    and_from (names_earlier (length earlier + 1) s) (all_name_earlier (length earlier + 1 + 1) ss) (step_earlier p earlier s a.0)
    (subst (λ (n : ℕ). IsTrue (all_name_earlier (n + 1) ss)) (length-append earlier (clause_of s ∷ [])) rest)

-- ---- what accepted texts hold

pub refutation_held : (p : Instance) (text : List ℕ) (steps : List Step) → IsVerdict p text verdict.Refutation → steps ≡ steps_in (items_of (length p.clauses) text)
    → HasSteps (length p.clauses) kind.Refutation text steps × IsTrue (all_name_earlier (length p.clauses + 1) steps)
refutation_held p text steps h is =
    let (ss, has, right) = (refutation_iff p text).0 h in
    let same : ss ≡ steps = sym (is ∙ steps_are_held (length p.clauses) kind.Refutation text ss has) in
    let early = justified_earlier p p.clauses ss (and_parts (are_justified p ss) (ends_empty ss) right).0 in
    (subst (λ (xs : List Step). HasSteps (length p.clauses) kind.Refutation text xs) same has, subst (λ (xs : List Step). IsTrue (all_name_earlier (length p.clauses + 1) xs)) same early)

pub progress_held : (p : Instance) (text : List ℕ) (steps : List Step) (count : ℕ) → IsVerdict p text (verdict.Progress count) → steps ≡ steps_in (items_of (length p.clauses) text)
    → HasSteps (length p.clauses) kind.Progress text steps × IsTrue (all_name_earlier (length p.clauses + 1) steps)
progress_held p text steps count h is =
    let (ss, has, right, many) = (progress_iff p text count).0 h in
    let same : ss ≡ steps = sym (is ∙ steps_are_held (length p.clauses) kind.Progress text ss has) in
    let early = justified_earlier p p.clauses ss right in
    (subst (λ (xs : List Step). HasSteps (length p.clauses) kind.Progress text xs) same has, subst (λ (xs : List Step). IsTrue (all_name_earlier (length p.clauses + 1) xs)) same early)

-- ---- the answer that is printed

pub record IsHeld (p : Instance) (text : List ℕ) (a : Answer) : Type 0 where
  pub verdict : Verdict
  pub judged : IsVerdict p text verdict
  pub accepted : IsTrue (is_accepted verdict)
  pub stands : StandsFor p text a
  pub earlier : IsTrue (answer_names_earlier (length p.clauses) a)

pub model_is_held : (p : Instance) (text : List ℕ) (w : Verdict) (end : Option ℕ) (last : ℕ) (values : List Bool) (a : Answer) → IsVerdict p text w → w ≡ verdict.Model → outcome_of p text ≡ ended_outcome p end last values → a ≡ answer.Model values → IsHeld p text a
model_is_held p text w end last values a h model is same =
    let judged = subst (λ (v : Verdict). IsVerdict p text v) model h in
    subst (λ (x : Answer). IsHeld p text x) (sym same) (record { verdict = verdict.Model; judged = judged; accepted = refl; stands = model_held p text end last values judged is; earlier = refl })

pub refutation_is_held : (p : Instance) (text : List ℕ) (w : Verdict) (steps : List Step) (a : Answer) → IsVerdict p text w → w ≡ verdict.Refutation → steps ≡ steps_in (items_of (length p.clauses) text) → a ≡ answer.Refutation steps → IsHeld p text a
refutation_is_held p text w steps a h refutes is same =
    let judged = subst (λ (v : Verdict). IsVerdict p text v) refutes h in
    let held = refutation_held p text steps judged is in
    subst (λ (x : Answer). IsHeld p text x) (sym same) (record { verdict = verdict.Refutation; judged = judged; accepted = refl; stands = held.0; earlier = held.1 })

pub progress_is_held : (p : Instance) (text : List ℕ) (w : Verdict) (steps : List Step) (count : ℕ) (a : Answer) → IsVerdict p text w → w ≡ verdict.Progress count → steps ≡ steps_in (items_of (length p.clauses) text) → a ≡ answer.Progress steps → IsHeld p text a
progress_is_held p text w steps count a h progress is same =
    let judged = subst (λ (v : Verdict). IsVerdict p text v) progress h in
    let held = progress_held p text steps count judged is in
    subst (λ (x : Answer). IsHeld p text x) (sym same) (record { verdict = verdict.Progress count; judged = judged; accepted = refl; stands = held.0; earlier = held.1 })
