-- A text stands for one answer, and so is migrated to one text.
use Rattle.std.proofs.Common.{◌≡◌, ℕ, ◌+◌, Bool, List, [], ◌∷◌, ◌++◌, length, map, flat_map, Option, Some, refl, sym, ap, ◌∙◌, ℤ, pos}
use Rattle.std.specs.Prelude.{IsTrue}
use Rattle.std.specs.List.{enumerate_from}
use Rattle.std.proofs.lemmas.List.{append_cancel_right}
use Rattle.mono_problem.specs.Instance.{Instance}
use Rattle.mono_steps.specs.declared.step.Step.{Step}
use Rattle.mono_answer.specs.declared.kind.Kind.{Kind}
use Rattle.mono_answer.specs.declared.kind.Kind.TheVariants as kind
use Rattle.mono_answer.specs.declared.item.Item.{Item}
use Rattle.mono_answer.specs.declared.item.Item.TheVariants as says
use Rattle.mono_answer.specs.Items.{items_of}
use Rattle.mono_answer.specs.declared.answer.Answer.{Answer}
use Rattle.mono_answer.specs.declared.answer.Answer.TheVariants as answer
use Rattle.mono_answer.specs.declared.version.Version.{Version}
use Rattle.mono_answer.specs.Printed.{answer_text_as}
use Rattle.mono_check.specs.declared.reason.Reason.{Reason}
use Rattle.mono_check.specs.declared.verdict.Verdict.{Verdict}
use Rattle.mono_check.specs.declared.verdict.Verdict.TheVariants as verdict
use Rattle.mono_check.specs.Answers.{HasLines, HasSteps, SaysModel, values_item, step_item}
use Rattle.mono_check.specs.Values.{model_of}
use Rattle.mono_check.specs.Verdicts.{IsVerdict}
use Rattle.mono_check.specs.Migrations.{is_accepted, StandsFor, MigratesTo}
use Rattle.mono_check.proofs.Accepted.{same_parts, steps_are_held, same_verdict}

-- ---- a text has these steps

seconds : {A : Type 0} (n : ℕ) (xs : List A) → map (λ l. l.1) (enumerate_from n xs) ≡ xs
seconds n [] = refl
seconds n (x ∷ xs) = ap (λ (ys : List _). x ∷ ys) (seconds (n + 1) xs)

step_items : (steps : List Step) → map Some (map says.Step steps) ≡ map step_item steps
step_items [] = refl
step_items (s ∷ ss) = ap (λ (is : List (Option Item)). step_item s ∷ is) (step_items ss)

-- its items are, from line n on, the status line and the steps
pub has_steps : (c n : ℕ) (k : Kind) (text : List ℕ) (steps : List Step) → items_of c text ≡ enumerate_from n (map Some (says.Status k ∷ map says.Step steps)) → HasSteps c k text steps
has_steps c n k text steps is =
    (enumerate_from (n + 1) (map Some (map says.Step steps)), (n, is), seconds (n + 1) (map Some (map says.Step steps)) ∙ step_items steps)

-- ---- a text stands for no other answer

same_rows : (xs ys : List (List ℤ)) → map values_item xs ≡ map values_item ys → xs ≡ ys
same_rows [] [] h = refl
same_rows [] (y ∷ ys) h = absurd cc
same_rows (x ∷ xs) [] h = absurd cc
same_rows (x ∷ xs) (y ∷ ys) h =
    let head : x ≡ y = cc in
    let rest : map values_item xs ≡ map values_item ys = cc in
    ap (λ (z : List ℤ). z ∷ xs) head ∙ ap (λ (zs : List (List ℤ)). y ∷ zs) (same_rows xs ys rest)

same_lines : (c : ℕ) (text : List ℕ) (j k : Kind) (ls ms : List (ℕ × Option Item)) → HasLines c j text ls → HasLines c k text ms → (j ≡ k) × (ls ≡ ms)
same_lines c text j k ls ms (n, a) (m, b) = same_parts j k n m ls ms (sym a ∙ b)

models_once : (p : Instance) (text : List ℕ) (u w : List Bool) → SaysModel p text u → SaysModel p text w → u ≡ w
models_once p text u w a b =
    let lines : a.lines ≡ b.lines = (same_lines (length p.clauses) text kind.Model kind.Model a.lines b.lines a.behind b.behind).1 in
    let rows : a.rows ≡ b.rows = same_rows a.rows b.rows (sym a.alone ∙ ap (map (λ (l : ℕ × Option Item). l.1)) lines ∙ b.alone) in
    let joined : a.lits ++ pos 0 ∷ [] ≡ b.lits ++ pos 0 ∷ [] = sym a.numbers ∙ ap (flat_map (λ (zs : List ℤ). zs)) rows ∙ b.numbers in
    let lits : a.lits ≡ b.lits = append_cancel_right a.lits b.lits (pos 0 ∷ []) joined in
    a.true_where ∙ ap (model_of p) lits ∙ sym b.true_where

steps_once : (c : ℕ) (k : Kind) (text : List ℕ) (ss ts : List Step) → HasSteps c k text ss → HasSteps c k text ts → ss ≡ ts
steps_once c k text ss ts a b = sym (steps_are_held c k text ss a) ∙ steps_are_held c k text ts b

pub stands_once : (p : Instance) (text : List ℕ) (a b : Answer) → StandsFor p text a → StandsFor p text b → a ≡ b
stands_once p text (answer.Model u) (answer.Model w) h k = ap answer.Model (models_once p text u w h k)
stands_once p text (answer.Model u) (answer.Refutation ts) h (ms, has, all) = absurd (let kinds = (same_lines (length p.clauses) text kind.Model kind.Refutation h.lines ms h.behind has).0 in cc)
stands_once p text (answer.Model u) (answer.Progress ts) h (ms, has, all) = absurd (let kinds = (same_lines (length p.clauses) text kind.Model kind.Progress h.lines ms h.behind has).0 in cc)
stands_once p text (answer.Refutation ss) (answer.Model w) (ls, has, all) k = absurd (let kinds = (same_lines (length p.clauses) text kind.Refutation kind.Model ls k.lines has k.behind).0 in cc)
stands_once p text (answer.Refutation ss) (answer.Refutation ts) h k = ap answer.Refutation (steps_once (length p.clauses) kind.Refutation text ss ts h k)
stands_once p text (answer.Refutation ss) (answer.Progress ts) (ls, has, all) (ms, has', all') = absurd (let kinds = (same_lines (length p.clauses) text kind.Refutation kind.Progress ls ms has has').0 in cc)
stands_once p text (answer.Progress ss) (answer.Model w) (ls, has, all) k = absurd (let kinds = (same_lines (length p.clauses) text kind.Progress kind.Model ls k.lines has k.behind).0 in cc)
stands_once p text (answer.Progress ss) (answer.Refutation ts) (ls, has, all) (ms, has', all') = absurd (let kinds = (same_lines (length p.clauses) text kind.Progress kind.Refutation ls ms has has').0 in cc)
stands_once p text (answer.Progress ss) (answer.Progress ts) h k = ap answer.Progress (steps_once (length p.clauses) kind.Progress text ss ts h k)

pub migrates_once : (p : Instance) (text : List ℕ) (v : Version) (one other : List ℕ) → MigratesTo p text v one → MigratesTo p text v other → one ≡ other
migrates_once p text v one other a b =
    a.is ∙ ap (λ (x : Answer). answer_text_as x v (length p.clauses)) (stands_once p text a.answer b.answer a.stands b.stands) ∙ sym b.is

-- a text that is rejected isn't migrated
pub never_both : (p : Instance) (text : List ℕ) (v : Version) (other : List ℕ) (n : ℕ) (r : Reason) → MigratesTo p text v other → IsVerdict p text (verdict.Rejected n r) → ⊥
never_both p text v other n r m is = by_verdict m.verdict (same_verdict p text m.verdict (verdict.Rejected n r) m.judged is) m.accepted
  where
    by_verdict : (w : Verdict) → w ≡ verdict.Rejected n r → IsTrue (is_accepted w) → ⊥
    by_verdict verdict.Model e h = absurd cc
    by_verdict verdict.Refutation e h = absurd cc
    by_verdict (verdict.Progress k) e h = absurd cc
    by_verdict (verdict.Rejected k s) e h = absurd cc
