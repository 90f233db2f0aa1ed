-- Lines behind what was said before them, where a version line may come, and chains' numbers may count backwards.
use Rattle.std.proofs.Common.{◌≡◌, ℕ, ◌+◌, Bool, true, false, not, ◌&&◌, cond, List, [], ◌∷◌, ◌++◌, length, length-append, Option, Some, None, is_some, refl, sym, ap, ◌∙◌, arith, ℤ}
use Rattle.std.specs.Prelude.{if◌then◌else◌, codes, bytes_eq, Result, Ok, Err, OnOk, IfNone}
use Rattle.std.specs.declared.alloc.AllocError.{AllocError}
use Rattle.std.proofs.lemmas.Bool.{and_parts}
use Rattle.std.proofs.lemmas.Slice.Eq.{bytes_eq-Decides}
use Rattle.mono_text.specs.Text.{is_skipped, tokens_of}
use Rattle.mono_problem.specs.Instance.{Instance}
use Rattle.mono_steps.specs.Steps.{clause_of}
use Rattle.mono_answer.specs.declared.item.Item.{Item}
use Rattle.mono_answer.specs.declared.item.Item.TheVariants as says
use Rattle.mono_answer.specs.declared.version.Version.{Version}
use Rattle.mono_answer.specs.declared.version.Version.TheVariants as version
use Rattle.mono_answer.specs.Versions.{is_version_two, step_by, item_by, items_by, number_behind}
use Rattle.mono_answer.specs.Items.{item_of, spoken, said_in, items_in, version_line, answer_said_in}
use Rattle.mono_check.specs.declared.reason.Reason.{Reason}
use Rattle.mono_check.specs.declared.said.Said.{Said}
use Rattle.mono_check.specs.declared.values.Values.{Values}
use Rattle.mono_check.specs.declared.said.Said.TheVariants as said
use Rattle.mono_check.specs.Seen.{model_kept}
use Rattle.mono_check.specs.Values.{value_fault}
use Rattle.mono_check.specs.StepLines.{step_line_fault}
use Rattle.mono_check.specs.SoFar.{SoFar, Nothing, OfVersion, OfModel, OfSteps, AtFault, ModelSoFar, StepsSoFar, or_fault, model_behind, model_more, steps_behind, steps_more, next_number, behind_items, behind}
use Rattle.mono_check.specs.Judges.{is_nothing, IsBegun, so_far}
use Rattle.mono_check.specs.Verdicts.{items_outcome}

-- ---- one line more

spoken_skipped : (n : ℕ) (text : List ℕ) (ls : List (ℕ × List ℕ)) → is_skipped (tokens_of text) ≡ true → spoken ((n, text) ∷ ls) ≡ spoken ls
spoken_skipped n text ls h = ap (λ (b : Bool). cond (not b) ((n, text) ∷ spoken ls) (spoken ls)) h

spoken_kept : (n : ℕ) (text : List ℕ) (ls : List (ℕ × List ℕ)) → is_skipped (tokens_of text) ≡ false → spoken ((n, text) ∷ ls) ≡ (n, text) ∷ spoken ls
spoken_kept n text ls h = ap (λ (b : Bool). cond (not b) ((n, text) ∷ spoken ls) (spoken ls)) h

same_spoken : (p : Instance) (s : SoFar) (ks ls : List (ℕ × List ℕ)) → spoken ks ≡ spoken ls → behind p s ks ≡ behind p s ls
same_spoken p Nothing ks ls e = ap (λ (xs : List (ℕ × List ℕ)). items_outcome p (version_line xs) (answer_said_in (length p.clauses) xs)) e
same_spoken p (OfVersion n) ks ls e = ap (λ (xs : List (ℕ × List ℕ)). behind_items p (OfVersion n) (said_in xs)) e
same_spoken p (OfModel m) ks ls e = ap (λ (xs : List (ℕ × List ℕ)). behind_items p (OfModel m) (said_in xs)) e
same_spoken p (OfSteps v r s) ks ls e = ap (λ (xs : List (ℕ × List ℕ)). behind_items p (OfSteps v r s) (said_in xs)) e
same_spoken p (AtFault n r) ks ls e = refl

-- behind a blank line or a comment
pub line_skipped : (p : Instance) (s : SoFar) (n : ℕ) (text : List ℕ) (ls : List (ℕ × List ℕ)) → is_skipped (tokens_of text) ≡ true → behind p s ls ≡ behind p s ((n, text) ∷ ls)
line_skipped p s n text ls h = same_spoken p s ls ((n, text) ∷ ls) (sym (spoken_skipped n text ls h))

-- ---- the version line

pub version_is_none : (ts : List (List ℕ)) → is_version_two ts ≡ true → item_of ts ≡ None
version_is_none [] h = absurd cc
version_is_none (t ∷ []) h = absurd cc
version_is_none (t ∷ u ∷ []) h =
    let word : t ≡ codes "version" = (bytes_eq-Decides t (codes "version")).0 (and_parts (bytes_eq t (codes "version")) (bytes_eq u (codes "2")) h).0 in
    ap (λ (x : List ℕ). item_of (x ∷ u ∷ [])) word
version_is_none (t ∷ u ∷ w ∷ ts) h = absurd cc

-- a line with an item is no version line
pub item_is_no_version : (ts : List (List ℕ)) (i : Item) → item_of ts ≡ Some i → is_version_two ts ≡ false
item_is_no_version ts i h = by_test (is_version_two ts) refl
  where
    by_test : (b : Bool) → is_version_two ts ≡ b → b ≡ false
    by_test false e = refl
    by_test true e = (let none = version_is_none ts e in absurd cc)

-- behind a version line that comes first
pub version_judged : (p : Instance) (n : ℕ) (text : List ℕ) (ls : List (ℕ × List ℕ)) → is_skipped (tokens_of text) ≡ false → is_version_two (tokens_of text) ≡ true → behind p (OfVersion n) ls ≡ behind p Nothing ((n, text) ∷ ls)
version_judged p n text ls kept two =
    ap (λ (b : Bool). items_outcome p (if b then n else 1) (if b then items_by version.Two (length p.clauses + 1) (items_in ls) else said_in ((n, text) ∷ spoken ls))) (sym two)
    ∙ ap (λ (xs : List (ℕ × List ℕ)). items_outcome p (version_line xs) (answer_said_in (length p.clauses) xs)) (sym (spoken_kept n text ls kept))

-- ---- lines that are judged as items

behind_begun : (p : Instance) (s : Said) (ls : List (ℕ × List ℕ)) → IsBegun s → behind p (so_far s) ls ≡ behind_items p (so_far s) (items_in ls)
behind_begun p said.Nothing ls h = absurd cc
behind_begun p (said.OfVersion n) ls h = refl
behind_begun p (said.OfModel status v) ls h = refl
behind_begun p (said.OfSteps v r status s) ls h = refl
behind_begun p (said.AtFault n r) ls h = refl

next_item : (n : ℕ) (text : List ℕ) (ls : List (ℕ × List ℕ)) (i : Option Item) → is_skipped (tokens_of text) ≡ false → item_of (tokens_of text) ≡ i → items_in ((n, text) ∷ ls) ≡ (n, i) ∷ items_in ls
next_item n text ls i kept says = ap said_in (spoken_kept n text ls kept) ∙ ap (λ (o : Option Item). (n, o) ∷ items_in ls) says

-- where it is no version line that comes first
by_item : (p : Instance) (s : Said) (n : ℕ) (text : List ℕ) (ls : List (ℕ × List ℕ)) (i : Option Item) → is_skipped (tokens_of text) ≡ false → item_of (tokens_of text) ≡ i → (is_nothing s && is_version_two (tokens_of text)) ≡ false
    → behind p (so_far s) ((n, text) ∷ ls) ≡ behind_items p (so_far s) ((n, i) ∷ items_in ls)
by_item p said.Nothing n text ls i kept says other =
    ap (λ (xs : List (ℕ × List ℕ)). items_outcome p (version_line xs) (answer_said_in (length p.clauses) xs)) (spoken_kept n text ls kept)
    ∙ ap (λ (b : Bool). items_outcome p (if b then n else 1) (if b then items_by version.Two (length p.clauses + 1) (items_in ls) else said_in ((n, text) ∷ spoken ls))) other
    ∙ ap (λ (o : Option Item). items_outcome p 1 ((n, o) ∷ items_in ls)) says
by_item p (said.OfVersion m) n text ls i kept says other = ap (behind_items p (OfVersion m)) (next_item n text ls i kept says)
by_item p (said.OfModel status v) n text ls i kept says other = ap (behind_items p (so_far (said.OfModel status v))) (next_item n text ls i kept says)
by_item p (said.OfSteps v r status s) n text ls i kept says other = ap (behind_items p (so_far (said.OfSteps v r status s))) (next_item n text ls i kept says)
by_item p (said.AtFault m r) n text ls i kept says other = refl

pub line_judged : (p : Instance) (old new : Said) (n : ℕ) (text : List ℕ) (i : Option Item) → is_skipped (tokens_of text) ≡ false → item_of (tokens_of text) ≡ i → (is_nothing old && is_version_two (tokens_of text)) ≡ false → IsBegun new
    → ((is : List (ℕ × Option Item)) → behind_items p (so_far new) is ≡ behind_items p (so_far old) ((n, i) ∷ is))
    → (ls : List (ℕ × List ℕ)) → behind p (so_far new) ls ≡ behind p (so_far old) ((n, text) ∷ ls)
line_judged p old new n text i kept says other begun judged ls = behind_begun p new ls begun ∙ judged (items_in ls) ∙ sym (by_item p old n text ls i kept says other)

-- so are those where memory was found
pub line_added : (p : Instance) (old new : Said) (r : Result (Unit {0}) AllocError) (n : ℕ) (text : List ℕ) (i : Option Item) → is_skipped (tokens_of text) ≡ false → item_of (tokens_of text) ≡ i → (is_nothing old && is_version_two (tokens_of text)) ≡ false
    → OnOk r (IsBegun new) → OnOk r ((is : List (ℕ × Option Item)) → behind_items p (so_far new) is ≡ behind_items p (so_far old) ((n, i) ∷ is))
    → OnOk r ((ls : List (ℕ × List ℕ)) → behind p (so_far new) ls ≡ behind p (so_far old) ((n, text) ∷ ls))
line_added p old new (Ok x) n text i kept says other begun judged = line_judged p old new n text i kept says other begun judged
line_added p old new (Err e) n text i kept says other begun judged = tt

pub neither : (a b : Bool) → b ≡ false → (a && b) ≡ false
neither true b e = e
neither false b e = refl

pub when_none : {X : Type 0} (o : Option Reason) → o ≡ None → IfNone o X → X
when_none None e h = h
when_none (Some r) e h = absurd cc

-- in version 1 the numbers are those that are written
pub items_one : (m : ℕ) (ls : List (ℕ × Option Item)) → items_by version.One m ls ≡ ls
items_one m [] = refl
items_one m ((n, None) ∷ ls) = ap (λ (ks : List (ℕ × Option Item)). (n, None) ∷ ks) (items_one m ls)
items_one m ((n, Some (says.Status k)) ∷ ls) = ap (λ (ks : List (ℕ × Option Item)). (n, Some (says.Status k)) ∷ ks) (items_one m ls)
items_one m ((n, Some (says.Values zs)) ∷ ls) = ap (λ (ks : List (ℕ × Option Item)). (n, Some (says.Values zs)) ∷ ks) (items_one m ls)
items_one m ((n, Some (says.Step s)) ∷ ls) = ap (λ (ks : List (ℕ × Option Item)). (n, Some (says.Step s)) ∷ ks) (items_one (m + 1) ls)

-- ---- models: no line of theirs has a chain

pub model_by : (p : Instance) (v : Version) (m : ℕ) (s : ModelSoFar) (ls : List (ℕ × Option Item)) → model_behind p s ls ≡ model_behind p s (items_by v m ls)
model_by p v m s [] = refl
model_by p v m s ((n, None) ∷ ls) = refl
model_by p v m s ((n, Some (says.Status k)) ∷ ls) = refl
model_by p v m s ((n, Some (says.Step r)) ∷ ls) = refl
model_by p v m s ((n, Some (says.Values zs)) ∷ ls) =
    ap (or_fault n (value_fault p s.lits (is_some s.end) (Some (says.Values zs)))) (model_by p v m (model_more n (Some (says.Values zs)) s) ls)

-- behind a line without a fault
pub values_next : (p : Instance) (status n : ℕ) (old new : Values) (i : Option Item) → None ≡ value_fault p old.set.members (is_some old.end) i
    → ((k : ℕ) (ls : List (ℕ × Option Item)) → model_behind p (model_kept k new) ls ≡ model_behind p (model_more n i (model_kept k old)) ls)
    → (ls : List (ℕ × Option Item)) → behind_items p (so_far (said.OfModel status new)) ls ≡ behind_items p (so_far (said.OfModel status old)) ((n, i) ∷ ls)
values_next p status n old new i none more ls = more status ls ∙ ap (λ (o : Option Reason). or_fault n o (model_behind p (model_more n i (model_kept status old)) ls)) none

-- ---- steps

number_next : (p : Instance) (clauses : List (List ℤ)) (c : List ℤ) → next_number p clauses + 1 ≡ next_number p (clauses ++ c ∷ [])
number_next p clauses c = let more = length-append clauses (c ∷ []) in omega (arith, more)

-- behind a step without a fault
pub steps_next : (p : Instance) (v : Version) (refutes : Bool) (old new : StepsSoFar) (n : ℕ) (i : Option Item) → None ≡ step_line_fault p old.clauses (item_by v (next_number p old.clauses) i) → new ≡ steps_more n (item_by v (next_number p old.clauses) i) old
    → (ls : List (ℕ × Option Item)) → behind_items p (OfSteps v refutes new) ls ≡ behind_items p (OfSteps v refutes old) ((n, i) ∷ ls)
steps_next p v refutes old new n None none more ls = absurd cc
steps_next p v refutes old new n (Some (says.Status k)) none more ls = absurd cc
steps_next p v refutes old new n (Some (says.Values zs)) none more ls = absurd cc
steps_next p v refutes old new n (Some (says.Step r)) none more ls =
    let m = next_number p old.clauses in
    let s = step_by v m r in
    let next = steps_more n (Some (says.Step s)) old in
    ap (λ (t : StepsSoFar). steps_behind p refutes t (items_by v (next_number p t.clauses) ls)) more
    ∙ ap (λ (k : ℕ). steps_behind p refutes next (items_by v k ls)) (sym (number_next p old.clauses (clause_of s)))
    ∙ ap (λ (o : Option Reason). or_fault n o (steps_behind p refutes next (items_by v (m + 1) ls))) none

-- behind a line at fault
pub steps_at_fault : (p : Instance) (v : Version) (refutes : Bool) (old : StepsSoFar) (n : ℕ) (i : Option Item) (r : Reason) → Some r ≡ step_line_fault p old.clauses (item_by v (next_number p old.clauses) i)
    → (ls : List (ℕ × Option Item)) → behind_items p (AtFault n r) ls ≡ behind_items p (OfSteps v refutes old) ((n, i) ∷ ls)
steps_at_fault p v refutes old n i r fault ls =
    let m = next_number p old.clauses in
    ap (λ (o : Option Reason). or_fault n o (steps_behind p refutes (steps_more n (item_by v m i) old) (items_by v (number_behind m i) ls))) fault

-- a status line of steps, behind no steps
pub first_number : (p : Instance) → next_number p [] ≡ length p.clauses + 1
first_number p = omega arith
