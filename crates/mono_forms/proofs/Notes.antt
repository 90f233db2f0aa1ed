-- Comments in front of an answer's text leave its steps what they are.
use Rattle.std.proofs.Common.{◌≡◌, ℕ, ◌+◌, Bool, true, false, cond, not, List, [], ◌∷◌, ◌++◌, length, map, flat_map, Option, Some, ℤ, refl, sym, ap, subst, ◌∙◌, append_assoc}
use Rattle.std.specs.Prelude.{if◌then◌else◌, codes}
use Rattle.std.specs.List.{enumerate_from}
use Rattle.mono_text.specs.Text.{is_skipped, lines_of, tokens_of, spaced}
use Rattle.mono_text.proofs.Spaced.{IsToken, AreTokens, AreTokenLines, lines_of-spaced, token_lines-spaced}
use Rattle.mono_steps.specs.declared.step.Step.{Step}
use Rattle.mono_answer.specs.declared.kind.Kind.{Kind}
use Rattle.mono_answer.specs.declared.kind.Kind.TheVariants as kind
use Rattle.mono_answer.specs.declared.item.Item.{Item}
use Rattle.mono_answer.specs.declared.item.Item.TheVariants as says
use Rattle.mono_answer.specs.declared.version.Version.TheVariants as version
use Rattle.mono_answer.specs.declared.answer.Answer.TheVariants as answer
use Rattle.mono_answer.specs.Items.{item_of, items_in, items_of, spoken, said_in, answer_said_in}
use Rattle.mono_answer.specs.Versions.{is_version_two, item_by, number_behind, items_by}
use Rattle.mono_answer.specs.Printed.{numbers_text, with_zero, literals_from, answer_lines}
use Rattle.mono_problem.specs.Instance.{Instance}
use Rattle.mono_check.specs.Answers.{step_item, SaysModel, HasSteps}
use Rattle.mono_answer.proofs.Tokens.{numbers_tokens, steps_tokens, status_are_tokens}
use Rattle.mono_core.specs.declared.outcome.Need.{Need}
use Rattle.mono_core.specs.declared.outcome.Need.TheVariants as need
use Rattle.mono_forms.specs.CoreTexts.{note, core_line, need_text, needs_text}

progress_tokens : (ss : List Step) → AreTokenLines (answer_lines (answer.Progress ss))
progress_tokens ss = (status_are_tokens kind.Progress, steps_tokens ss)

-- ---- what lines say, whatever their numbers

abbrev said : List (ℕ × Option Item) → List (Option Item)
said ls = map (λ l. l.1) ls

-- lines from n on and from m on say the same
same_said : (n m : ℕ) (xs : List (List ℕ)) → said (items_in (enumerate_from n xs)) ≡ said (items_in (enumerate_from m xs))
same_said n m [] = refl
same_said n m (x ∷ xs) = by_test (is_skipped (tokens_of x)) (same_said (n + 1) (m + 1) xs)
  where
    by_test : (b : Bool) → said (items_in (enumerate_from (n + 1) xs)) ≡ said (items_in (enumerate_from (m + 1) xs))
        → said (said_in (cond (not b) ((n, x) ∷ spoken (enumerate_from (n + 1) xs)) (spoken (enumerate_from (n + 1) xs))))
        ≡ said (said_in (cond (not b) ((m, x) ∷ spoken (enumerate_from (m + 1) xs)) (spoken (enumerate_from (m + 1) xs))))
    by_test true h = h
    by_test false h = ap (λ (is : List (Option Item)). item_of (tokens_of x) ∷ is) h

items_said : (m : ℕ) (xs ys : List (ℕ × Option Item)) → said xs ≡ said ys → said (items_by version.Two m xs) ≡ said (items_by version.Two m ys)
items_said m [] [] h = refl
items_said m [] (y ∷ ys) h = absurd cc
items_said m (x ∷ xs) [] h = absurd cc
items_said m ((n, i) ∷ xs) ((k, j) ∷ ys) h =
    let head : i ≡ j = cc in
    let rest : said xs ≡ said ys = cc in
    ap (λ (o : Option Item). said (items_by version.Two m ((n, o) ∷ xs))) head
    ∙ ap (λ (is : List (Option Item)). item_by version.Two m j ∷ is) (items_said (number_behind m j) xs ys rest)

-- the lines of an answer from n on and from m on say the same
same_answer : (c n m : ℕ) (xs : List (List ℕ)) → said (answer_said_in c (spoken (enumerate_from n xs))) ≡ said (answer_said_in c (spoken (enumerate_from m xs)))
same_answer c n m [] = refl
same_answer c n m (x ∷ xs) = by_test (is_skipped (tokens_of x)) (same_answer c (n + 1) (m + 1) xs)
  where
    by_version : (b : Bool) → said (if b then items_by version.Two (c + 1) (items_in (enumerate_from (n + 1) xs)) else (n, item_of (tokens_of x)) ∷ items_in (enumerate_from (n + 1) xs))
        ≡ said (if b then items_by version.Two (c + 1) (items_in (enumerate_from (m + 1) xs)) else (m, item_of (tokens_of x)) ∷ items_in (enumerate_from (m + 1) xs))
    by_version true = items_said (c + 1) (items_in (enumerate_from (n + 1) xs)) (items_in (enumerate_from (m + 1) xs)) (same_said (n + 1) (m + 1) xs)
    by_version false = ap (λ (is : List (Option Item)). item_of (tokens_of x) ∷ is) (same_said (n + 1) (m + 1) xs)

    by_test : (b : Bool) → said (answer_said_in c (spoken (enumerate_from (n + 1) xs))) ≡ said (answer_said_in c (spoken (enumerate_from (m + 1) xs)))
        → said (answer_said_in c (cond (not b) ((n, x) ∷ spoken (enumerate_from (n + 1) xs)) (spoken (enumerate_from (n + 1) xs))))
        ≡ said (answer_said_in c (cond (not b) ((m, x) ∷ spoken (enumerate_from (m + 1) xs)) (spoken (enumerate_from (m + 1) xs))))
    by_test true h = h
    by_test false h = by_version (is_version_two (tokens_of x))

-- ---- a line that is skipped

skipped_first : (c : ℕ) (x : List ℕ) (xs : List (List ℕ)) → is_skipped (tokens_of x) ≡ true → said (answer_said_in c (spoken (enumerate_from 1 (x ∷ xs)))) ≡ said (answer_said_in c (spoken (enumerate_from 1 xs)))
skipped_first c x xs skipped = by_test (is_skipped (tokens_of x)) skipped
  where
    by_test : (b : Bool) → b ≡ true → said (answer_said_in c (cond (not b) ((1, x) ∷ spoken (enumerate_from 2 xs)) (spoken (enumerate_from 2 xs)))) ≡ said (answer_said_in c (spoken (enumerate_from 1 xs)))
    by_test true e = same_answer c 2 1 xs
    by_test false e = absurd cc

one_line : (l : List (List ℕ)) (x : List ℕ) → AreTokens l → lines_of (spaced l ++ []) ≡ x ∷ [] → tokens_of x ≡ l
one_line l x h is = let both : tokens_of x ∷ [] ≡ l ∷ [] = sym (ap (map tokens_of) is) ∙ token_lines-spaced (l ∷ []) (h, tt) in cc

by_line : (c : ℕ) (l : List (List ℕ)) (rest x : List ℕ) → AreTokens l → is_skipped l ≡ true → lines_of (spaced l ++ rest) ≡ x ∷ lines_of rest → lines_of (spaced l ++ []) ≡ x ∷ []
    → said (items_of c (spaced l ++ rest)) ≡ said (items_of c rest)
by_line c l rest x h skipped is alone =
    ap (λ (xs : List (List ℕ)). said (answer_said_in c (spoken (enumerate_from 1 xs)))) is
    ∙ skipped_first c x (lines_of rest) (ap is_skipped (one_line l x h alone) ∙ skipped)

skipped_line : (c : ℕ) (l : List (List ℕ)) (rest : List ℕ) → AreTokens l → is_skipped l ≡ true → said (items_of c (spaced l ++ rest)) ≡ said (items_of c rest)
skipped_line c l rest h skipped = by_line c l rest _ h skipped (lines_of-spaced l rest h) (lines_of-spaced l [] h)

-- ---- texts in front of steps

-- behind this text steps are what they are without it
abbrev pub KeepsSteps : List ℕ → Type 0
KeepsSteps notes = (c : ℕ) (k : Kind) (rest : List ℕ) (steps : List Step) → HasSteps c k rest steps → HasSteps c k (notes ++ rest) steps

-- a text whose lines say the same has the same steps
same_steps : (c : ℕ) (k : Kind) (text other : List ℕ) (steps : List Step) → said (items_of c other) ≡ said (items_of c text) → HasSteps c k text steps → HasSteps c k other steps
same_steps c k text other steps same (ls, (n, is), lines) =
    by_items (items_of c other) refl (same ∙ ap said is ∙ ap (λ (is : List (Option Item)). Some (says.Status k) ∷ is) lines)
  where
    by_items : (xs : List (ℕ × Option Item)) → items_of c other ≡ xs → said xs ≡ Some (says.Status k) ∷ map step_item steps → HasSteps c k other steps
    by_items [] e h = absurd cc
    by_items ((m, i) ∷ xs) e h =
        let head : i ≡ Some (says.Status k) = cc in
        let rest : said xs ≡ map step_item steps = cc in
        (xs, (m, e ∙ ap (λ (o : Option Item). (m, o) ∷ xs) head), rest)

keeps_none : KeepsSteps []
keeps_none = λ c k rest steps has. has

pub keeps_both : (s t : List ℕ) → KeepsSteps s → KeepsSteps t → KeepsSteps (s ++ t)
keeps_both s t first second = λ c k rest steps has.
    subst (λ (text : List ℕ). HasSteps c k text steps) (sym (append_assoc s t rest)) (first c k (t ++ rest) steps (second c k rest steps has))

pub keeps_note : (ts : List (List ℕ)) → AreTokens ts → KeepsSteps (note ts)
keeps_note ts h = λ c k rest steps has. same_steps c k rest (note ts ++ rest) steps (skipped_line c (codes "c" ∷ ts) rest ((refl, refl, tt), h) refl) has

keeps_notes : (ls : List (List (List ℕ))) → AreTokenLines ls → KeepsSteps (flat_map note ls)
keeps_notes [] h = keeps_none
keeps_notes (l ∷ ls) h = keeps_both (note l) (flat_map note ls) (keeps_note l h.0) (keeps_notes ls h.1)

-- a text whose lines say the same has the same model
same_model : (p : Instance) (text other : List ℕ) (values : List Bool) → said (items_of (length p.clauses) other) ≡ said (items_of (length p.clauses) text) → SaysModel p text values → SaysModel p other values
same_model p text other values same h =
    with_lines p text other values h (items_of (length p.clauses) other) refl (same ∙ ap said h.behind.1)
  where
    with_lines : (q : Instance) (old new : List ℕ) (vs : List Bool) (m : SaysModel q old vs) (xs : List (ℕ × Option Item)) → items_of (length q.clauses) new ≡ xs → said xs ≡ Some (says.Status kind.Model) ∷ said m.lines → SaysModel q new vs
    with_lines q old new vs m [] e says_so = absurd cc
    with_lines q old new vs m ((n, i) ∷ xs) e says_so =
        let head : i ≡ Some (says.Status kind.Model) = cc in
        let rest : said xs ≡ said m.lines = cc in
        record {
          lines = xs;
          rows = m.rows;
          lits = m.lits;
          behind = (n, e ∙ ap (λ (o : Option Item). (n, o) ∷ xs) head);
          alone = rest ∙ m.alone;
          numbers = m.numbers;
          one_each = m.one_each;
          true_where = m.true_where;
        }

pub keeps_model : (ts : List (List ℕ)) → AreTokens ts → (p : Instance) (rest : List ℕ) (values : List Bool) → SaysModel p rest values → SaysModel p (note ts ++ rest) values
keeps_model ts h p rest values = same_model p rest (note ts ++ rest) values (skipped_line (length p.clauses) (codes "c" ∷ ts) rest ((refl, refl, tt), h) refl)

-- ---- the lines of a core

core_word : IsToken (codes "core")
core_word = (refl, refl, (refl, refl, (refl, refl, (refl, refl, tt))))

needed_word : IsToken (codes "needed")
needed_word = (refl, refl, (refl, refl, (refl, refl, (refl, refl, (refl, refl, (refl, refl, tt))))))

pub open_word : IsToken (codes "open")
open_word = (refl, refl, (refl, refl, (refl, refl, (refl, refl, tt))))

keeps_need : (l : ℤ) (n : Need) → KeepsSteps (need_text l n)
keeps_need l (need.Model values) =
    let zs = l ∷ with_zero (literals_from 1 values) in
    keeps_note (codes "needed" ∷ numbers_text zs) (needed_word, numbers_tokens zs)
keeps_need l (need.Tried tried steps) =
    let zs = l ∷ with_zero tried in
    let lines = answer_lines (answer.Progress steps) in
    keeps_both (note (codes "open" ∷ numbers_text zs)) (flat_map note lines) (keeps_note (codes "open" ∷ numbers_text zs) (open_word, numbers_tokens zs)) (keeps_notes lines (progress_tokens steps))

keeps_needs : (ls : List ℤ) (ns : List Need) → KeepsSteps (needs_text ls ns)
keeps_needs [] ns = keeps_none
keeps_needs (l ∷ ls) [] = keeps_none
keeps_needs (l ∷ ls) (n ∷ ns) = keeps_both (need_text l n) (needs_text ls ns) (keeps_need l n) (keeps_needs ls ns)

pub keeps_core : (lits : List ℤ) (needs : List Need) → KeepsSteps (core_line lits ++ needs_text lits needs)
keeps_core lits needs = keeps_both (core_line lits) (needs_text lits needs) (keeps_note (codes "core" ∷ numbers_text (with_zero lits)) (core_word, numbers_tokens (with_zero lits))) (keeps_needs lits needs)
