-- What a text says whose lines are neither blank nor comments, as those of a printed answer are.
use Rattle.std.proofs.Common.{◌≡◌, ℕ, ◌+◌, Bool, true, false, cond, not, List, [], ◌∷◌, ◌++◌, map, flat_map, Option, decimal, refl, sym, ap, subst, ◌∙◌}
use Rattle.std.specs.Prelude.{if◌then◌else◌}
use Rattle.std.specs.List.{enumerate_from}
use Rattle.mono_text.specs.Text.{is_skipped, lines_of, tokens_of, spaced}
use Rattle.mono_text.proofs.Spaced.{AreTokenLines, token_lines-spaced}
use Rattle.mono_steps.specs.declared.step.Step.{Step}
use Rattle.mono_steps.specs.declared.step.Step.TheVariants as step
use Rattle.mono_answer.specs.declared.word.Word.{Word}
use Rattle.mono_answer.specs.declared.word.Word.TheVariants as word
use Rattle.mono_answer.specs.declared.item.Item.{Item}
use Rattle.mono_answer.specs.declared.answer.Answer.{Answer}
use Rattle.mono_answer.specs.declared.answer.Answer.TheVariants as answer
use Rattle.mono_answer.specs.declared.version.Version.TheVariants as version
use Rattle.mono_answer.specs.Items.{item_of, items_in, items_of, spoken, said_in, answer_said_in, lemma_of}
use Rattle.mono_answer.specs.Versions.{is_version_two, items_by}
use Rattle.mono_answer.specs.Printed.{numbers_text, with_zero, word_for, word_text, witness_text, step_line, answer_lines, answer_text, version_tokens}
use Rattle.mono_answer.proofs.Tokens.{version_are_tokens, answer_tokens}

abbrev AreKept : List (List (List ℕ)) → Type 0
AreKept [] = Unit {0}
AreKept (l ∷ ls) = (is_skipped l ≡ false) × AreKept ls

-- what each of the lines says, from line n on
abbrev pub items_from : ℕ → List (List (List ℕ)) → List (ℕ × Option Item)
items_from n ls = enumerate_from n (map item_of ls)

kept_said : (n : ℕ) (xs : List (List ℕ)) → AreKept (map tokens_of xs) → items_in (enumerate_from n xs) ≡ items_from n (map tokens_of xs)
kept_said n [] h = refl
kept_said n (x ∷ xs) h = by_test (is_skipped (tokens_of x)) h.0 (kept_said (n + 1) xs h.1)
  where
    by_test : (b : Bool) → b ≡ false → items_in (enumerate_from (n + 1) xs) ≡ items_from (n + 1) (map tokens_of xs)
        → said_in (cond (not b) ((n, x) ∷ spoken (enumerate_from (n + 1) xs)) (spoken (enumerate_from (n + 1) xs))) ≡ (n, item_of (tokens_of x)) ∷ items_from (n + 1) (map tokens_of xs)
    by_test true e h = absurd cc
    by_test false e h = ap (λ (is : List (ℕ × Option Item)). (n, item_of (tokens_of x)) ∷ is) h

-- the items of an answer to a problem of c clauses
abbrev answer_from : ℕ → List (List (List ℕ)) → List (ℕ × Option Item)
answer_from c [] = []
answer_from c (l ∷ ls) = if is_version_two l then items_by version.Two (c + 1) (items_from 2 ls) else (1, item_of l) ∷ items_from 2 ls

kept_answer : (c : ℕ) (xs : List (List ℕ)) → AreKept (map tokens_of xs) → answer_said_in c (spoken (enumerate_from 1 xs)) ≡ answer_from c (map tokens_of xs)
kept_answer c [] h = refl
kept_answer c (x ∷ xs) h = by_test (is_skipped (tokens_of x)) h.0 (kept_said 2 xs h.1)
  where
    by_test : (b : Bool) → b ≡ false → items_in (enumerate_from 2 xs) ≡ items_from 2 (map tokens_of xs)
        → answer_said_in c (cond (not b) ((1, x) ∷ spoken (enumerate_from 2 xs)) (spoken (enumerate_from 2 xs)))
        ≡ (if is_version_two (tokens_of x) then items_by version.Two (c + 1) (items_from 2 (map tokens_of xs)) else (1, item_of (tokens_of x)) ∷ items_from 2 (map tokens_of xs))
    by_test true e h = absurd cc
    by_test false e h = ap (λ (is : List (ℕ × Option Item)). if is_version_two (tokens_of x) then items_by version.Two (c + 1) is else (1, item_of (tokens_of x)) ∷ is) h

text_from : (c : ℕ) (ls : List (List (List ℕ))) → AreTokenLines ls → AreKept ls → items_of c (flat_map spaced ls) ≡ answer_from c ls
text_from c ls tokens kept =
    let is : map tokens_of (lines_of (flat_map spaced ls)) ≡ ls = token_lines-spaced ls tokens in
    kept_answer c (lines_of (flat_map spaced ls)) (subst AreKept (sym is) kept) ∙ ap (answer_from c) is

-- ---- printed lines

-- a line that begins with a lemma's word is that lemma's
pub word_line : (w : Word) (ts : List (List ℕ)) → (is_skipped (word_text w ∷ ts) ≡ false) × (item_of (word_text w ∷ ts) ≡ lemma_of w ts)
word_line word.Path ts = (refl, refl)
word_line word.Cut ts = (refl, refl)
word_line word.Label ts = (refl, refl)
word_line word.Flow ts = (refl, refl)
word_line word.FlowCut ts = (refl, refl)
word_line word.Tree ts = (refl, refl)
word_line word.Split ts = (refl, refl)
word_line word.Least ts = (refl, refl)
word_line word.Cycle ts = (refl, refl)
word_line word.Order ts = (refl, refl)

step_kept : (s : Step) → is_skipped (step_line s) ≡ false
step_kept (step.Lemma l) = (word_line (word_for l.witness) (decimal l.atom ∷ (numbers_text (with_zero l.clause) ++ witness_text l.witness))).0
step_kept (step.Chain c) = refl

steps_kept : (ss : List Step) → AreKept (map step_line ss)
steps_kept [] = tt
steps_kept (s ∷ ss) = (step_kept s, steps_kept ss)

answer_kept : (a : Answer) → AreKept (answer_lines a)
answer_kept (answer.Model values) = (refl, (refl, tt))
answer_kept (answer.Refutation steps) = (refl, steps_kept steps)
answer_kept (answer.Progress steps) = (refl, steps_kept steps)

-- ---- printed answers

-- no version line comes first
answer_first : (c : ℕ) (a : Answer) → answer_from c (answer_lines a) ≡ items_from 1 (answer_lines a)
answer_first c (answer.Model values) = refl
answer_first c (answer.Refutation steps) = refl
answer_first c (answer.Progress steps) = refl

-- the text in version 1 says what its lines say
pub printed_items : (c : ℕ) (a : Answer) → items_of c (answer_text a) ≡ items_from 1 (answer_lines a)
printed_items c a = text_from c (answer_lines a) (answer_tokens a) (answer_kept a) ∙ answer_first c a

-- in version 2 chains' numbers count backwards
pub items_behind_version : (c : ℕ) (a : Answer) → items_of c (flat_map spaced (version_tokens ∷ answer_lines a)) ≡ items_by version.Two (c + 1) (items_from 2 (answer_lines a))
items_behind_version c a = text_from c (version_tokens ∷ answer_lines a) (version_are_tokens, answer_tokens a) (refl, answer_kept a)
