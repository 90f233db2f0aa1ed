-- The printed lines of an answer are lines of tokens, whatever their numbers are.
use Rattle.std.proofs.Common.{◌≡◌, ℕ, zero, suc, ◌/◌, ◌%◌, ◌<◌, ◌≤◌, ◌==◌, Bool, true, false, List, [], ◌∷◌, ◌++◌, map, decimal, ℤ, pos, negsuc, refl, arith}
use Rattle.std.specs.Prelude.{if◌then◌else◌, nat_lt}
use Rattle.std.specs.Fmt.{signed_decimal, digits, digits_onto, digit_glyph}
use Rattle.std.proofs.lemmas.Bool.{lt-ltb}
use Rattle.mono_text.proofs.Spaced.{IsToken, AreTokens, AreTokenLines}
use Rattle.mono_text.proofs.Decimals.{AreDigits, word_digits}
use Rattle.mono_graph.specs.declared.label.Label.{Label}
use Rattle.mono_graph.specs.declared.amount.Amount.{Amount}
use Rattle.mono_steps.specs.declared.lemma.Witness.{Witness}
use Rattle.mono_steps.specs.declared.lemma.Witness.TheVariants as witness
use Rattle.mono_steps.specs.declared.step.Step.{Step}
use Rattle.mono_steps.specs.declared.step.Step.TheVariants as step
use Rattle.mono_answer.specs.declared.kind.Kind.{Kind}
use Rattle.mono_answer.specs.declared.kind.Kind.TheVariants as kind
use Rattle.mono_answer.specs.declared.word.Word.{Word}
use Rattle.mono_answer.specs.declared.word.Word.TheVariants as word
use Rattle.mono_answer.specs.declared.answer.Answer.{Answer}
use Rattle.mono_answer.specs.declared.answer.Answer.TheVariants as answer
use Rattle.mono_answer.specs.Printed.{numbers_text, with_zero, literals_from, labels_text, amounts_text, witness_text, word_for, word_text, step_line, status_line, values_line, answer_lines, version_tokens}

-- ---- whatever its size, a number is written as a token

glyph_digit : (d : ℕ) → d < 10 → (48 ≤ digit_glyph false d) × (digit_glyph false d ≤ 57)
glyph_digit d low = let test : nat_lt d 10 ≡ true = lt-ltb d 10 low in rw test (omega arith, omega (arith, low))

-- some digits
record IsNumber (ds : List ℕ) : Type 0 where
  digits : AreDigits ds
  token : IsToken ds

one_more : (d : ℕ) (acc : List ℕ) → d < 10 → AreDigits acc → IsNumber (digit_glyph false d ∷ acc)
one_more d acc low h =
    let g = glyph_digit d low in
    let all : AreDigits (digit_glyph false d ∷ acc) = (g.0, g.1, h) in
    record { digits = all; token = word_digits (digit_glyph false d ∷ acc) all }

last_digits : (k n : ℕ) (acc : List ℕ) → IsNumber acc → IsNumber (digits_onto k 10 false n acc)
last_digits zero n acc h = h
last_digits (suc k) n acc h =
    let one = one_more (n % 10) acc (omega arith) h.digits in
    by_test (n / 10 == 0) one (last_digits k (n / 10) (digit_glyph false (n % 10) ∷ acc) one)
  where
    by_test : (b : Bool) → IsNumber (digit_glyph false (n % 10) ∷ acc) → IsNumber (digits_onto k 10 false (n / 10) (digit_glyph false (n % 10) ∷ acc))
        → IsNumber (if b then digit_glyph false (n % 10) ∷ acc else digits_onto k 10 false (n / 10) (digit_glyph false (n % 10) ∷ acc))
    by_test true x y = x
    by_test false x y = y

decimal_number : (n : ℕ) → IsNumber (decimal n)
unfolding digits
decimal_number n =
    let one = one_more (n % 10) [] (omega arith) tt in
    by_test (n / 10 == 0) one (last_digits 63 (n / 10) (digit_glyph false (n % 10) ∷ []) one)
  where
    by_test : (b : Bool) → IsNumber (digit_glyph false (n % 10) ∷ []) → IsNumber (digits_onto 63 10 false (n / 10) (digit_glyph false (n % 10) ∷ []))
        → IsNumber (if b then digit_glyph false (n % 10) ∷ [] else digits_onto 63 10 false (n / 10) (digit_glyph false (n % 10) ∷ []))
    by_test true x y = x
    by_test false x y = y

any_decimal : (n : ℕ) → IsToken (decimal n)
any_decimal n = (decimal_number n).token

any_signed : (z : ℤ) → IsToken (signed_decimal z)
any_signed (pos n) = any_decimal n
any_signed (negsuc n) = (refl, refl, word_digits (decimal (suc n)) (decimal_number (suc n)).digits)

-- ---- tokens of lines

decimals_tokens : (ns : List ℕ) → AreTokens (map decimal ns)
decimals_tokens [] = tt
decimals_tokens (n ∷ ns) = (any_decimal n, decimals_tokens ns)

pub numbers_tokens : (zs : List ℤ) → AreTokens (numbers_text zs)
numbers_tokens [] = tt
numbers_tokens (z ∷ zs) = (any_signed z, numbers_tokens zs)

tokens_append : (ts us : List (List ℕ)) → AreTokens ts → AreTokens us → AreTokens (ts ++ us)
tokens_append [] us h k = k
tokens_append (t ∷ ts) us h k = (h.0, tokens_append ts us h.1 k)

labels_tokens : (ls : List Label) → AreTokens (labels_text ls)
labels_tokens [] = tt
labels_tokens (l ∷ ls) = (any_decimal l.node, (any_decimal l.value, labels_tokens ls))

amounts_tokens : (fs : List Amount) → AreTokens (amounts_text fs)
amounts_tokens [] = tt
amounts_tokens (f ∷ fs) = (any_decimal f.edge, (any_decimal f.amount, amounts_tokens fs))

witness_tokens : (x : Witness) → AreTokens (witness_text x)
witness_tokens (witness.Path ks) = decimals_tokens ks
witness_tokens (witness.Cut s) = decimals_tokens s
witness_tokens (witness.Label ls) = labels_tokens ls
witness_tokens (witness.Flow fs) = amounts_tokens fs
witness_tokens (witness.FlowCut s) = decimals_tokens s
witness_tokens (witness.Tree ks) = decimals_tokens ks
witness_tokens (witness.Split s) = decimals_tokens s
witness_tokens (witness.Least ks) = decimals_tokens ks
witness_tokens (witness.Cycle ks) = decimals_tokens ks
witness_tokens (witness.Order us) = decimals_tokens us

word_token : (w : Word) → IsToken (word_text w)
word_token word.Path = (refl, refl, (refl, refl, (refl, refl, (refl, refl, tt))))
word_token word.Cut = (refl, refl, (refl, refl, (refl, refl, tt)))
word_token word.Label = (refl, refl, (refl, refl, (refl, refl, (refl, refl, (refl, refl, tt)))))
word_token word.Flow = (refl, refl, (refl, refl, (refl, refl, (refl, refl, tt))))
word_token word.FlowCut = (refl, refl, (refl, refl, (refl, refl, (refl, refl, (refl, refl, (refl, refl, (refl, refl, tt)))))))
word_token word.Tree = (refl, refl, (refl, refl, (refl, refl, (refl, refl, tt))))
word_token word.Split = (refl, refl, (refl, refl, (refl, refl, (refl, refl, (refl, refl, tt)))))
word_token word.Least = (refl, refl, (refl, refl, (refl, refl, (refl, refl, (refl, refl, tt)))))
word_token word.Cycle = (refl, refl, (refl, refl, (refl, refl, (refl, refl, (refl, refl, tt)))))
word_token word.Order = (refl, refl, (refl, refl, (refl, refl, (refl, refl, (refl, refl, tt)))))

step_tokens : (s : Step) → AreTokens (step_line s)
step_tokens (step.Lemma l) =
    (word_token (word_for l.witness), (any_decimal l.atom, tokens_append (numbers_text (with_zero l.clause)) (witness_text l.witness) (numbers_tokens (with_zero l.clause)) (witness_tokens l.witness)))
step_tokens (step.Chain c) =
    ((refl, refl, (refl, refl, (refl, refl, (refl, refl, (refl, refl, tt))))), tokens_append (numbers_text (with_zero c.clause)) (map decimal c.used) (numbers_tokens (with_zero c.clause)) (decimals_tokens c.used))

pub steps_tokens : (ss : List Step) → AreTokenLines (map step_line ss)
steps_tokens [] = tt
steps_tokens (s ∷ ss) = (step_tokens s, steps_tokens ss)

-- ---- the lines in front of steps, and a model's

pub version_are_tokens : AreTokens version_tokens
version_are_tokens = ((refl, refl, (refl, refl, (refl, refl, (refl, refl, (refl, refl, (refl, refl, (refl, refl, tt))))))), ((refl, refl, tt), tt))

pub status_are_tokens : (k : Kind) → AreTokens (status_line k)
status_are_tokens kind.Model = ((refl, refl, tt), ((refl, refl, (refl, refl, (refl, refl, (refl, refl, (refl, refl, (refl, refl, (refl, refl, (refl, refl, (refl, refl, (refl, refl, (refl, refl, tt))))))))))), tt))
status_are_tokens kind.Refutation = ((refl, refl, tt), ((refl, refl, (refl, refl, (refl, refl, (refl, refl, (refl, refl, (refl, refl, (refl, refl, (refl, refl, (refl, refl, (refl, refl, (refl, refl, (refl, refl, (refl, refl, tt))))))))))))), tt))
status_are_tokens kind.Progress = ((refl, refl, tt), ((refl, refl, (refl, refl, (refl, refl, (refl, refl, (refl, refl, (refl, refl, (refl, refl, tt))))))), tt))

pub values_are_tokens : (values : List Bool) → AreTokens (values_line values)
values_are_tokens values = ((refl, refl, tt), numbers_tokens (with_zero (literals_from 1 values)))

pub answer_tokens : (a : Answer) → AreTokenLines (answer_lines a)
answer_tokens (answer.Model values) = (status_are_tokens kind.Model, (values_are_tokens values, tt))
answer_tokens (answer.Refutation steps) = (status_are_tokens kind.Refutation, steps_tokens steps)
answer_tokens (answer.Progress steps) = (status_are_tokens kind.Progress, steps_tokens steps)
