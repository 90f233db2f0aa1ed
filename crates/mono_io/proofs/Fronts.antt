-- The rest of a text, after some more of its bytes were taken.
use Rattle.std.proofs.Common.{◌≡◌, ℕ, ◌+◌, ◌-◌, ◌≤◌, List, length, take, drop, ap, sym, ◌∙◌, arith}
use Rattle.std.proofs.lemmas.List.{length-drop, drop-drop, take_rest}

pub length-next : (rest : List ℕ) (count : ℕ) → length (take (length rest - count) (drop count rest)) ≡ length rest - count
length-next rest count = ap length (take_rest rest count) ∙ length-drop count rest

pub done-next : (text rest : List ℕ) (count : ℕ) → length rest ≤ length text → count ≤ length rest
    → length text - length (take (length rest - count) (drop count rest)) ≡ length text - length rest + count
done-next text rest count shorter within = omega (arith, length-next rest count)

-- what is left of the rest is left of the text
pub next_is_rest : (text rest : List ℕ) (count : ℕ) → length rest ≤ length text → count ≤ length rest
    → rest ≡ drop (length text - length rest) text
    → take (length rest - count) (drop count rest) ≡ drop (length text - length (take (length rest - count) (drop count rest))) text
next_is_rest text rest count shorter within is_rest =
    take_rest rest count
    ∙ ap (λ (l : List ℕ). drop count l) is_rest
    ∙ drop-drop count (length text - length rest) text
    ∙ ap (λ (n : ℕ). drop n text) (sym (done-next text rest count shorter within))
