-- The last literal that was seen, and those before it.
use Rattle.std.proofs.Common.{◌≡◌, ℕ, ◌+◌, ◌-◌, ◌<◌, ◌≤◌, List, [], ◌∷◌, ◌++◌, length, take, get_or, sym, ap, ◌∙◌, arith, ℤ, pos, take-take, length-append}
use Rattle.std.proofs.Math.Seq.{get_or-append_seam}
use Rattle.std.proofs.lemmas.List.{length-take-le, take_all, take_more, take-append-le}
use Rattle.mono_theory.specs.Theories.{Facts, but_last, cut_to, last_seen, seeing}

abbrev with_seen : Facts → List ℤ → Facts
with_seen f t = record { graph = f.graph; atoms = f.atoms; seen = t }

-- one more literal is the last, behind those that were seen
pub seeing_last : (f : Facts) → 0 < length f.seen → seeing (but_last f) (last_seen f) ≡ f
seeing_last f some = ap (with_seen f) (sym (take_more f.seen (length f.seen - 1) (pos 0) (omega (arith, some))) ∙ take_all (length f.seen - 1 + 1) f.seen (omega (arith, some)))

pub len_seeing : (f : Facts) (l : ℤ) → length (seeing f l).seen - 1 ≡ length f.seen
len_seeing f l = omega (arith, length-append f.seen (l ∷ []))

pub but_last_seeing : (f : Facts) (l : ℤ) → but_last (seeing f l) ≡ f
but_last_seeing f l =
    ap (λ (n : ℕ). cut_to n (seeing f l)) (len_seeing f l)
    ∙ ap (with_seen f) (take-append-le (length f.seen) f.seen (l ∷ []) (omega arith) ∙ take_all (length f.seen) f.seen (omega arith))

pub last_seeing : (f : Facts) (l : ℤ) → last_seen (seeing f l) ≡ l
last_seeing f l = ap (λ (n : ℕ). get_or (f.seen ++ l ∷ []) n (pos 0)) (len_seeing f l) ∙ get_or-append_seam f.seen l [] (pos 0)

-- so many first literals are the same without the last, where they aren't all
pub take_but_last : (f : Facts) (n : ℕ) → n ≤ length f.seen - 1 → take n (but_last f).seen ≡ take n f.seen
take_but_last f n le = take-take n (length f.seen - 1) f.seen le

pub len_but_last : (f : Facts) → length (but_last f).seen ≡ length f.seen - 1
len_but_last f = length-take-le (length f.seen - 1) f.seen (omega arith)
