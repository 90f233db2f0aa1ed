-- What is left of the open file behind a read, where its text is told.
use Rattle.std.proofs.Common.{◌≡◌, ◌<◌, ◌≤◌, ◌+◌, ℕ, List, ◌++◌, length, take, drop, Option, Some, None, IfSome, ap, sym, subst, ◌∙◌, arith, length-append}
use Rattle.std.proofs.lemmas.List.{length-take-le, length-drop, drop-drop}
use Rattle.std.proofs.Math.Seq.{drop-append_seam}
use Rattle.std.specs.Io.KnownBytes.{Consumes, IsAtEnd}
use Rattle.mono_io.specs.FileShelf.{StandsBehind, IsReadOn}

-- so many bytes of the buffer were read, and none only at the end
abbrev pub HasRead : Option (List ℕ) → Option (List ℕ) → ℕ → List ℕ → Type 0
HasRead old new count buffer = Consumes old new (take count buffer) × (count ≡ 0 → 0 < length buffer → IsAtEnd new)

same_text : (xs ys : List ℕ) → Some xs ≡ Some ys → xs ≡ ys
same_text xs ys same = cc

-- what stood behind the place is what was read, and then what is left
split_there : (text : List ℕ) (at : ℕ) (xs ys read : List ℕ) → StandsBehind text at (Some xs) → xs ≡ read ++ ys → drop at text ≡ read ++ ys
split_there text at xs ys read stands consumed = sym (same_text xs (drop at text) stands.left) ∙ consumed

stands_on : (text : List ℕ) (at count : ℕ) (old new : Option (List ℕ)) (buffer : List ℕ) → StandsBehind text at old → count ≤ length buffer
    → HasRead old new count buffer → StandsBehind text (at + count) new
stands_on text at count None new buffer stands within read = absurd (let none = stands.left in cc)
stands_on text at count (Some xs) None buffer stands within read = absurd read.0
stands_on text at count (Some xs) (Some ys) buffer stands within read =
    let piece = take count buffer in
    let whole : drop at text ≡ piece ++ ys = split_there text at xs ys piece stands read.0 in
    let asked : length piece ≡ count = length-take-le count buffer within in
    record {
      within = omega (arith, stands.within, length-drop at text, ap length whole, length-append piece ys, asked);
      left = ap (λ (l : List ℕ). Some l) (sym (sym (drop-drop count at text) ∙ ap (drop count) whole ∙ ap (λ n. drop n (piece ++ ys)) (sym asked) ∙ drop-append_seam piece ys));
    }

-- as the invariant of a shelf over files
pub reads_on : (told later : Option (List ℕ)) (place : Option ℕ) (at count : ℕ) (old new : Option (List ℕ)) (buffer : List ℕ)
    → later ≡ told → place ≡ Some at → IsReadOn told place old → count ≤ length buffer → HasRead old new count buffer
    → IsReadOn later (Some (at + count)) new
reads_on None later place at count old new buffer same placed kept within read = subst (λ (t : Option (List ℕ)). IsReadOn t (Some (at + count)) new) (sym same) tt
reads_on (Some text) later place at count old new buffer same placed kept within read =
    let stands : StandsBehind text at old = subst (λ (p : Option ℕ). IfSome p (λ n. StandsBehind text n old)) placed kept in
    subst (λ (t : Option (List ℕ)). IsReadOn t (Some (at + count)) new) (sym same) (stands_on text at count old new buffer stands within read)
