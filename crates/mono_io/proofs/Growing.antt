-- The front of a told text grows by what a read gives.
use Rattle.std.proofs.Common.{◌≡◌, ℕ, ◌+◌, ◌≤◌, List, ◌++◌, length, take, drop, Option, Some, None, IfSome, ap, subst, sym, ◌∙◌, arith, length-append}
use Rattle.std.proofs.Math.Seq.{take-add}
use Rattle.std.proofs.lemmas.List.{length-take-le, length-drop, take-append-le}
use Rattle.mono_io.specs.Reading.{IsFront}
use Rattle.mono_io.specs.Shelf.{GivesNext}

length-given : (text buffer : List ℕ) (place count : ℕ) → GivesNext text place buffer count → length (take count buffer) ≡ count
length-given text buffer place count given =
    ap length given.bytes ∙ length-take-le count (drop place text) (omega (arith, length-drop place text, given.within))

front_grows_by : (text old new buffer : List ℕ) (count : ℕ) → IsFront old text → GivesNext text (length old) buffer count
    → new ≡ old ++ take count buffer → IsFront new text
front_grows_by text old new buffer count front given is_new =
    let longer : length new ≡ length old + count = ap length is_new ∙ length-append old (take count buffer) ∙ ap (λ n. length old + n) (length-given text buffer (length old) count given) in
    let grown : take (length old + count) text ≡ old ++ take count buffer =
    take-add (length old) count text ∙ ap (λ (l : List ℕ). l ++ take count (drop (length old) text)) front.same ∙ ap (λ (l : List ℕ). old ++ l) (sym given.bytes) in
    record {
      within = omega (arith, longer, given.within);
      same = ap (λ n. take n text) longer ∙ grown ∙ sym is_new;
    }

-- behind the read part the buffer holds other bytes
pub front_grows : (told : Option (List ℕ)) (place : Option ℕ) (old new buffer other : List ℕ) (count : ℕ) → place ≡ Some (length old)
    → IfSome told (IsFront old) → IfSome told (λ text. IfSome place (λ at. GivesNext text at buffer count))
    → count ≤ length buffer → new ≡ old ++ take count (buffer ++ other) → IfSome told (IsFront new)
front_grows None place old new buffer other count placed front given within is_new = tt
front_grows (Some text) place old new buffer other count placed front given within is_new =
    let here : GivesNext text (length old) buffer count = subst (λ (p : Option ℕ). IfSome p (λ at. GivesNext text at buffer count)) placed given in
    front_grows_by text old new buffer count front here (is_new ∙ ap (λ (l : List ℕ). old ++ l) (take-append-le count buffer other within))
