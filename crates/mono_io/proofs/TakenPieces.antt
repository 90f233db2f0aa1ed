-- What was taken of a text piece by piece, and the text that was read so.
use Rattle.std.proofs.Common.{◌≡◌, ℕ, ◌+◌, ◌≤◌, List, ◌++◌, length, take, Option, Some, None, IfSome, ap, subst, sym, ◌∙◌, arith, length-append, refl}
use Rattle.std.specs.Prelude.{IsTrue, IsNone, true, false}
use Rattle.std.proofs.lemmas.List.{length-take-le}
use Rattle.mono_io.specs.Faults.{counted}
use Rattle.mono_io.specs.Reading.{HasTaken, HasTakenAll, IsFront, IsReadInto, KeepsChoice}
use Rattle.mono_io.specs.Shelf.{ShelfView, Texts, Lacks, GivesNext, advanced, chosen_text, text_named, told_text}
use Rattle.mono_io.proofs.Growing.{front_grows}

-- one more piece; behind the read part the buffer holds other bytes
pub taken_more : (old new : ShelfView) (limit taken : ℕ) (before after : List ℕ → Type 0) (buffer other : List ℕ) (count : ℕ) → HasTaken old limit taken before → chosen_text new ≡ chosen_text old
    → IfSome (chosen_text old) (λ text. IfSome old.place (λ at. GivesNext text at buffer count)) → count ≤ length buffer → taken + count ≤ limit → new.place ≡ advanced count old.place
    → ((bytes : List ℕ) → before bytes → after (bytes ++ take count (buffer ++ other))) → HasTaken new limit (taken + count) after
taken_more old new limit taken before after buffer other count k chosen given within room place more =
    let piece = take count (buffer ++ other) in
    let all : List ℕ = k.bytes ++ piece in
    let asked : length piece ≡ count = length-take-le count (buffer ++ other) (omega (arith, within, length-append buffer other)) in
    let here : old.place ≡ Some (length k.bytes) = k.place ∙ ap (λ (n : ℕ). Some n) (sym k.many) in
    record {
      bytes = all;
      many = length-append k.bytes piece ∙ omega (arith, k.many, asked);
      within = room;
      place = place ∙ ap (advanced count) k.place;
      front = subst (λ (told : Option (List ℕ)). IfSome told (IsFront all)) (sym chosen) (front_grows (chosen_text old) old.place k.bytes all buffer other count here k.front given within refl);
      taken = more k.bytes k.taken;
    }

-- ---- the place after a piece

-- no further than that
pub place_within : (old new : Option ℕ) (taken count most : ℕ) → old ≡ Some taken → new ≡ advanced count old → taken + count ≤ most → IfSome new (λ place. place ≤ most)
place_within old new taken count most is place within = subst (λ (p : Option ℕ). IfSome p (λ at. at ≤ most)) (sym (place ∙ ap (advanced count) is)) within

-- and not there
pub place_before : (old new : Option ℕ) (taken count limit : ℕ) → old ≡ Some taken → new ≡ advanced count old → taken + count ≤ limit → new ≡ Some (limit + 1) → ⊥
place_before old new taken count limit is place within past =
    let e : taken + count ≡ limit + 1 = let same : Some (taken + count) ≡ Some (limit + 1) = sym (place ∙ ap (advanced count) is) ∙ past in cc in
    omega (arith, e)

-- ---- the text that was read

found : (o : Option (List ℕ)) (bytes : List ℕ) → (IsNone o → false ≡ true) → IfSome o (λ text. bytes ≡ text) → o ≡ Some bytes
found None bytes lacks is = absurd (let e = lacks refl in cc)
found (Some text) bytes lacks is = ap Some (sym is)

named : (texts new : Option Texts) (chosen name bytes : List ℕ) → new ≡ texts → IfSome texts (λ _. chosen ≡ name) → (Lacks texts name → false ≡ true) → IfSome (told_text new chosen) (λ text. bytes ≡ text)
    → IfSome texts (λ entries. text_named name entries ≡ Some bytes)
named None new chosen name bytes same is lacks whole = tt
named (Some entries) new chosen name bytes same is lacks whole =
    found (text_named name entries) bytes lacks (subst (λ (o : Option (List ℕ)). IfSome o (λ text. bytes ≡ text)) (ap (λ (texts : Option Texts). told_text texts chosen) same ∙ ap (λ (n : List ℕ). told_text (Some entries) n) is) whole)

-- the name was begun, and then all bytes were taken
pub read_all : (name : List ℕ) (limit : ℕ) (old begun new : ShelfView) (takes : List ℕ → Type 0) → HasTakenAll new limit takes → begun.begun ≡ counted old.begun → begun.texts ≡ old.texts → (IsTrue old.steady → IsTrue begun.steady)
    → IfSome old.texts (λ _. begun.chosen ≡ name) → (Lacks old.texts name → false ≡ true) → begun.faults ≡ old.faults → KeepsChoice begun new → new.faults ≡ begun.faults → IsReadInto name limit old new takes
read_all name limit old begun new takes w once texts steady chosen lacks none keeps no_more = record {
  text = w.bytes;
  read = record {
    once = record { begun = keeps.begun ∙ once; texts = keeps.texts ∙ texts; steady = λ h. keeps.steady (steady h) };
    whole = named old.texts new.texts begun.chosen name w.bytes (keeps.texts ∙ texts) chosen lacks (subst (λ (n : List ℕ). IfSome (told_text new.texts n) (λ text. w.bytes ≡ text)) keeps.chosen w.whole);
    within = w.within;
    place = w.place;
    faults = no_more ∙ none;
  };
  taken = w.taken;
}
