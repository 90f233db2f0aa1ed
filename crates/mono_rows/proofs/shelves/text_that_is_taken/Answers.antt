use Rattle.std.proofs.Common.{◌≡◌, ℕ, List, [], codes, Option, Some, refl, ap, arith}
use Rattle.std.specs.Prelude.{length, unwrap_or}
use Rattle.mono_rows.proofs.shelves.text_that_is_taken.Goals as goal

pub returns-clause-taken : goal.returns-clause-taken
returns-clause-taken c = record {
  text = codes "ab";
  read = record {
    once = record { begun = refl; texts = refl; steady = λ s. s };
    whole = refl;
    within = let e : length (codes "ab") ≡ 2 = refl in omega (arith, e);
    place = refl;
    faults = refl;
  };
  taken = refl;
}

-- the length of the text that was read whole
two_bytes : (text : List ℕ) → Some (codes "ab") ≡ Some text → 2 ≡ length text
two_bytes text is = ap (λ (o : Option (List ℕ)). length (unwrap_or o [])) is

pub returns-clause-other_text : goal.returns-clause-other_text
returns-clause-other_text c = λ f.
    let whole = two_bytes f.text f.read.whole in
    let taken : length f.text ≡ 1 = ap (λ (t : List ℕ). length t) f.taken in
    omega (arith, whole, taken)

pub returns-clause-not_to_its_end : goal.returns-clause-not_to_its_end
returns-clause-not_to_its_end c = λ f.
    let whole = two_bytes f.text f.read.whole in
    let place : 1 ≡ length f.text = ap (λ (o : Option ℕ). unwrap_or o 0) f.read.place in
    omega (arith, whole, place)
