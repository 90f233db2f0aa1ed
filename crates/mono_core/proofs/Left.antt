-- What short searches found of the assumptions, taken up again place by place.
use Rattle.std.proofs.Common.{◌≡◌, ℕ, ◌-◌, ◌<◌, Bool, List, [], ◌∷◌, ◌++◌, length, get_or, reverse, refl, sym, subst, arith, ℤ, Option, Some, None, length-append}
use Rattle.std.proofs.lemmas.List.{get_or_append_left, get_or_push, get_or-reverse, length-reverse}
use Rattle.mono_problem.specs.Instance.{Instance}
use Rattle.mono_core.specs.declared.outcome.Need.{Need}
use Rattle.mono_core.specs.declared.outcome.Need.TheVariants as need
use Rattle.mono_core.specs.Cores.{AreAmong, AreFound, AreLeft, IsFoundAt, IsLeftAt}
use Rattle.mono_core.proofs.Needs.{found_fewer}

one_left : (p : Instance) (budget : ℕ) (assumed : List ℤ) (kept : List Bool) (j : ℕ) (o : Option Need) → IsFoundAt p budget assumed kept j o → IsLeftAt p assumed kept j o
one_left p budget assumed kept j None h = h
one_left p budget assumed kept j (Some (need.Model values)) h = h
one_left p budget assumed kept j (Some (need.Tried tried steps)) h = tt

one_fewer : (p : Instance) (assumed : List ℤ) (kept flags : List Bool) (j : ℕ) (o : Option Need) → AreAmong kept flags → IsLeftAt p assumed flags j o → IsLeftAt p assumed kept j o
one_fewer p assumed kept flags j None h n = found_fewer p 0 assumed kept flags j None h n
one_fewer p assumed kept flags j (Some (need.Model values)) h n = found_fewer p 0 assumed kept flags j (Some (need.Model values)) h n
one_fewer p assumed kept flags j (Some (need.Tried tried steps)) h n = tt

pub left_fewer : (p : Instance) (assumed : List ℤ) (kept flags : List Bool) (found : List (Option Need)) → AreAmong kept flags → AreLeft p assumed flags found → AreLeft p assumed kept found
left_fewer p assumed kept flags found h all = record { at = λ i o lt. one_fewer p assumed kept flags i (get_or found i o) h (all.at i o lt) }

-- what was found, the last assumption first, read backwards
pub left_of_found : (p : Instance) (budget : ℕ) (assumed : List ℤ) (kept : List Bool) (found : List (Option Need)) → length found ≡ length assumed → AreFound p budget assumed kept found → AreLeft p assumed kept (reverse found)
left_of_found p budget assumed kept found len all = record {
  at = λ i o lt.
      let low : i < length found = omega (arith, lt, length-reverse found) in
      let from : length found - 1 - i < length found = omega (arith, low) in
      let place : length assumed - 1 - (length found - 1 - i) ≡ i = omega (arith, low, len) in
      let one : IsLeftAt p assumed kept (length assumed - 1 - (length found - 1 - i)) (get_or found (length found - 1 - i) o) =
      one_left p budget assumed kept (length assumed - 1 - (length found - 1 - i)) (get_or found (length found - 1 - i) o) (all.at (length found - 1 - i) o from) in
      subst (λ (x : Option Need). IsLeftAt p assumed kept i x) (sym (get_or-reverse found i o low))
      (subst (λ (j : ℕ). IsLeftAt p assumed kept j (get_or found (length found - 1 - i) o)) place one);
}

pub left_before : (p : Instance) (assumed : List ℤ) (kept : List Bool) (found : List (Option Need)) (one : Option Need) → AreLeft p assumed kept (found ++ one ∷ []) → AreLeft p assumed kept found
left_before p assumed kept found one all = record {
  at = λ i o lt. subst (λ (x : Option Need). IsLeftAt p assumed kept i x) (get_or_append_left found (one ∷ []) o i lt) (all.at i o (omega (arith, lt, length-append found (one ∷ []))));
}

pub left_last : (p : Instance) (assumed : List ℤ) (kept : List Bool) (found : List (Option Need)) (one : Option Need) (place : ℕ) → length found ≡ place → AreLeft p assumed kept (found ++ one ∷ []) → IsLeftAt p assumed kept place one
left_last p assumed kept found one place len all =
    let within : length found < length (found ++ one ∷ []) = omega (arith, length-append found (one ∷ [])) in
    subst (λ (j : ℕ). IsLeftAt p assumed kept j one) len
    (subst (λ (x : Option Need). IsLeftAt p assumed kept (length found) x) (get_or_push found one one (length found) refl) (all.at (length found) one within))
