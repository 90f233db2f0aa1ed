-- Lists in one flat list.
use Rattle.std.proofs.Common.{◌≡◌, ℕ, zero, suc, ◌<◌, slice_index, slice_index_or, ◌+◌, ◌-◌, ◌≤◌, List, [], ◌∷◌, ◌++◌, length, drop, slice_range, sum_by, refl, ap, arith, length-drop, length-take}
use Rattle.std.proofs.lemmas.List.Sums.{sum_by-cons}
use Rattle.std.proofs.lemmas.Grind.{common_steps}
use Rattle.std.proofs.lemmas.List.{take-append-le, drop-append-le}
use Rattle.mono_problem.specs.Flat.{lists_from, AreEnds, start_at}
use Rattle.std.specs.Prelude.{ℤ}

pub length-lists_from : {A : Type 0} (start : ℕ) (items : List A) (ends : List ℕ) → length (lists_from start items ends) ≡ length ends
length-lists_from start items [] = refl
length-lists_from start items (e ∷ es) = ap suc (length-lists_from e items es)

ends-le : (start : ℕ) (ends : List ℕ) (len : ℕ) → AreEnds start ends len → start ≤ len
ends-le start [] len h = omega (arith, h)
ends-le start (e ∷ es) len h = omega (arith, h.0, ends-le e es len h.1)

length-slice_range : {A : Type 0} (items : List A) (start end : ℕ) → start ≤ end → end ≤ length items → length (slice_range items start end) + start ≡ end
length-slice_range items start end low high = simp (length-take, length-drop) (omega arith)

pub total-lists_from : {A : Type 0} (start : ℕ) (items : List A) (ends : List ℕ) → AreEnds start ends (length items) → sum_by (λ list. length list) (lists_from start items ends) + start ≡ length items
total-lists_from start items [] h = omega (arith, h)
total-lists_from start items (e ∷ es) h =
    let within : e ≤ length items = ends-le e es (length items) h.1 in
    let first = length-slice_range items start e h.0 within in
    let others = total-lists_from e items es h.1 in
    rw (sum_by-cons (λ list. length list) (slice_range items start e) (lists_from e items es)) (omega arith)

pub AreEnds-append : (start : ℕ) (ends : List ℕ) (len more : ℕ) → AreEnds start ends len → len ≤ more → AreEnds start (ends ++ more ∷ []) more
AreEnds-append start [] len more h up = (omega (arith, h), refl)
AreEnds-append start (e ∷ es) len more h up = (h.0, AreEnds-append e es len more h.1 up)

slice_range-front : {A : Type 0} (items list : List A) (start end : ℕ) → start ≤ end → end ≤ length items → slice_range (items ++ list) start end ≡ slice_range items start end
slice_range-front items list start end low high =
    let a : start ≤ length items = omega arith in
    let b : end - start ≤ length (drop start items) = simp length-drop (omega arith) in
    rw (drop-append-le start items list a) (rw (take-append-le (end - start) (drop start items) list b) refl)

slice_range-back : {A : Type 0} (items list : List A) → slice_range (items ++ list) (length items) (length (items ++ list)) ≡ list
slice_range-back items list = grind (arith, common_steps)

pub lists_from-append : {A : Type 0} (start : ℕ) (items list : List A) (ends : List ℕ) → AreEnds start ends (length items) → lists_from start (items ++ list) (ends ++ length (items ++ list) ∷ []) ≡ lists_from start items ends ++ list ∷ []
lists_from-append start items list [] h = rw h (rw slice_range-back refl)
lists_from-append start items list (e ∷ es) h =
    let within : e ≤ length items = ends-le e es (length items) h.1 in
    rw (slice_range-front items list start e h.0 within) (ap (λ lists. slice_range items start e ∷ lists) (lists_from-append e items list es h.1))

-- the list at a place
pub list_at : (start : ℕ) (items : List ℤ) (ends : List ℕ) (place : ℕ) → place < length ends → slice_index_or (lists_from start items ends) place [] ≡ slice_range items (start_at start ends place) (slice_index ends place)
list_at start items [] place low = absurd (omega arith)
list_at start items (e ∷ es) zero low = refl
list_at start items (e ∷ es) (suc zero) low = list_at e items es zero (omega arith)
list_at start items (e ∷ es) (suc (suc k)) low = list_at e items es (suc k) (omega arith)

-- where it begins and ends, whatever the items are
pub record AreBounds (ends : List ℕ) (start place len : ℕ) : Type 0 where
  pub rises : start_at start ends place ≤ slice_index ends place
  pub within : slice_index ends place ≤ len

pub bounds_at : (start : ℕ) (ends : List ℕ) (place len : ℕ) → AreEnds start ends len → place < length ends → AreBounds ends start place len
bounds_at start [] place len h low = absurd (omega arith)
bounds_at start (e ∷ es) zero len h low = record { rises = h.0; within = ends-le e es len h.1 }
bounds_at start (e ∷ es) (suc zero) len h low =
    let r = bounds_at e es zero len h.1 (omega arith) in record { rises = r.rises; within = r.within }
bounds_at start (e ∷ es) (suc (suc k)) len h low =
    let r = bounds_at e es (suc k) len h.1 (omega arith) in record { rises = r.rises; within = r.within }

pub start_at-later : (start : ℕ) (ends : List ℕ) (place : ℕ) → 0 < place → start_at start ends place ≡ slice_index ends (place - 1)
start_at-later start ends zero h = absurd (omega arith)
start_at-later start ends (suc k) h = ap (slice_index ends) (omega arith)
