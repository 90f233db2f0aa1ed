-- Needs, one after the other, and of a core from which more is dropped.
use Rattle.std.proofs.Common.{◌≡◌, ◌≢◌, ℕ, zero, suc, ◌+◌, ◌-◌, ◌<◌, ◌≤◌, Bool, true, false, List, [], ◌∷◌, ◌++◌, length, take, get_or, refl, sym, ap, subst, ◌∙◌, arith, ℤ, Option, Some, None, ltb, length-append, length-take}
use Rattle.std.specs.Prelude.{slice_set, slice_index_or, replicate}
use Rattle.std.proofs.lemmas.Bool.{ltb-true, ltb-false}
use Rattle.std.proofs.lemmas.List.{take_more, get_or_append_left, get_or_push, length-replicate}
use Rattle.mono_problem.specs.Instance.{Instance}
use Rattle.mono_steps.specs.Renumbering.{pick}
use Rattle.mono_steps.specs.Needed.{is_set}
use Rattle.mono_core.specs.declared.outcome.Need.{Need}
use Rattle.mono_core.specs.declared.outcome.Need.TheVariants as need
use Rattle.mono_steps.specs.declared.step.Step.{Step}
use Rattle.mono_steps.specs.Trimmed.{IsTrimRefutation}
use Rattle.mono_steps.proofs.Ranks.{length_pick, rank_le}
use Rattle.mono_search.specs.Outcomes.{HasModel}
use Rattle.mono_steps.specs.New.{IsProgress}
use Rattle.mono_problem.specs.Assuming.{assuming, HasRoom}
use Rattle.mono_core.specs.Cores.{AreNeeds, AreAmong, AreFound, IsFoundAt, IsTried, IsRefuted, IsWideModel, others_of}
use Rattle.mono_core.proofs.Fewer.{wide_fewer}

-- ---- one need more

needs_push : (N : ℕ → Need → Type 0) (j : ℕ) (kept : List Bool) (ns : List Need) (n : Need) → AreNeeds N j kept ns → N (j + length kept) n → AreNeeds N j (kept ++ true ∷ []) (ns ++ n ∷ [])
needs_push N j [] [] n h one = (subst (λ (i : ℕ). N i n) (let e : j + 0 ≡ j = omega arith in e) one, tt)
needs_push N j [] (m ∷ ns) n h one = absurd h
needs_push N j (false ∷ kept) ns n h one = needs_push N (suc j) kept ns n h (subst (λ (i : ℕ). N i n) (let e : j + suc (length kept) ≡ suc j + length kept = omega arith in e) one)
needs_push N j (true ∷ kept) [] n h one = absurd h
needs_push N j (true ∷ kept) (m ∷ ns) n h one = (h.0, needs_push N (suc j) kept ns n h.1 (subst (λ (i : ℕ). N i n) (let e : j + suc (length kept) ≡ suc j + length kept = omega arith in e) one))

needs_skip : (N : ℕ → Need → Type 0) (j : ℕ) (kept : List Bool) (ns : List Need) → AreNeeds N j kept ns → AreNeeds N j (kept ++ false ∷ []) ns
needs_skip N j [] [] h = tt
needs_skip N j [] (m ∷ ns) h = absurd h
needs_skip N j (false ∷ kept) ns h = needs_skip N (suc j) kept ns h
needs_skip N j (true ∷ kept) [] h = absurd h
needs_skip N j (true ∷ kept) (m ∷ ns) h = (h.0, needs_skip N (suc j) kept ns h.1)

flag_at : (kept : List Bool) (k : ℕ) (b : Bool) → k < length kept → is_set kept k ≡ b → take (k + 1) kept ≡ take k kept ++ b ∷ []
flag_at kept k b lt is = take_more kept k false lt ∙ ap (λ (c : Bool). take k kept ++ c ∷ []) is

pub need_more : (N : ℕ → Need → Type 0) (kept : List Bool) (k : ℕ) (ns : List Need) (n : Need) → k < length kept → AreNeeds N 0 (take k kept) ns → is_set kept k ≡ true → N k n → AreNeeds N 0 (take (k + 1) kept) (ns ++ n ∷ [])
need_more N kept k ns n lt h set one =
    let len : k ≡ 0 + length (take k kept) = simp length-take (omega (arith, lt)) in
    subst (λ (ks : List Bool). AreNeeds N 0 ks (ns ++ n ∷ [])) (sym (flag_at kept k true lt set)) (needs_push N 0 (take k kept) ns n h (subst (λ (i : ℕ). N i n) len one))

pub need_none : (N : ℕ → Need → Type 0) (kept : List Bool) (k : ℕ) (ns : List Need) → k < length kept → AreNeeds N 0 (take k kept) ns → is_set kept k ≡ false → AreNeeds N 0 (take (k + 1) kept) ns
need_none N kept k ns lt h off = subst (λ (ks : List Bool). AreNeeds N 0 ks ns) (sym (flag_at kept k false lt off)) (needs_skip N 0 (take k kept) ns h)

-- ---- fewer flags

-- a flag of the first list is set in the second too, also where the one at j is cleared in both
clear_both : (kept flags : List Bool) (j i : ℕ) → length kept ≡ length flags → ((k : ℕ) → is_set kept k ≡ true → is_set flags k ≡ true) → is_set (slice_set kept j false) i ≡ true → is_set (slice_set flags j false) i ≡ true
clear_both [] flags j i len w s = let e : false ≡ true = s in absurd cc
clear_both (k ∷ kept) [] j i len w s = absurd (omega (arith, len))
clear_both (k ∷ kept) (f ∷ flags) zero zero len w s = let e : false ≡ true = s in absurd cc
clear_both (k ∷ kept) (f ∷ flags) zero (suc i) len w s = w (suc i) s
clear_both (k ∷ kept) (f ∷ flags) (suc j) zero len w s = w 0 s
clear_both (k ∷ kept) (f ∷ flags) (suc j) (suc i) len w s = clear_both kept flags j i (omega (arith, len)) (λ m. w (suc m)) s

pub clear_one : (kept : List Bool) (j : ℕ) → is_set (slice_set kept j false) j ≡ false
clear_one [] j = refl
clear_one (k ∷ kept) zero = refl
clear_one (k ∷ kept) (suc j) = clear_one kept j

pub clear_other : (kept : List Bool) (j i : ℕ) → i ≢ j → is_set kept i ≡ true → is_set (slice_set kept j false) i ≡ true
clear_other [] j i other s = s
clear_other (k ∷ kept) zero zero other s = absurd (other refl)
clear_other (k ∷ kept) zero (suc i) other s = s
clear_other (k ∷ kept) (suc j) zero other s = s
clear_other (k ∷ kept) (suc j) (suc i) other s = clear_other kept j i (λ e. other (ap suc e)) s

clear_fewer : (kept : List Bool) (j i : ℕ) → is_set (slice_set kept j false) i ≡ true → is_set kept i ≡ true
clear_fewer [] j i s = s
clear_fewer (k ∷ kept) zero zero s = let e : false ≡ true = s in absurd cc
clear_fewer (k ∷ kept) zero (suc i) s = s
clear_fewer (k ∷ kept) (suc j) zero s = s
clear_fewer (k ∷ kept) (suc j) (suc i) s = clear_fewer kept j i s

length-clear : (kept : List Bool) (j : ℕ) → length (slice_set kept j false) ≡ length kept
length-clear [] j = refl
length-clear (k ∷ kept) zero = refl
length-clear (k ∷ kept) (suc j) = ap suc (length-clear kept j)

pub cleared_among : (kept : List Bool) (j : ℕ) → AreAmong (slice_set kept j false) kept
cleared_among kept j = record { as_many = length-clear kept j; each = clear_fewer kept j }

pub among_itself : (kept : List Bool) → AreAmong kept kept
among_itself kept = record { as_many = refl; each = λ i s. s }

pub among_trans : (ks ls ms : List Bool) → AreAmong ks ls → AreAmong ls ms → AreAmong ks ms
among_trans ks ls ms h k = record { as_many = h.as_many ∙ k.as_many; each = λ i s. k.each i (h.each i s) }

not_set : (b c : Bool) → (b ≡ true → c ≡ true) → c ≡ false → b ≡ false
not_set false c h e = refl
not_set true c h e = let on : c ≡ true = h refl in absurd cc

pub still_unset : (kept flags : List Bool) (j : ℕ) → AreAmong kept flags → is_set flags j ≡ false → is_set kept j ≡ false
still_unset kept flags j h off = not_set (is_set kept j) (is_set flags j) (h.each j) off

pub found_fewer : (p : Instance) (budget : ℕ) (assumed : List ℤ) (kept flags : List Bool) (j : ℕ) (o : Option Need) → AreAmong kept flags → IsFoundAt p budget assumed flags j o → IsFoundAt p budget assumed kept j o
found_fewer p budget assumed kept flags j None h off = still_unset kept flags j h off
found_fewer p budget assumed kept flags j (Some (need.Model values)) h n =
    wide_fewer p assumed (slice_set flags j false) (slice_set kept j false) values (λ i s. clear_both kept flags j i h.as_many h.each s) n
found_fewer p budget assumed kept flags j (Some (need.Tried tried steps)) h n = record {
  flags = n.flags;
  as_many = n.as_many;
  is = n.is;
  without = n.without;
  others = λ i other s. n.others i other (h.each i s);
  progress = n.progress;
}

-- ---- what was found, the last assumption first

pub all_found_fewer : (p : Instance) (budget : ℕ) (assumed : List ℤ) (kept flags : List Bool) (found : List (Option Need)) → AreAmong kept flags → AreFound p budget assumed flags found → AreFound p budget assumed kept found
all_found_fewer p budget assumed kept flags found h all = record { at = λ i o lt. found_fewer p budget assumed kept flags (length assumed - 1 - i) (get_or found i o) h (all.at i o lt) }

module _ (p : Instance) (budget : ℕ) (assumed : List ℤ) (kept : List Bool) (found : List (Option Need)) (j : ℕ) (o : Option Need) (len : length found + (j + 1) ≡ length assumed) where
  abbrev Found : ℕ → Option Need → Type 0
  Found i x = IsFoundAt p budget assumed kept i x

  last_place : length assumed - 1 - length found ≡ j
  last_place = omega (arith, len)

  pub found_more : AreFound p budget assumed kept found → Found j o → AreFound p budget assumed kept (found ++ o ∷ [])
  found_more h one = record { at = λ i x lt. by_place i x lt (ltb i (length found)) refl }
    where
      by_place : (i : ℕ) (x : Option Need) → i < length (found ++ o ∷ []) → (b : Bool) → ltb i (length found) ≡ b → Found (length assumed - 1 - i) (slice_index_or (found ++ o ∷ []) i x)
      by_place i x lt true e =
          let low : i < length found = ltb-true i (length found) e in
          subst (λ (y : Option Need). Found (length assumed - 1 - i) y) (sym (get_or_append_left found (o ∷ []) x i low)) (h.at i x low)
      by_place i x lt false e =
          let at : length found ≡ i = omega (arith, ltb-false i (length found) e, lt, length-append found (o ∷ [])) in
          let place : j ≡ length assumed - 1 - i = omega (arith, len, at) in
          subst (λ (y : Option Need). Found (length assumed - 1 - i) y) (sym (get_or_push found o x i at)) (subst (λ (k : ℕ). Found k o) place one)

  pub found_before : AreFound p budget assumed kept (found ++ o ∷ []) → AreFound p budget assumed kept found
  found_before h = record { at = λ i x lt. subst (λ (y : Option Need). Found (length assumed - 1 - i) y) (get_or_append_left found (o ∷ []) x i lt) (h.at i x (omega (arith, lt, length-append found (o ∷ [])))) }

  pub found_last : AreFound p budget assumed kept (found ++ o ∷ []) → Found j o
  found_last h =
      let within : length found < length (found ++ o ∷ []) = omega (arith, length-append found (o ∷ [])) in
      subst (λ (k : ℕ). Found k o) last_place (subst (λ (y : Option Need). Found (length assumed - 1 - length found) y) (get_or_push found o o (length found) refl) (h.at (length found) o within))

-- ---- what one search shows

pub wide_of : (q : Instance) (values : List Bool) → HasModel q values → IsWideModel q values
wide_of q values h = record { enough = omega (arith, h.len); satisfies = h.satisfies }

pub tried_of : (p : Instance) (budget : ℕ) (assumed : List ℤ) (kept : List Bool) (j : ℕ) (tried : List ℤ) (steps : List Step) → length kept ≡ length assumed → tried ≡ others_of assumed kept j → IsProgress (assuming p (others_of assumed kept j)) budget steps → IsTried p budget assumed kept j tried steps
tried_of p budget assumed kept j tried steps len is h = record {
  flags = slice_set kept j false;
  as_many = length-clear kept j ∙ len;
  is = is;
  without = clear_one kept j;
  others = λ i other s. clear_other kept j i other s;
  progress = subst (λ (ls : List ℤ). IsProgress (assuming p ls) budget steps) (sym is) h;
}

pub room_fewer : (p : Instance) (assumed : List ℤ) (flags : List Bool) → length flags ≡ length assumed → HasRoom p assumed → HasRoom p (pick flags assumed)
room_fewer p assumed flags len h =
    let few : length (pick flags assumed) ≤ length assumed = omega (arith, length_pick flags assumed len, rank_le flags (length assumed)) in
    record { clauses = omega (arith, few, h.clauses); literals = omega (arith, few, h.literals) }

pub length-others : (assumed : List ℤ) (kept : List Bool) (j : ℕ) → length kept ≡ length assumed → length (slice_set kept j false) ≡ length assumed
length-others assumed kept j len = length-clear kept j ∙ len

-- ---- all of the assumptions

pick_all : (xs : List ℤ) → pick (replicate (length xs) true) xs ≡ xs
pick_all [] = refl
pick_all (x ∷ xs) = ap (λ (ys : List ℤ). x ∷ ys) (pick_all xs)

pub refuted_whole : (p : Instance) (assumed : List ℤ) (steps : List Step) → IsTrimRefutation (assuming p assumed) steps → IsRefuted p assumed (replicate (length assumed) true) steps
refuted_whole p assumed steps h = record {
  as_many = length-replicate (length assumed) true;
  refutes = subst (λ (ls : List ℤ). IsTrimRefutation (assuming p ls) steps) (sym (pick_all assumed)) h;
}
