-- Fields, one after the other.
use Rattle.std.proofs.Common.{◌≡◌, ◌≢◌, ℕ, suc, ◌+◌, ◌-◌, ◌<◌, ◌≤◌, ◌⊎◌, inl, inr, true, false, leb, ltb, eqb, List, [], ◌∷◌, ◌++◌, length, take, drop, set, get_or, refl, ap, sym, ◌∙◌, arith, Result, Ok, Err, append_assoc, below_more, get_or-set_other, get_or-set_same, length-drop}
use Rattle.std.proofs.Math.Numerals.{add-one}
use Rattle.std.proofs.Math.Seq.{drop-cons}
use Rattle.std.proofs.lemmas.Grind.{common_steps}
use Rattle.std.proofs.lemmas.Bool.Decides.{leb_tells, nat_tests}
use Rattle.std.proofs.lemmas.List.{take_more_set, drop-drop}
use Rattle.mono_text.specs.declared.number.NumberRefusal.{NumberRefusal}
use Rattle.mono_text.specs.declared.field.FieldRefusal.{FieldRefusal}
use Rattle.mono_text.specs.declared.field.FieldRefusal.TheVariants as field
use Rattle.mono_text.specs.Numbers.{natural, within}
use Rattle.mono_text.specs.Fields.{refused, onto, fields_from, first_fields, fields_of}

-- the numbers read, before what is still to be read
abbrev pub after : List ℕ → Result (List ℕ) FieldRefusal → Result (List ℕ) FieldRefusal
after xs (Err e) = Err e
after xs (Ok ns) = Ok (xs ++ ns)

after-none : (r : Result (List ℕ) FieldRefusal) → after [] r ≡ r
after-none (Ok ns) = refl
after-none (Err e) = refl

after-onto : (k : ℕ) (xs : List ℕ) (v : ℕ) (r : Result (List ℕ) FieldRefusal) → after (xs ++ v ∷ []) r ≡ after xs (onto k (Ok v) r)
after-onto k xs v (Ok ns) = ap Ok (append_assoc xs (v ∷ []) ns)
after-onto k xs v (Err e) = refl

-- the first k fields are read
pub record FieldsSoFar (count k : ℕ) (limits values : List ℕ) (all ts : List (List ℕ)) : Type 0 where
  pub room : length values ≡ count
  pub cut : k + length ts ≡ length all
  pub left : ts ≡ drop k all
  pub gives : after (take k values) (fields_from k (drop k limits) ts) ≡ fields_from 0 limits all
  pub within : (i : ℕ) → i < k → get_or values i 0 ≤ get_or limits i 0

pub fields_begin : (count : ℕ) (limits values : List ℕ) (all : List (List ℕ)) → length values ≡ count → FieldsSoFar count 0 limits values all all
fields_begin count limits values all room = record { room = room; cut = omega arith; left = refl; gives = after-none (fields_from 0 limits all); within = λ i h. absurd (omega arith) }

pub drop-one : {A : Type 0} (k : ℕ) (x : A) (xs ys : List A) → x ∷ xs ≡ drop k ys → xs ≡ drop (k + 1) ys
drop-one k x xs ys e = ap (drop 1) e ∙ drop-drop 1 k ys

module _ (count k : ℕ) (limits values : List ℕ) (all : List (List ℕ)) (t : List ℕ) (rest : List (List ℕ)) (counted : length limits ≡ count) (more : k < count) (h : FieldsSoFar count k limits values all (t ∷ rest)) where
  first : fields_from k (drop k limits) (t ∷ rest) ≡ onto k (within (get_or limits k 0) (natural t)) (fields_from (k + 1) (drop (k + 1) limits) rest)
  first = let some : k < length limits = omega arith in rw (drop-cons limits k 0, add-one) refl

  pub left_more : rest ≡ drop (k + 1) all
  left_more = drop-one k t rest all h.left

  -- a number read goes behind those before
  pub fields_number : (v : ℕ) → Ok v ≡ within (get_or limits k 0) (natural t) → v ≤ get_or limits k 0 → FieldsSoFar count (k + 1) limits (set values k v) all rest
  fields_number v e small =
      let room : k < length values = omega (arith, h.room) in
      record {
        room = grind (arith, common_steps, h.room);
        cut = omega (arith, h.cut);
        left = left_more;
        gives = stepped room ∙ h.gives;
        within = below_more _ _
            (λ i low. let other : i ≢ k = omega arith in rw get_or-set_other (h.within i low))
            (rw get_or-set_same small);
      } where
        stepped : k < length values → after (take (k + 1) (set values k v)) (fields_from (k + 1) (drop (k + 1) limits) rest) ≡ after (take k values) (fields_from k (drop k limits) (t ∷ rest))
        stepped room = rw (first, ← e) (rw (take_more_set values k v room) (after-onto k (take k values) v (fields_from (k + 1) (drop (k + 1) limits) rest)))

  -- the tokens behind the last field
  pub passed_on : drop (count - 1 - k) rest ≡ drop count all
  passed_on =
      let whole : k + 1 + (count - 1 - k) ≡ count = omega arith in
      ap (drop (count - 1 - k)) left_more ∙ (drop-drop (count - 1 - k) (k + 1) all ∙ ap (λ n. drop n all) whole)

  -- where as many tokens as are asked for are left, the first refusal is the answer
  pub fields_refused : (e : NumberRefusal) → Err e ≡ within (get_or limits k 0) (natural t) → leb (count - 1 - k) (length rest) ≡ true → Err (refused k e) ≡ first_fields limits all
  fields_refused e is enough =
      let all_there : ltb (length all) (length limits) ≡ false = grind (arith, nat_tests, h.cut) in
      let stopped : after (take k values) (fields_from k (drop k limits) (t ∷ rest)) ≡ Err (refused k e) = rw (first, ← is) refl in
      rw all_there (sym stopped ∙ h.gives)

  -- where fewer are left, their count is
  pub fields_fewer : leb (count - 1 - k) (length rest) ≡ false → Err field.Count ≡ first_fields limits all
  fields_fewer few =
      let missing : ltb (length all) (length limits) ≡ true = grind (arith, nat_tests, h.cut) in
      rw missing refl

-- where no token is left behind the fields, all tokens are the fields
pub fields_whole : (limits : List ℕ) (ts : List (List ℕ)) → drop (length limits) ts ≡ [] → first_fields limits ts ≡ fields_of limits ts
fields_whole limits ts none = by_count (leb_tells (suc (length ts)) (length limits)) where
  short : length ts ≤ length limits
  short = omega (arith, ap length none, length-drop (length limits) ts)

  by_count : ((leb (suc (length ts)) (length limits) ≡ true) × (suc (length ts) ≤ length limits)) ⊎ ((leb (suc (length ts)) (length limits) ≡ false) × (length limits < suc (length ts))) → first_fields limits ts ≡ fields_of limits ts
  by_count (inl fewer) = let other : eqb (length ts) (length limits) ≡ false = grind (arith, nat_tests) in rw (fewer.0, other) refl
  by_count (inr enough) = let few = short in let same : eqb (length ts) (length limits) ≡ true = grind (arith, nat_tests) in rw (enough.0, same) refl
