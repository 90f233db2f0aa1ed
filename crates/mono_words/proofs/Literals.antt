-- Words that are literals, one after the other.
use Rattle.std.proofs.Common.{◌≡◌, ℕ, zero, suc, ◌+◌, ◌<◌, ◌≤◌, Bool, true, false, ◌&&◌, List, [], ◌∷◌, ◌++◌, length, get_or, map, drop, Option, Some, None, option_map, is_some, All, ℤ, refl, sym, ap, subst, ◌∙◌, append_assoc, append-nil, arith}
use Rattle.std.specs.Prelude.{option_and_then, nat_abs, nat_lt, nat_le, if◌then◌else◌, ◌==◌, Ok, Err}
use Rattle.std.specs.List.{list_all}
use Rattle.std.specs.Result.{result_ok}
use Rattle.std.proofs.lemmas.List.{length-map}
use Rattle.std.proofs.lemmas.List.Elements.{All-cons, All-nil}
use Rattle.mono_base.specs.declared.limits.TheConstants.{MAX_VARS}
use Rattle.mono_base.specs.Literal.{IsLitWithin}
use Rattle.std.proofs.lemmas.Bool.Decides.{nat_tests}
use Rattle.mono_text.specs.declared.number.NumberRefusal.TheVariants as refusal
use Rattle.mono_text.specs.Numbers.{signed, signed_within}
use Rattle.mono_words.specs.declared.command.TheConstants.{MAX_ASSUMPTIONS}
use Rattle.mono_words.specs.Commands.{lit_of, lits_of, assumptions_of}

abbrev with_first : Option (List ℤ) → ℤ → Option (List ℤ)
with_first rest l = option_map (λ ls. l ∷ ls) rest

-- each word is a literal exactly where all of them are
pub all_literals : {S : Type 0} (f : S → List ℕ) (ws : List S) → list_all (λ w. is_some (lit_of (f w))) ws ≡ is_some (lits_of (map f ws))
all_literals f [] = refl
all_literals f (w ∷ ws) = by_first (lit_of (f w)) (all_literals f ws)
  where
    by_rest : (o : Option (List ℤ)) (l : ℤ) → is_some o ≡ is_some (with_first o l)
    by_rest None l = refl
    by_rest (Some ls) l = refl

    by_first : (o : Option ℤ) → list_all (λ v. is_some (lit_of (f v))) ws ≡ is_some (lits_of (map f ws))
        → (is_some o && list_all (λ v. is_some (lit_of (f v))) ws) ≡ is_some (option_and_then (with_first (lits_of (map f ws))) o)
    by_first None h = refl
    by_first (Some l) h = h ∙ by_rest (lits_of (map f ws)) l

-- the words from a place on
lits_drop : {S : Type 0} (f : S → List ℕ) (ws : List S) (k : ℕ) (w : S) → k < length ws → w ≡ get_or ws k w → lits_of (map f (drop k ws)) ≡ option_and_then (with_first (lits_of (map f (drop (suc k) ws)))) (lit_of (f w))
lits_drop f [] k w lt is = absurd (omega (arith, lt))
lits_drop f (x ∷ ws) zero w lt is = ap (λ y. option_and_then (with_first (lits_of (map f ws))) (lit_of (f y))) (sym is)
lits_drop f (x ∷ ws) (suc k) w lt is = lits_drop f ws k w (omega (arith, lt)) is

abbrev behind : List ℤ → Option (List ℤ) → Option (List ℤ)
behind before rest = option_map (λ ls. before ++ ls) rest

pub literal_more : {S : Type 0} (f : S → List ℕ) (ws : List S) (k : ℕ) (w : S) (l : ℤ) (before after : List ℤ) → k < length ws → w ≡ get_or ws k w → Some l ≡ lit_of (f w) → after ≡ before ++ l ∷ []
    → behind before (lits_of (map f (drop k ws))) ≡ lits_of (map f ws) → behind after (lits_of (map f (drop (k + 1) ws))) ≡ lits_of (map f ws)
literal_more f ws k w l before after lt is found pushed so_far =
    let up : k + 1 ≡ suc k = omega arith in
    let rest = lits_of (map f (drop (suc k) ws)) in
    ap (λ j. behind after (lits_of (map f (drop j ws)))) up
    ∙ (ap (λ (ls : List ℤ). behind ls rest) pushed
    ∙ (sym (by_rest rest)
    ∙ (sym (ap (behind before) (lits_drop f ws k w lt is ∙ ap (option_and_then (with_first rest)) (sym found))) ∙ so_far)))
  where
    by_rest : (o : Option (List ℤ)) → behind before (with_first o l) ≡ behind (before ++ l ∷ []) o
    by_rest None = refl
    by_rest (Some ls) = ap (λ (xs : List ℤ). Some xs) (sym (append_assoc before (l ∷ []) ls))

pub no_literal : {S : Type 0} (f : S → List ℕ) (ws : List S) (k : ℕ) (w : S) (before : List ℤ) → k < length ws → w ≡ get_or ws k w → None ≡ lit_of (f w)
    → behind before (lits_of (map f (drop k ws))) ≡ lits_of (map f ws) → None ≡ lits_of (map f ws)
no_literal f ws k w before lt is none so_far =
    sym (ap (behind before) (lits_drop f ws k w lt is ∙ ap (option_and_then (with_first (lits_of (map f (drop (suc k) ws))))) (sym none))) ∙ so_far

pub literal_begin : (before : List ℤ) (o : Option (List ℤ)) → before ≡ [] → behind before o ≡ o
literal_begin before o none = ap (λ (ls : List ℤ). behind ls o) none ∙ by_option o
  where
    by_option : (q : Option (List ℤ)) → behind [] q ≡ q
    by_option None = refl
    by_option (Some ls) = refl

drop_none : {S : Type 0} (ws : List S) (k : ℕ) → length ws ≤ k → drop k ws ≡ []
drop_none [] zero h = refl
drop_none [] (suc k) h = refl
drop_none (w ∷ ws) zero h = absurd (omega (arith, h))
drop_none (w ∷ ws) (suc k) h = drop_none ws k (omega (arith, h))

pub literal_end : {S : Type 0} (f : S → List ℕ) (ws : List S) (k : ℕ) (before : List ℤ) → length ws ≤ k → behind before (lits_of (map f (drop k ws))) ≡ lits_of (map f ws) → Some before ≡ lits_of (map f ws)
literal_end f ws k before over so_far =
    sym (ap (λ us. behind before (lits_of (map f us))) (drop_none ws k over) ∙ ap (λ (ls : List ℤ). Some ls) (append-nil before)) ∙ so_far

-- ---- literals are within their limit

lit_within : (word : List ℕ) (l : ℤ) → lit_of word ≡ Some l → IsLitWithin MAX_VARS l
lit_within word l is = by_number (signed word) is
  where
    by_zero : (z : ℤ) (b : Bool) → (nat_abs z == 0) ≡ b → nat_abs z ≤ MAX_VARS → (if b then None else Some z) ≡ Some l → IsLitWithin MAX_VARS l
    by_zero z true e high h = absurd cc
    by_zero z false e high h = let same : z ≡ l = cc in subst (λ (y : ℤ). IsLitWithin MAX_VARS y) same (grind (arith, nat_tests, e), high)

    by_limit : (z : ℤ) (b : Bool) → nat_lt MAX_VARS (nat_abs z) ≡ b → option_and_then (λ y. if nat_abs y == 0 then None else Some y) (result_ok (if b then Err refusal.TooLarge else Ok z)) ≡ Some l → IsLitWithin MAX_VARS l
    by_limit z true e h = absurd cc
    by_limit z false e h = by_zero z (nat_abs z == 0) refl (grind (arith, nat_tests, e)) h

    by_number : (o : Option ℤ) → option_and_then (λ y. if nat_abs y == 0 then None else Some y) (result_ok (signed_within MAX_VARS o)) ≡ Some l → IsLitWithin MAX_VARS l
    by_number None h = absurd cc
    by_number (Some z) h = by_limit z (nat_lt MAX_VARS (nat_abs z)) refl h

pub lits_within : (ws : List (List ℕ)) (ls : List ℤ) → lits_of ws ≡ Some ls → All (IsLitWithin MAX_VARS) ls
lits_within [] [] h = All-nil (IsLitWithin MAX_VARS)
lits_within [] (l ∷ ls) h = absurd cc
lits_within (w ∷ ws) ls h = by_first (lit_of w) refl (λ ms rest. lits_within ws ms rest) h
  where
    by_rest : (l : ℤ) (o : Option (List ℤ)) → lit_of w ≡ Some l → ((ms : List ℤ) → o ≡ Some ms → All (IsLitWithin MAX_VARS) ms) → with_first o l ≡ Some ls → All (IsLitWithin MAX_VARS) ls
    by_rest l None first rest k = absurd cc
    by_rest l (Some ms) first rest k =
        let same : l ∷ ms ≡ ls = cc in
        subst (λ (xs : List ℤ). All (IsLitWithin MAX_VARS) xs) same (All-cons (IsLitWithin MAX_VARS) l ms (lit_within w l first) (rest ms refl))

    by_first : (o : Option ℤ) → lit_of w ≡ o → ((ms : List ℤ) → lits_of ws ≡ Some ms → All (IsLitWithin MAX_VARS) ms) → option_and_then (with_first (lits_of ws)) o ≡ Some ls → All (IsLitWithin MAX_VARS) ls
    by_first None first rest k = absurd cc
    by_first (Some l) first rest k = by_rest l (lits_of ws) first rest k

-- ---- of 1 to 1,000 words

are_assumptions : {S : Type 0} (f : S → List ℕ) (ws : List S) → ((nat_le 1 (length ws) && nat_le (length ws) MAX_ASSUMPTIONS) && list_all (λ w. is_some (lit_of (f w))) ws) ≡ is_some (assumptions_of (map f ws))
are_assumptions f ws =
    ap (λ (b : Bool). (nat_le 1 (length ws) && nat_le (length ws) MAX_ASSUMPTIONS) && b) (all_literals f ws)
    ∙ (by_count (nat_le 1 (length ws) && nat_le (length ws) MAX_ASSUMPTIONS) (lits_of (map f ws))
    ∙ ap (λ (n : ℕ). is_some (if nat_le 1 n && nat_le n MAX_ASSUMPTIONS then lits_of (map f ws) else None)) (sym (length-map ws f)))
  where
    by_count : (b : Bool) (o : Option (List ℤ)) → (b && is_some o) ≡ is_some (if b then o else None)
    by_count true o = refl
    by_count false o = refl

pub assumptions_none : (o : Option (List ℤ)) → is_some o ≡ false → None ≡ o
assumptions_none None h = refl
assumptions_none (Some ls) h = let e : true ≡ false = h in absurd cc

-- of so many words as are taken
pub counted_assumptions : {S : Type 0} (f : S → List ℕ) (ws : List S) → (nat_le 1 (length ws) && nat_le (length ws) MAX_ASSUMPTIONS) ≡ true → list_all (λ w. is_some (lit_of (f w))) ws ≡ is_some (assumptions_of (map f ws))
counted_assumptions f ws counted = sym (ap (λ (b : Bool). b && list_all (λ w. is_some (lit_of (f w))) ws) counted) ∙ are_assumptions f ws
