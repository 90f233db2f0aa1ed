-- The numbers on the board, as a table.
use Rattle.std.proofs.Common.{◌≡◌, ℕ, ◌+◌, ◌-◌, ◌<◌, ◌≤◌, List, [], ◌∷◌, ◌++◌, length, get_or, refl, sym, ap, ◌∙◌, ◌⊎◌, inl, inr, arith, All, length-append}
use Rattle.std.proofs.lemmas.Bool.{cases_lt}
use Rattle.std.proofs.lemmas.List.{get_or_append_left, get_or-append_right}
use Rattle.std.proofs.lemmas.List.Elements.{All-weaker}
use Rattle.mono_steps.specs.declared.step.Step.{Step}
use Rattle.mono_steps.specs.declared.step.Step.TheVariants as step
use Rattle.mono_steps.specs.Needed.{StepNamesHeld}
use Rattle.mono_steps.specs.Renumbering.{IsTable}
use Rattle.mono_portfolio.specs.Moved.{moved_number}
use Rattle.mono_portfolio.proofs.Carried.{number_low, number_taken, number_behind}

-- the taken clauses and so many steps have their numbers
pub record IsFilled (c : ℕ) (taken : List ℕ) (b steps : ℕ) (numbers : List ℕ) : Type 0 where
  pub len : length numbers ≡ length taken + steps
  pub at : (j : ℕ) → j < length numbers → get_or numbers j 0 ≡ moved_number c taken b (c + 1 + j)

pub filled_first : (c : ℕ) (taken : List ℕ) (b : ℕ) (numbers : List ℕ) → numbers ≡ taken → IsFilled c taken b 0 numbers
filled_first c taken b numbers e = record {
  len = ap (λ (ns : List ℕ). length ns) e ∙ omega arith;
  at = λ j lt.
      let le : j < length taken = omega (arith, lt, ap (λ (ns : List ℕ). length ns) e) in
      let place : c + 1 + j - c - 1 ≡ j = omega arith in
      ap (λ (ns : List ℕ). get_or ns j 0) e ∙ sym (number_taken c taken b (c + 1 + j) (omega arith) (omega (arith, le)) ∙ ap (λ (k : ℕ). get_or taken k 0) place);
}

pub filled_more : (c : ℕ) (taken : List ℕ) (b steps n : ℕ) (numbers : List ℕ) → IsFilled c taken b steps numbers → n ≡ c + b + 1 + steps → IsFilled c taken b (steps + 1) (numbers ++ n ∷ [])
filled_more c taken b steps n numbers h e = record {
  len = length-append numbers (n ∷ []) ∙ omega (arith, h.len);
  at = λ j lt. by_place j lt (cases_lt j (length numbers));
}
  where
    by_place : (j : ℕ) → j < length (numbers ++ n ∷ []) → (j < length numbers) ⊎ (length numbers ≤ j) → get_or (numbers ++ n ∷ []) j 0 ≡ moved_number c taken b (c + 1 + j)
    by_place j lt (inl low) = get_or_append_left numbers (n ∷ []) 0 j low ∙ h.at j low
    by_place j lt (inr high) =
        let last : j ≡ length numbers = omega (arith, lt, high, length-append numbers (n ∷ [])) in
        let first : j - length numbers ≡ 0 = omega (arith, last) in
        let is : n ≡ c + 1 + j - length taken + b = omega (arith, e, last, h.len) in
        get_or-append_right numbers (n ∷ []) (length numbers) j 0 refl high ∙ ap (λ (k : ℕ). get_or (n ∷ []) k 0) first ∙ is ∙ sym (number_behind c taken b (c + 1 + j) (omega (arith, last, h.len)))

pub filled_table : (c : ℕ) (taken : List ℕ) (b steps : ℕ) (numbers : List ℕ) → IsFilled c taken b steps numbers → IsTable c numbers (moved_number c taken b)
filled_table c taken b steps numbers h = record {
  low = λ n le. number_low c taken b n le;
  high = λ n lt le.
      let place : c + 1 + (n - c - 1) ≡ n = omega (arith, lt) in
      h.at (n - c - 1) (omega (arith, lt, le)) ∙ ap (moved_number c taken b) place;
}

-- ---- what steps name, counted behind fewer clauses

pub names_shift : (c t n m : ℕ) (s : Step) → m ≡ t + n → StepNamesHeld (c + t) n s → StepNamesHeld c m s
names_shift c t n m (step.Lemma l) e h = tt
names_shift c t n m (step.Chain d) e h = λ i x lt. omega (arith, h i x lt, e)

pub all_shift : (c t n m : ℕ) (ss : List Step) → m ≡ t + n → All (StepNamesHeld (c + t) n) ss → All (StepNamesHeld c m) ss
all_shift c t n m ss e h = All-weaker (StepNamesHeld (c + t) n) (StepNamesHeld c m) (λ s k. names_shift c t n m s e k) ss h
