use Rattle.std.proofs.Common.{◌≡◌, ℕ, zero, suc, ◌≤◌, Bool, true, false, List, [], ◌∷◌, Option, Some, refl, ap, arith, pos}
use Rattle.std.specs.Prelude.{IsTrue, map}
use Rattle.mono_base.specs.Partial.{has_var}
use Rattle.mono_steps.specs.WorkedLemmas.{chain}
use Rattle.mono_answer.specs.declared.item.Item.{Item}
use Rattle.mono_answer.specs.declared.item.Item.TheVariants as item
use Rattle.mono_answer.specs.declared.kind.Kind.TheVariants as kind
use Rattle.mono_rows.proofs.ModelRows.{behind}
use Rattle.mono_rows.proofs.judged.answers_that_texts_stand_for.Goals as goal

each : (x : ℕ) → 1 ≤ x → x ≤ 1 → IsTrue (has_var (pos 1 ∷ []) x)
each zero low high = absurd (omega (arith, low))
each (suc zero) low high = refl
each (suc (suc x)) low high = absurd (omega (arith, high))

-- the kind of the status line
abbrev begins_refutation : List (ℕ × Option Item) → Bool
begins_refutation ((n, Some (item.Status kind.Refutation)) ∷ ls) = true
begins_refutation ls = false

abbrev begins_progress : List (ℕ × Option Item) → Bool
begins_progress ((n, Some (item.Status kind.Progress)) ∷ ls) = true
begins_progress ls = false

abbrev is_empty : List (Option Item) → Bool
is_empty [] = true
is_empty (l ∷ ls) = false

pub returns-clause-model : goal.returns-clause-model
returns-clause-model c = record {
  lines = _;
  rows = (pos 1 ∷ pos 0 ∷ []) ∷ [];
  lits = pos 1 ∷ [];
  behind = (1, refl);
  alone = refl;
  numbers = refl;
  one_each = record { known = refl; once = refl; each = each };
  true_where = refl;
}

pub returns-clause-refutation : goal.returns-clause-refutation
returns-clause-refutation c = ((2, Some (item.Step (chain [] (1 ∷ [])))) ∷ [], (1, refl), refl)

pub returns-clause-progress : goal.returns-clause-progress
returns-clause-progress c = ((2, Some (item.Step (chain [] (1 ∷ [])))) ∷ [], (1, refl), refl)

pub returns-clause-progress_for_a_refutation : goal.returns-clause-progress_for_a_refutation
returns-clause-progress_for_a_refutation c = λ h. let e : false ≡ true = ap begins_refutation h.1.1 in cc

pub returns-clause-refutation_for_progress : goal.returns-clause-refutation_for_progress
returns-clause-refutation_for_progress c = λ h. let e : false ≡ true = ap begins_progress h.1.1 in cc

pub returns-clause-model_for_progress : goal.returns-clause-model_for_progress
returns-clause-model_for_progress c = λ h. let e : false ≡ true = ap begins_progress h.1.1 in cc

pub returns-clause-step_dropped : goal.returns-clause-step_dropped
returns-clause-step_dropped c = λ h.
    let text : false ≡ is_empty (map (λ l. l.1) h.0) = ap (λ (ls : List (ℕ × Option Item)). is_empty (behind ls)) h.1.1 in
    let steps : is_empty (map (λ l. l.1) h.0) ≡ true = ap is_empty h.2 in
    cc
