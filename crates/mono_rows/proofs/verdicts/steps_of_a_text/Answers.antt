use Rattle.std.proofs.Common.{◌≡◌, ℕ, Bool, true, false, List, [], ◌∷◌, Option, Some, refl, ap, arith, pos}
use Rattle.std.specs.Prelude.{drop, get_or, map}
use Rattle.mono_steps.specs.declared.step.Step.TheVariants as step
use Rattle.mono_steps.specs.WorkedLemmas.{chain}
use Rattle.mono_answer.specs.declared.item.Item.{Item}
use Rattle.mono_answer.specs.declared.item.Item.TheVariants as item
use Rattle.mono_answer.specs.declared.kind.Kind.TheVariants as kind
use Rattle.mono_rows.proofs.verdicts.steps_of_a_text.Goals as goal

-- the first number that the chain of the first line names, and that of the second line
abbrev first_used : List (Option Item) → ℕ
first_used (Some (item.Step (step.Chain c)) ∷ ls) = get_or c.used 0 0
first_used ls = 0

abbrev second_used : List (Option Item) → ℕ
second_used [] = 0
second_used (l ∷ ls) = first_used ls

abbrev begins_values : List (Option Item) → Bool
begins_values (Some (item.Values zs) ∷ ls) = true
begins_values ls = false

abbrev begins_progress : List (ℕ × Option Item) → Bool
begins_progress ((n, Some (item.Status kind.Progress)) ∷ ls) = true
begins_progress ls = false

-- what the lines behind the first one say
abbrev behind : List (ℕ × Option Item) → List (Option Item)
behind ls = map (λ l. l.1) (drop 1 ls)

pub returns-clause-steps : goal.returns-clause-steps
returns-clause-steps c =
    ((2, Some (item.Step (chain (pos 1 ∷ []) (1 ∷ [])))) ∷ (3, Some (item.Step (chain (pos 1 ∷ []) (2 ∷ [])))) ∷ [], (1, refl), refl)

pub returns-clause-other_order : goal.returns-clause-other_order
returns-clause-other_order c = λ h.
    let text : 1 ≡ first_used (map (λ l. l.1) h.0) = ap (λ (ls : List (ℕ × Option Item)). first_used (behind ls)) h.1.1 in
    let steps : first_used (map (λ l. l.1) h.0) ≡ 2 = ap first_used h.2 in
    omega (arith, text, steps)

pub returns-clause-first_alone : goal.returns-clause-first_alone
returns-clause-first_alone c = λ h.
    let text : 2 ≡ second_used (map (λ l. l.1) h.0) = ap (λ (ls : List (ℕ × Option Item)). second_used (behind ls)) h.1.1 in
    let steps : second_used (map (λ l. l.1) h.0) ≡ 0 = ap second_used h.2 in
    omega (arith, text, steps)

pub returns-clause-other_kind : goal.returns-clause-other_kind
returns-clause-other_kind c = λ h. let e : true ≡ false = ap begins_progress h.1.1 in cc

pub returns-clause-values : goal.returns-clause-values
returns-clause-values c = λ h.
    let text : true ≡ begins_values (map (λ l. l.1) h.0) = ap (λ (ls : List (ℕ × Option Item)). begins_values (behind ls)) h.1.1 in
    let steps : begins_values (map (λ l. l.1) h.0) ≡ false = ap begins_values h.2 in
    cc
