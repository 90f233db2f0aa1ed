-- The lines that `core` writes, one after the other.
use Rattle.std.proofs.Common.{◌≡◌, ℕ, zero, suc, ◌+◌, ◌<◌, ◌≤◌, min, List, [], ◌∷◌, ◌++◌, length, get_or, drop, map, flat_map, codes, ℤ, refl, sym, ap, ◌∙◌, append_assoc, arith}
use Rattle.mono_text.specs.Text.{spaced}
use Rattle.mono_steps.specs.declared.step.Step.{Step}
use Rattle.mono_steps.specs.declared.step.Step.TheVariants as step
use Rattle.mono_answer.specs.declared.kind.Kind.TheVariants as kind
use Rattle.mono_answer.specs.declared.answer.Answer.TheVariants as answer
use Rattle.mono_answer.specs.Printed.{status_line, step_line, answer_lines}
use Rattle.mono_core.specs.declared.outcome.Need.{Need}
use Rattle.mono_forms.specs.CoreTexts.{note, need_text, needs_text}

-- ---- progress

pub noted_step : (out : List ℕ) (s : Step) → (out ++ codes "c ") ++ spaced (step_line s) ≡ out ++ note (step_line s)
noted_step out s = append_assoc out (codes "c ") (spaced (step_line s)) ∙ ap (λ (t : List ℕ). out ++ t) (by_step s)
  where
    by_step : (r : Step) → codes "c " ++ spaced (step_line r) ≡ note (step_line r)
    by_step (step.Lemma l) = refl
    by_step (step.Chain c) = refl

pub noted_status : (out : List ℕ) → (out ++ codes "c ") ++ spaced (status_line kind.Progress) ≡ out ++ note (status_line kind.Progress)
noted_status out = append_assoc out (codes "c ") (spaced (status_line kind.Progress))

pub progress_lines : (out : List ℕ) (steps : List Step) → (out ++ note (status_line kind.Progress)) ++ flat_map note (map step_line steps) ≡ out ++ flat_map note (answer_lines (answer.Progress steps))
progress_lines out steps = append_assoc out (note (status_line kind.Progress)) (flat_map note (map step_line steps))

-- ---- needs

needs_drop : (ls : List ℤ) (ns : List Need) (k : ℕ) (l : ℤ) (n : Need) → k < length ls → k < length ns → l ≡ get_or ls k l → n ≡ get_or ns k n
    → needs_text (drop k ls) (drop k ns) ≡ need_text l n ++ needs_text (drop (suc k) ls) (drop (suc k) ns)
needs_drop [] ns k l n lt lt' is is' = absurd (omega (arith, lt))
needs_drop (x ∷ ls) [] k l n lt lt' is is' = absurd (omega (arith, lt'))
needs_drop (x ∷ ls) (m ∷ ns) zero l n lt lt' is is' =
    ap (λ (y : ℤ). need_text y m ++ needs_text ls ns) (sym is) ∙ ap (λ (o : Need). need_text l o ++ needs_text ls ns) (sym is')
needs_drop (x ∷ ls) (m ∷ ns) (suc k) l n lt lt' is is' = needs_drop ls ns k l n (omega (arith, lt)) (omega (arith, lt')) is is'

pub needs_step : (out new all : List ℕ) (ls : List ℤ) (ns : List Need) (k : ℕ) (l : ℤ) (n : Need) → k < length ls → k < length ns → l ≡ get_or ls k l → n ≡ get_or ns k n
    → out ++ needs_text (drop k ls) (drop k ns) ≡ all → new ≡ out ++ need_text l n → new ++ needs_text (drop (k + 1) ls) (drop (k + 1) ns) ≡ all
needs_step out new all ls ns k l n lt lt' is is' so_far e =
    let up : k + 1 ≡ suc k = omega arith in
    let rest = needs_text (drop (suc k) ls) (drop (suc k) ns) in
    ap (λ (j : ℕ). new ++ needs_text (drop j ls) (drop j ns)) up
    ∙ (ap (λ (t : List ℕ). t ++ rest) e
    ∙ (append_assoc out (need_text l n) rest
    ∙ (ap (λ (t : List ℕ). out ++ t) (sym (needs_drop ls ns k l n lt lt' is is')) ∙ so_far)))

no_needs : (ls : List ℤ) → needs_text ls [] ≡ []
no_needs [] = refl
no_needs (l ∷ ls) = refl

pub needs_over : (ls : List ℤ) (ns : List Need) (k : ℕ) → min (length ls) (length ns) ≤ k → needs_text (drop k ls) (drop k ns) ≡ []
needs_over [] ns zero h = refl
needs_over [] ns (suc k) h = refl
needs_over (l ∷ ls) [] zero h = refl
needs_over (l ∷ ls) [] (suc k) h = no_needs (drop k ls)
needs_over (l ∷ ls) (n ∷ ns) zero h = absurd (omega (arith, h))
needs_over (l ∷ ls) (n ∷ ns) (suc k) h = needs_over ls ns k (omega (arith, h))
