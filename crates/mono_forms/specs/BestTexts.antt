-- What `best` writes, and why `best` and `ask` are refused.
use Rattle.std.specs.Prelude.{ℕ, Bool, List, [], ◌∷◌, ◌++◌, codes}
use Rattle.std.specs.Fmt.{signed_decimal}
use Rattle.mono_answer.specs.declared.answer.Answer.TheVariants as answer
use Rattle.mono_answer.specs.Printed.{numbers_text, with_zero, literals_from, answer_text}
use Rattle.mono_best.specs.declared.outcome.BestOutcome.{BestOutcome}
use Rattle.mono_best.specs.declared.outcome.BestOutcome.TheVariants as outcome
use Rattle.mono_forms.specs.CoreTexts.{note}
use Rattle.mono_forms.specs.declared.asking.AskRefusal.{AskRefusal}
use Rattle.mono_forms.specs.declared.asking.AskRefusal.TheVariants as refusal

-- the values that meet the bound
abbrev pub values_note : List Bool → List ℕ
values_note values = note (codes "v" ∷ numbers_text (with_zero (literals_from 1 values)))

abbrev pub best_text : BestOutcome → List ℕ
best_text (outcome.Best b model steps) = note (codes "best" ∷ signed_decimal b ∷ []) ++ values_note model ++ answer_text (answer.Refutation steps)
best_text (outcome.Never steps) = note (codes "never" ∷ []) ++ answer_text (answer.Refutation steps)
best_text (outcome.Beyond model) = note (codes "beyond" ∷ []) ++ answer_text (answer.Model model)
best_text (outcome.Unknown b steps) = note (codes "open" ∷ signed_decimal b ∷ []) ++ answer_text (answer.Progress steps)

abbrev pub refusal_text : AskRefusal → List ℕ
refusal_text refusal.BadAtom = codes "refused 0 BadAtom\n"
refusal_text refusal.BadBound = codes "refused 0 BadBound\n"
refusal_text refusal.TooMany = codes "refused 0 TooMany\n"
