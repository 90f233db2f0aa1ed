-- The printed text of a lemma, for rows that are worked out.
use Rattle.std.specs.Prelude.{ℕ, pos, List, [], ◌∷◌}
use Rattle.mono_steps.specs.declared.lemma.Witness.{Witness}
use Rattle.mono_steps.specs.declared.step.Step.TheVariants as step
use Rattle.mono_steps.specs.WorkedLemmas.{minus}
use Rattle.mono_answer.specs.declared.answer.Answer.TheVariants as answer
use Rattle.mono_answer.specs.Printed.{answer_text}

-- the text of progress whose one step is the lemma on predicate 2 with the clause of 3 and -1
abbrev pub text_of_lemma : Witness → List ℕ
text_of_lemma w = answer_text (answer.Progress (step.Lemma (record { atom = 2; clause = pos 3 ∷ minus 1 ∷ []; witness = w }) ∷ []))
