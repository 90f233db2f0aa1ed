use Rattle.std.proofs.Common.{◌++◌, ◌∷◌, ◌∙◌, [], ℕ, List, codes, ap}
use Rattle.mono_answer.specs.Behind.{behind}
use Rattle.mono_answer.specs.Printed.{numbers_text, with_zero, literals_from}
use Rattle.mono_forms.proofs.NoteLines.{note_line}
use Rattle.mono_forms.proofs.best_text.push_values.Goals as goal

pub returns : goal.returns
returns c =
    let tokens = numbers_text (with_zero (literals_from 1 c.args.values.now)) in
    c.in_ok-push.ensures.items
    ∙ (ap (λ (t : List ℕ). t ++ 10 ∷ []) (c.in_ok-push_literals.ensures.ok ∙ ap (λ (t : List ℕ). t ++ behind tokens) c.in_ok-extend_from_slice.ensures.items)
    ∙ note_line c.args.out.now.items (codes "v") tokens)
