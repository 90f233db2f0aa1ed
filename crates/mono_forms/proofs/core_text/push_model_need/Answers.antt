use Rattle.std.proofs.Common.{◌++◌, ◌∷◌, ◌∙◌, [], ℕ, List, codes, ap}
use Rattle.std.specs.Fmt.{signed_decimal}
use Rattle.mono_answer.specs.Behind.{behind}
use Rattle.mono_answer.specs.Printed.{numbers_text, with_zero, literals_from}
use Rattle.mono_forms.proofs.NoteLines.{note_of_two}
use Rattle.mono_forms.proofs.core_text.push_model_need.Goals as goal

pub returns : goal.returns
returns c =
    let out = c.args.out.now.items in
    let lit = signed_decimal c.args.lit in
    let tokens = numbers_text (with_zero (literals_from 1 c.args.values.now)) in
    c.in_ok-push.ensures.items
    ∙ (ap (λ (t : List ℕ). t ++ 10 ∷ []) (c.in_ok-push_literals.ensures.ok ∙ ap (λ (t : List ℕ). t ++ behind tokens) (c.in_ok-push_literal.ensures ∙ ap (λ (t : List ℕ). t ++ lit) c.in_ok-extend_from_slice.ensures.items))
    ∙ note_of_two out (codes "needed") lit tokens)
