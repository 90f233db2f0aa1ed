use Rattle.std.proofs.Common.{◌≡◌, ◌++◌, ◌∷◌, ◌∙◌, [], ℕ, List, codes, ap, append_assoc}
use Rattle.mono_answer.specs.Behind.{behind}
use Rattle.mono_answer.specs.Printed.{numbers_text, with_zero}
use Rattle.mono_forms.specs.CoreTexts.{core_line, needs_text}
use Rattle.mono_forms.proofs.NoteLines.{note_line}
use Rattle.mono_forms.proofs.core_text.push_core.Goals as goal

pub returns : goal.returns
returns c =
    let out = c.args.out.now.items in
    let lits = c.args.lits.now in
    let tokens = numbers_text (with_zero lits) in
    let line : c.push.new.self.items ≡ out ++ core_line lits =
    c.in_ok-push.ensures.items
    ∙ (ap (λ (t : List ℕ). t ++ 10 ∷ []) (c.in_ok-push_lits.ensures.ok ∙ ap (λ (t : List ℕ). t ++ behind tokens) c.in_ok-extend_from_slice.ensures.items)
    ∙ note_line out (codes "core") tokens) in
    c.in_ok-push_needs.ensures ∙ (ap (λ (t : List ℕ). t ++ needs_text lits c.args.needs.now) line ∙ append_assoc out (core_line lits) (needs_text lits c.args.needs.now))
