use Rattle.std.proofs.Common.{◌++◌, ◌∷◌, ◌∙◌, [], ℕ, ℤ, List, w64, ap}
use Rattle.std.specs.Fmt.{signed_decimal}
use Rattle.std.proofs.lemmas.Int.{to_z-of_z}
use Rattle.mono_forms.proofs.NoteLines.{bound_line}
use Rattle.mono_forms.proofs.best_text.push_bound.Goals as goal

pub returns : goal.returns
returns c =
    let word = c.args.word.now in
    let digits = signed_decimal c.args.bound in
    let kept = to_z-of_z w64 c.args.bound c.ranges.bound in
    c.in_ok-push-2.ensures.items
    ∙ (ap (λ (t : List ℕ). t ++ 10 ∷ []) (c.in_ok-push_signed.ensures.ok
    ∙ (ap (λ (z : ℤ). c.push.new.self.items ++ signed_decimal z) kept
    ∙ ap (λ (t : List ℕ). t ++ digits) (c.in_ok-push.ensures.items
    ∙ ap (λ (t : List ℕ). t ++ 32 ∷ []) (c.in_ok-extend_from_slice-2.ensures.items ∙ ap (λ (t : List ℕ). t ++ word) c.in_ok-extend_from_slice.ensures.items))))
    ∙ bound_line c.args.out.now.items word digits)
