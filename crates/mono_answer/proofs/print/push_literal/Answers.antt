use Rattle.std.proofs.Common.{◌+◌, ◌++◌, ◌∷◌, ◌∙◌, [], ℕ, List, Bool, decimal, sym, ap}
use Rattle.std.specs.Fmt.{signed_decimal}
use Rattle.mono_text.proofs.Beginnings.{starts_behind, starts_same, stays, stays_behind}
use Rattle.mono_answer.specs.Behind.{behind}
use Rattle.mono_answer.specs.Printed.{literal_of}
use Rattle.mono_answer.proofs.Printing.{negative_text}
use Rattle.mono_answer.proofs.print.push_literal.Goals as goal

pub returns-clause-ok : goal.returns-clause-ok
returns-clause-ok c =
    let out = c.args.out.now.items in
    c.in_ok-push_natural.ensures.ok
    ∙ (ap (λ (t : List ℕ). t ++ decimal (c.args.place + 1)) c.in_ok-extend_from_slice.ensures.items
    ∙ (negative_text out c.args.place ∙ ap (λ (b : Bool). out ++ behind (signed_decimal (literal_of (c.args.place + 1) b) ∷ [])) (sym c.if-value.false)))

pub returns-in_err-extend_from_slice-clause-err : goal.returns-in_err-extend_from_slice-clause-err
returns-in_err-extend_from_slice-clause-err c = stays _ _ _ c.in_err-extend_from_slice.ensures.items

pub returns-in_err-push_natural-clause-err : goal.returns-in_err-push_natural-clause-err
returns-in_err-push_natural-clause-err c = stays_behind _ _ c.extend_from_slice.new.self.items _ (starts_behind _ c.in_ok-extend_from_slice.ensures.items) (starts_same c.in_err-push_natural.ensures.err)
