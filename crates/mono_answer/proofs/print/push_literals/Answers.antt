use Rattle.std.proofs.Common.{◌+◌, ◌++◌, ◌∷◌, ◌∙◌, [], ℕ, List, Bool, false, get_or, codes, ap, arith}
use Rattle.std.specs.Fmt.{signed_decimal}
use Rattle.std.proofs.lemmas.List.{take_all}
use Rattle.mono_text.proofs.Beginnings.{starts_behind, starts_same, stays_behind}
use Rattle.mono_answer.specs.Behind.{behind}
use Rattle.mono_answer.specs.Printed.{numbers_text, literals_from, literal_of}
use Rattle.mono_answer.proofs.Printing.{behind_zero, values_more}
use Rattle.mono_answer.proofs.print.push_literals.Goals as goal

pub loop-place-preserved : goal.loop-place-preserved
loop-place-preserved c =
    let out = c.args.out.now.items in
    let values = c.args.values.now in
    let k = c.loop-place.place in
    c.in_ok-push_literal.ensures.ok
    ∙ (ap (λ (t : List ℕ). t ++ behind (signed_decimal (literal_of (k + 1) (get_or values k false)) ∷ [])) c.loop-place.invariant
    ∙ values_more out values k (omega arith))

pub returns-clause-ok : goal.returns-clause-ok
returns-clause-ok c =
    let out = c.args.out.now.items in
    let values = c.args.values.now in
    c.in_ok-extend_from_slice.ensures.items
    ∙ (ap (λ (t : List ℕ). t ++ codes " 0") (c.loop-place.invariant ∙ ap (λ (bs : List Bool). out ++ behind (numbers_text (literals_from 1 bs))) (take_all c.loop-place.place values (omega arith)))
    ∙ behind_zero out (literals_from 1 values))

pub returns-in_err-push_literal-clause-err : goal.returns-in_err-push_literal-clause-err
returns-in_err-push_literal-clause-err c = stays_behind _ _ c.loop-place.out.items _ (starts_behind _ c.loop-place.invariant) c.in_err-push_literal.ensures.err

pub returns-in_err-extend_from_slice-clause-err : goal.returns-in_err-extend_from_slice-clause-err
returns-in_err-extend_from_slice-clause-err c = stays_behind _ _ c.loop-place.out.items _ (starts_behind _ c.loop-place.invariant) (starts_same c.in_err-extend_from_slice.ensures.items)
