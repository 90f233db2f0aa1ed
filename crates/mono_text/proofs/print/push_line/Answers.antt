use Rattle.std.proofs.Common.{◌++◌, ◌∷◌, [], ◌∙◌, ap, List, ℕ, flat_map, codes, decimal}
use Rattle.mono_text.proofs.Beginnings.{starts_behind, starts_same, starts_further, stays, stays_behind}
use Rattle.mono_text.proofs.Printing.{line_of_numbers}
use Rattle.mono_text.proofs.print.push_line.Goals as goal

pub returns-clause-ok : goal.returns-clause-ok
returns-clause-ok c =
    let numbers = c.args.numbers.now in
    c.in_ok-push.ensures.items
    ∙ (ap (λ (t : List ℕ). t ++ 10 ∷ []) (c.in_ok-push_numbers.ensures.ok ∙ ap (λ (t : List ℕ). t ++ flat_map (λ n. codes " " ++ decimal n) numbers) c.in_ok-extend_from_slice.ensures.items)
    ∙ line_of_numbers c.args.out.now.items c.args.word.now numbers)

pub returns-in_err-extend_from_slice-clause-err : goal.returns-in_err-extend_from_slice-clause-err
returns-in_err-extend_from_slice-clause-err c = stays _ _ _ c.in_err-extend_from_slice.ensures.items

pub returns-in_err-push_numbers-clause-err : goal.returns-in_err-push_numbers-clause-err
returns-in_err-push_numbers-clause-err c =
    stays_behind _ _ c.extend_from_slice.new.self.items _ (starts_behind c.args.word.now c.in_ok-extend_from_slice.ensures.items) c.in_err-push_numbers.ensures.err

pub returns-in_err-push-clause-err : goal.returns-in_err-push-clause-err
returns-in_err-push-clause-err c =
    stays_behind _ _ c.push_numbers.new.out.items _
    (starts_further _ c.extend_from_slice.new.self.items _ (starts_behind c.args.word.now c.in_ok-extend_from_slice.ensures.items) (starts_behind _ c.in_ok-push_numbers.ensures.ok))
    (starts_same c.in_err-push.ensures.items)
