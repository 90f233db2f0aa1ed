use Rattle.std.proofs.Common.{◌++◌, ◌∷◌, ◌∙◌, [], ℕ, ℤ, List, map, codes, decimal, ap}
use Rattle.mono_text.proofs.Beginnings.{starts_behind, starts_same, starts_further, stays, stays_behind}
use Rattle.mono_answer.specs.Behind.{behind}
use Rattle.mono_answer.specs.Printed.{numbers_text, with_zero}
use Rattle.mono_answer.proofs.Printing.{line_of_two}
use Rattle.mono_answer.proofs.print.push_chain.Goals as goal

pub returns-clause-ok : goal.returns-clause-ok
returns-clause-ok c =
    let out = c.args.out.now.items in
    let lits = c.args.chain.now.clause in
    let used = c.args.chain.now.used in
    c.in_ok-push.ensures.items
    ∙ (ap (λ (t : List ℕ). t ++ 10 ∷ []) (c.in_ok-push_clause_numbers.ensures.ok
    ∙ (ap (λ (ns : List ℕ). c.push_lits.new.out.items ++ behind (map decimal ns)) c.as_slice.ensures
    ∙ ap (λ (t : List ℕ). t ++ behind (map decimal used)) (c.in_ok-push_lits.ensures.ok
    ∙ (ap (λ (zs : List ℤ). c.extend_from_slice.new.self.items ++ behind (numbers_text (with_zero zs))) c.lits.ensures
    ∙ ap (λ (t : List ℕ). t ++ behind (numbers_text (with_zero lits))) c.in_ok-extend_from_slice.ensures.items))))
    ∙ line_of_two out (codes "chain") (numbers_text (with_zero lits)) (map decimal used))

pub returns-in_err-extend_from_slice-clause-err : goal.returns-in_err-extend_from_slice-clause-err
returns-in_err-extend_from_slice-clause-err c = stays _ _ _ c.in_err-extend_from_slice.ensures.items

pub returns-in_err-push_lits-clause-err : goal.returns-in_err-push_lits-clause-err
returns-in_err-push_lits-clause-err c = stays_behind _ _ c.extend_from_slice.new.self.items _ (starts_behind _ c.in_ok-extend_from_slice.ensures.items) c.in_err-push_lits.ensures.err

pub returns-in_err-push_clause_numbers-clause-err : goal.returns-in_err-push_clause_numbers-clause-err
returns-in_err-push_clause_numbers-clause-err c =
    stays_behind _ _ c.push_lits.new.out.items _
    (starts_further _ c.extend_from_slice.new.self.items _ (starts_behind _ c.in_ok-extend_from_slice.ensures.items) (starts_behind _ c.in_ok-push_lits.ensures.ok))
    c.in_err-push_clause_numbers.ensures.err

pub returns-in_err-push-clause-err : goal.returns-in_err-push-clause-err
returns-in_err-push-clause-err c =
    let worded = starts_behind _ c.in_ok-extend_from_slice.ensures.items in
    let claused = starts_further _ c.extend_from_slice.new.self.items _ worded (starts_behind _ c.in_ok-push_lits.ensures.ok) in
    let numbered = starts_further _ c.push_lits.new.out.items _ claused (starts_behind _ c.in_ok-push_clause_numbers.ensures.ok) in
    stays_behind _ _ c.push_clause_numbers.new.out.items _ numbered (starts_same c.in_err-push.ensures.items)
