use Rattle.std.proofs.Common.{◌++◌, ◌∷◌, ◌∙◌, [], ℕ, ℤ, List, map, codes, decimal, ap}
use Rattle.mono_answer.specs.Behind.{behind}
use Rattle.mono_answer.specs.Printed.{numbers_text, with_zero}
use Rattle.mono_answer.specs.Versions.{turned_numbers}
use Rattle.mono_answer.proofs.Printing.{line_of_two}
use Rattle.mono_answer.proofs.turned.push_turned_chain.Goals as goal

pub returns : goal.returns
returns c =
    let out = c.args.out.now.items in
    let lits = c.args.chain.now.clause in
    let used = turned_numbers c.args.own c.args.chain.now.used in
    c.in_ok-push.ensures.items
    ∙ (ap (λ (t : List ℕ). t ++ 10 ∷ []) (c.in_ok-push_turned_numbers.ensures
    ∙ (ap (λ (ns : List ℕ). c.push_lits.new.out.items ++ behind (map decimal (turned_numbers c.args.own ns))) c.as_slice.ensures
    ∙ ap (λ (t : List ℕ). t ++ behind (map decimal used)) (c.in_ok-push_lits.ensures.ok
    ∙ (ap (λ (zs : List ℤ). c.extend_from_slice.new.self.items ++ behind (numbers_text (with_zero zs))) c.lits.ensures
    ∙ ap (λ (t : List ℕ). t ++ behind (numbers_text (with_zero lits))) c.in_ok-extend_from_slice.ensures.items))))
    ∙ line_of_two out (codes "chain") (numbers_text (with_zero lits)) (map decimal used))
