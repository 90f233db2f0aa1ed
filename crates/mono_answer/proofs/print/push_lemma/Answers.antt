use Rattle.std.proofs.Common.{◌≡◌, ◌++◌, ◌∷◌, ◌∙◌, [], ℕ, ℤ, List, decimal, ap}
use Rattle.mono_text.proofs.Beginnings.{starts_behind, starts_same, starts_further, stays, stays_behind}
use Rattle.mono_answer.specs.Behind.{behind}
use Rattle.mono_answer.specs.Printed.{numbers_text, with_zero, witness_text, word_for, word_text}
use Rattle.mono_answer.proofs.Printing.{line_of_three}
use Rattle.mono_answer.proofs.print.push_lemma.Goals as goal

pub returns-clause-ok : goal.returns-clause-ok
returns-clause-ok c =
    let out = c.args.out.now.items in
    let atom = c.args.lemma.now.atom in
    let lits = c.args.lemma.now.clause in
    let witness = c.args.lemma.now.witness in
    let word : List ℕ = word_text (word_for witness) in
    let worded : c.extend_from_slice.new.self.items ≡ out ++ word = c.in_ok-extend_from_slice.ensures.items ∙ ap (λ (t : List ℕ). out ++ t) (c.text.ensures ∙ ap word_text c.word_for.ensures) in
    let named : c.push_number.new.out.items ≡ (out ++ word) ++ behind (decimal atom ∷ []) = c.in_ok-push_number.ensures.ok ∙ (ap (λ (n : ℕ). c.extend_from_slice.new.self.items ++ behind (decimal n ∷ [])) c.from.ensures ∙ ap (λ (t : List ℕ). t ++ behind (decimal atom ∷ [])) worded) in
    let claused : c.push_lits.new.out.items ≡ ((out ++ word) ++ behind (decimal atom ∷ [])) ++ behind (numbers_text (with_zero lits)) =
    c.in_ok-push_lits.ensures.ok ∙ (ap (λ (zs : List ℤ). c.push_number.new.out.items ++ behind (numbers_text (with_zero zs))) c.lits.ensures ∙ ap (λ (t : List ℕ). t ++ behind (numbers_text (with_zero lits))) named) in
    c.in_ok-push.ensures.items
    ∙ (ap (λ (t : List ℕ). t ++ 10 ∷ []) (c.in_ok-push_witness.ensures.ok ∙ ap (λ (t : List ℕ). t ++ behind (witness_text witness)) claused)
    ∙ line_of_three out word (decimal atom ∷ []) (numbers_text (with_zero lits)) (witness_text witness))

pub returns-in_err-extend_from_slice-clause-err : goal.returns-in_err-extend_from_slice-clause-err
returns-in_err-extend_from_slice-clause-err c = stays _ _ _ c.in_err-extend_from_slice.ensures.items

pub returns-in_err-push_number-clause-err : goal.returns-in_err-push_number-clause-err
returns-in_err-push_number-clause-err c = stays_behind _ _ c.extend_from_slice.new.self.items _ (starts_behind _ c.in_ok-extend_from_slice.ensures.items) c.in_err-push_number.ensures.err

pub returns-in_err-push_lits-clause-err : goal.returns-in_err-push_lits-clause-err
returns-in_err-push_lits-clause-err c =
    stays_behind _ _ c.push_number.new.out.items _
    (starts_further _ c.extend_from_slice.new.self.items _ (starts_behind _ c.in_ok-extend_from_slice.ensures.items) (starts_behind _ c.in_ok-push_number.ensures.ok))
    c.in_err-push_lits.ensures.err

pub returns-in_err-push_witness-clause-err : goal.returns-in_err-push_witness-clause-err
returns-in_err-push_witness-clause-err c =
    let worded = starts_behind _ c.in_ok-extend_from_slice.ensures.items in
    let named = starts_further _ c.extend_from_slice.new.self.items _ worded (starts_behind _ c.in_ok-push_number.ensures.ok) in
    let claused = starts_further _ c.push_number.new.out.items _ named (starts_behind _ c.in_ok-push_lits.ensures.ok) in
    stays_behind _ _ c.push_lits.new.out.items _ claused c.in_err-push_witness.ensures.err

pub returns-in_err-push-clause-err : goal.returns-in_err-push-clause-err
returns-in_err-push-clause-err c =
    let worded = starts_behind _ c.in_ok-extend_from_slice.ensures.items in
    let named = starts_further _ c.extend_from_slice.new.self.items _ worded (starts_behind _ c.in_ok-push_number.ensures.ok) in
    let claused = starts_further _ c.push_number.new.out.items _ named (starts_behind _ c.in_ok-push_lits.ensures.ok) in
    let witnessed = starts_further _ c.push_lits.new.out.items _ claused (starts_behind _ c.in_ok-push_witness.ensures.ok) in
    stays_behind _ _ c.push_witness.new.out.items _ witnessed (starts_same c.in_err-push.ensures.items)
