use Rattle.std.proofs.Common.{arith, length, get_or, take, ap, sym, ◌∙◌, ℤ, List}
use Rattle.std.proofs.lemmas.List.{take_more, length-take-le}
use Rattle.mono_problem.specs.Instance.{Instance, literals_total}
use Rattle.mono_problem.specs.Growth.{with_clause}
use Rattle.mono_portfolio.proofs.ExtendedLaws.{lits_upto, literals_of, size_of, within_limits, extended_more, extended_none}
use Rattle.mono_portfolio.specs.Extended.{extended as extended_by}
use Rattle.mono_portfolio.proofs.extending.extended.Goals as goal

pub loop-number-init : goal.loop-number-init
loop-number-init c = c.in_ok-draft.ensures ∙ sym (extended_none c.args.problem.now c.args.board.now)

pub add_clause-requires-clause-clause_room : goal.add_clause-requires-clause-clause_room
add_clause-requires-clause-clause_room c =
    let p = c.args.problem.now in
    let b = c.args.board.now in
    let ns = c.args.taken.now in
    let l = within_limits (extended_by p b ns) c.requires.fits in
    let some = length-take-le c.loop-number.number-index ns in
    omega (arith, l.0, some, c.loop-number-test.true, size_of p b ns, size_of p b (take c.loop-number.number-index ns), ap (λ (q : Instance). length q.clauses) c.loop-number.invariant)

pub add_clause-requires-clause-literal_room : goal.add_clause-requires-clause-literal_room
add_clause-requires-clause-literal_room c =
    let p = c.args.problem.now in
    let b = c.args.board.now in
    let ns = c.args.taken.now in
    let a = lits_upto p b ns c.loop-number.number-index c.loop-number-test.true in
    let l = within_limits (extended_by p b ns) c.requires.fits in
    omega (arith, a, l.1, literals_of p b ns, literals_of p b (take c.loop-number.number-index ns), ap literals_total c.loop-number.invariant, ap (λ (xs : List ℤ). length xs) c.clause_of.ensures)

pub loop-number-preserved : goal.loop-number-preserved
loop-number-preserved c =
    let p = c.args.problem.now in
    let b = c.args.board.now in
    let ns = c.args.taken.now in
    let n = get_or ns c.loop-number.number-index 0 in
    c.in_ok-add_clause.ensures.ok ∙ ap (λ (q : Instance). with_clause q c.clause_of.result.now) c.loop-number.invariant
    ∙ ap (with_clause (extended_by p b (take c.loop-number.number-index ns))) c.clause_of.ensures
    ∙ extended_more p b (take c.loop-number.number-index ns) n c.requires.justified (c.requires.held c.loop-number.number-index 0 c.loop-number-test.true)
    ∙ ap (extended_by p b) (sym (take_more ns c.loop-number.number-index 0 c.loop-number-test.true))
