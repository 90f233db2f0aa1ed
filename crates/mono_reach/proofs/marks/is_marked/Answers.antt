use Rattle.std.proofs.Common.{ℕ, ◌<◌, ap, sym, subst, ◌∙◌, arith}
use Rattle.mono_dynamic.specs.Arrivals.{is_reached}
use Rattle.mono_dynamic.specs.Reached.{Reached}
use Rattle.mono_dynamic.specs.Rows.{no_row}
use Rattle.mono_theory.proofs.SureRowsStay.{row_held}
use Rattle.mono_reach.specs.Marks.{row_of_atom}
use Rattle.mono_reach.proofs.marks.is_marked.Goals as goal

pub row-row-requires-clause-place : goal.row-row-requires-clause-place
row-row-requires-clause-place c = (let len = c.requires.right.served.len in omega (arith, len, c.requires.place))

pub row-row-requires-clause-row : goal.row-row-requires-clause-row
row-row-requires-clause-row c = row_held c.args.place c.requires.place c.requires.right

pub has-requires : goal.has-requires
has-requires c =
    let h = c.requires.right in
    let nodes = (h.rows (row_of_atom c.args.rows.now c.args.place) no_row (row_held c.args.place c.requires.place h)).nodes in
    subst (λ (r : Reached). c.args.node < r.nodes) (sym (c.row-row.ensures no_row)) (subst (λ (m : ℕ). c.args.node < m) (sym nodes) c.requires.node)

pub returns : goal.returns
returns c = c.has.ensures.reached ∙ ap (λ (r : Reached). is_reached r.arrivals c.args.node) (c.row-row.ensures no_row)
