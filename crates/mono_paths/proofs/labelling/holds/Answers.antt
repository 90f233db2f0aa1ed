use Rattle.std.proofs.Common.{◌≡◌, ◌≤◌, ◌+ℤ◌, ℕ, pos, sym, ap, subst, ◌∙◌}
use Rattle.mono_graph.specs.Walks.{bound_of}
use Rattle.mono_paths.specs.declared.table.LabelTable.{LabelTable}
use Rattle.mono_paths.specs.Listed.{label_in}
use Rattle.mono_paths.proofs.Listed.{AreThese, is_bounded, listed_twice, calm_decides}
use Rattle.mono_paths.proofs.labelling.holds.Goals as goal

pub cap-table-requires : goal.cap-table-requires
cap-table-requires c = is_bounded c.args.limit c.requires.limit

pub returns-then-not-enter-clause-passes : goal.returns-then-not-enter-clause-passes
returns-then-not-enter-clause-passes c =
    listed_twice c.args.graph.now c.args.part.now c.args.from c.args.to c.args.limit c.args.labels.now (sym c.enter.ensures.distinct ∙ c.if-not-enter.true)

pub returns-clause-passes : goal.returns-clause-passes
returns-clause-passes c =
    let table : LabelTable = c.enter.new.self in
    let yes = c.if-not-enter.false in
    let others : pos table.others ≡ bound_of c.args.limit +ℤ pos 1 = ap pos c.enter.ensures.others ∙ c.cap-table.ensures.value in
    let these : AreThese c.args.labels.now c.args.limit table.listed.items table.values.items table.others = record {
      others_is = others;
      distinct = sym c.enter.ensures.distinct ∙ yes;
      marked = c.enter.ensures.all yes;
      each = λ u. c.enter.ensures.labels yes (bound_of c.args.limit) table.others u others;
    } in
    let end : table.others ≤ label_in table c.args.to = let no = c.if-label-table.false in let is = c.label-2.ensures in subst (λ (n : ℕ). table.others ≤ n) is no in
    c.is_calm_around.ensures
    ∙ calm_decides c.args.graph.now c.args.part.now c.args.from c.args.to c.args.limit c.args.labels.now table.listed.items table.values.items table.others these (sym c.label.ensures ∙ c.if-label-ne0.false) end
