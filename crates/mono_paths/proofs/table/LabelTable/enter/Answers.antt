use Rattle.std.proofs.Common.{◌≡◌, ◌<◌, false, get_or, length, sym, ◌∙◌, refl, arith}
use Rattle.std.proofs.lemmas.List.{get_or_read}
use Rattle.mono_graph.specs.declared.label.Label.{Label}
use Rattle.mono_paths.proofs.Listed.{no_label, entered_more, node_again, marked_listed}
use Rattle.mono_paths.proofs.table.LabelTable.enter.Goals as goal

pub returns-then-index-clause-marked : goal.returns-then-index-clause-marked
returns-then-index-clause-marked c = λ u here. marked_listed c.args.labels.now c.loop-label.label-index u (sym (c.loop-label.invariant.entered.marked u) ∙ here)

pub returns-then-index-clause-distinct : goal.returns-then-index-clause-distinct
returns-then-index-clause-distinct c =
    let l : Label = get_or c.args.labels.now c.loop-label.label-index no_label in
    let known : l.node < length c.args.self.now.listed.items = (let in_range = c.requires.within c.loop-label.label-index no_label c.loop-label-test.true in omega arith) in
    let old : c.index.result.now ≡ get_or c.loop-label.self.listed.items l.node false = get_or_read c.loop-label.self.listed.items l.node c.index.result.now (let len = c.loop-label.invariant.entered.listed_len in omega arith) c.index.ensures false in
    sym (node_again (length c.args.self.now.listed.items) c.loop-label.self.listed.items c.loop-label.self.values.items c.args.labels.now c.loop-label.label-index l c.loop-label-test.true refl c.loop-label.invariant.entered (sym old ∙ c.if-index.true))

pub loop-label-preserved : goal.loop-label-preserved
loop-label-preserved c =
    let l : Label = get_or c.args.labels.now c.loop-label.label-index no_label in
    let known : l.node < length c.args.self.now.listed.items = (let in_range = c.requires.within c.loop-label.label-index no_label c.loop-label-test.true in omega arith) in
    let old : c.index.result.now ≡ get_or c.loop-label.self.listed.items l.node false = get_or_read c.loop-label.self.listed.items l.node c.index.result.now (let len = c.loop-label.invariant.entered.listed_len in omega arith) c.index.ensures false in
    record { others = c.loop-label.invariant.others; entered = entered_more (length c.args.self.now.listed.items) c.loop-label.self.listed.items c.loop-label.self.values.items c.args.labels.now c.loop-label.label-index l c.loop-label-test.true refl known (sym old ∙ c.if-index.false) c.loop-label.invariant.entered }
