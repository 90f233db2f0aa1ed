use Rattle.std.proofs.Common.{◌≡◌, ◌<◌, length, sym, subst, ◌∙◌, arith}
use Rattle.std.proofs.lemmas.List.{length-set}
use Rattle.mono_dynamic.proofs.RowLists.{changed_none, changed_more, row_before, all_changed, some_changed, some_changed_set}
use Rattle.mono_dynamic.proofs.by_source.grow_each.Goals as goal

pub loop-i-init : goal.loop-i-init
loop-i-init g c = record { end = (let n = c.len-i-end.ensures in omega arith); changed = changed_none (g.R.SourceRow.grown c.args.graph.now c.args.part.now c.args.places.now c.args.looked) c.args.rows.now.items }

pub grow-requires-clause-fits : goal.grow-requires-clause-fits
grow-requires-clause-fits g c =
    let len : length c.loop-i.rows.items ≡ length c.args.rows.now.items = c.loop-i.invariant.changed.len in
    let lt : c.loop-i.i < length c.loop-i.rows.items = (let end = c.loop-i.invariant.end in let more = c.loop-i-test.true in omega arith) in
    subst (g.R.SourceRow.fits c.args.graph.now.nodes c.args.looked) (sym (row_before {Is = g.R.SourceRow.grown c.args.graph.now c.args.part.now c.args.places.now c.args.looked} c.index_mut-row.result.now c.loop-i.invariant.changed c.index_mut-row.ensures.value)) (c.requires.rows c.loop-i.i c.index_mut-row.result.now (omega (arith, lt, len)))

pub loop-i-preserved : goal.loop-i-preserved
loop-i-preserved g c =
    let lt : c.loop-i.i < length c.loop-i.rows.items = (let end = c.loop-i.invariant.end in let more = c.loop-i-test.true in omega arith) in
    record {
      end = c.loop-i.invariant.end ∙ sym (length-set c.loop-i.rows.items c.loop-i.i c.grow.new.self);
      changed = changed_more {Is = g.R.SourceRow.grown c.args.graph.now c.args.part.now c.args.places.now c.args.looked} c.index_mut-row.result.now c.grow.new.self c.loop-i.invariant.changed lt c.index_mut-row.ensures.value c.in_ok-grow.ensures.grown;
    }

pub returns-in_err-grow-clause-some : goal.returns-in_err-grow-clause-some
returns-in_err-grow-clause-some g c = some_changed_set {Is = g.R.SourceRow.grown c.args.graph.now c.args.part.now c.args.places.now c.args.looked} c.index_mut-row.result.now c.grow.new.self c.loop-i.invariant.changed c.index_mut-row.ensures.value c.in_err-grow.ensures.unchanged

pub returns-clause-grown : goal.returns-clause-grown
returns-clause-grown g c = all_changed (let end = c.loop-i.invariant.end in let all = c.loop-i-test.false in omega arith) c.loop-i.invariant.changed

pub returns-clause-some : goal.returns-clause-some
returns-clause-some g c = some_changed c.loop-i.invariant.changed
