use Rattle.std.proofs.Common.{◌<◌, length, sym, ◌∙◌, arith}
use Rattle.std.proofs.lemmas.List.{length-set}
use Rattle.mono_dynamic.specs.BySource.{IsBack}
use Rattle.mono_dynamic.proofs.RowLists.{changed_none, changed_more, all_changed}
use Rattle.mono_dynamic.proofs.by_source.undo_each.Goals as goal

pub loop-i-init : goal.loop-i-init
loop-i-init g c = record { end = (let n = c.len-i-end.ensures in omega arith); changed = changed_none (IsBack g.R.SourceRow.fits g.R.SourceRow.grown g.R.SourceRow.undone c.args.kept) c.args.rows.now.items }

pub loop-i-preserved : goal.loop-i-preserved
loop-i-preserved g c =
    let lt : c.loop-i.i < length c.loop-i.rows.items = (let end = c.loop-i.invariant.end in let more = c.loop-i-test.true in omega arith) in
    record {
      end = c.loop-i.invariant.end ∙ sym (length-set c.loop-i.rows.items c.loop-i.i c.undo_to.new.self);
      changed = changed_more c.index_mut-row.result.now c.undo_to.new.self c.loop-i.invariant.changed lt c.index_mut-row.ensures.value c.undo_to.ensures;
    }

pub returns : goal.returns
returns g c = all_changed (let end = c.loop-i.invariant.end in let all = c.loop-i-test.false in omega arith) c.loop-i.invariant.changed
