use Rattle.std.proofs.Common.{◌<◌, length, sym, ◌∙◌, arith}
use Rattle.std.proofs.lemmas.List.{length-set}
use Rattle.mono_dynamic.specs.Targets.{IsUndoneRow}
use Rattle.mono_dynamic.proofs.RowLists.{changed_none, changed_more, all_changed}
use Rattle.mono_dynamic.proofs.targets_by_source.undo_each.Goals as goal

pub loop-i-init : goal.loop-i-init
loop-i-init c = record { end = (let n = c.len-i-end.ensures in omega arith); changed = changed_none (IsUndoneRow c.args.kept) c.args.rows.now.items }

pub loop-i-preserved : goal.loop-i-preserved
loop-i-preserved c =
    let lt : c.loop-i.i < length c.loop-i.rows.items = (let end = c.loop-i.invariant.end in let more = c.loop-i-test.true in omega arith) in
    record {
      end = c.loop-i.invariant.end ∙ sym (length-set c.loop-i.rows.items c.loop-i.i c.undo_to.new.self);
      changed = changed_more {Is = IsUndoneRow c.args.kept} c.index_mut-row.result.now c.undo_to.new.self c.loop-i.invariant.changed lt c.index_mut-row.ensures.value
          (record { ways = c.undo_to.ensures.ways; targets = c.undo_to.ensures.targets; lacking = c.undo_to.ensures.lacking; told = c.undo_to.ensures.told });
    }

pub returns : goal.returns
returns c = all_changed (let end = c.loop-i.invariant.end in let all = c.loop-i-test.false in omega arith) c.loop-i.invariant.changed
