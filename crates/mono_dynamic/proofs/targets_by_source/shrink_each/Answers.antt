use Rattle.std.proofs.Common.{◌≡◌, ◌<◌, length, sym, subst, ◌∙◌, arith}
use Rattle.std.proofs.lemmas.List.{length-set, get_or_read}
use Rattle.mono_dynamic.specs.Targets.{Targets, no_targets, IsShrunkRow}
use Rattle.mono_dynamic.proofs.RowLists.{changed_none, changed_more, row_before, all_changed}
use Rattle.mono_dynamic.proofs.targets_by_source.shrink_each.Goals as goal

pub loop-i-init : goal.loop-i-init
loop-i-init c = record { end = (let n = c.len-i-end.ensures in omega arith); changed = changed_none (IsShrunkRow c.args.graph.now c.args.places.now c.args.number) c.args.rows.now.items }

pub shrink-requires-clause-size : goal.shrink-requires-clause-size
shrink-requires-clause-size c =
    let len : length c.loop-i.rows.items ≡ length c.args.rows.now.items = c.loop-i.invariant.changed.len in
    let lt : c.loop-i.i < length c.loop-i.rows.items = (let end = c.loop-i.invariant.end in let more = c.loop-i-test.true in omega arith) in
    let low : c.loop-i.i < length c.args.rows.now.items = omega (arith, lt, len) in
    subst (λ (r : Targets). r.ways.tree.nodes ≡ c.args.graph.now.nodes)
    (sym (get_or_read c.args.rows.now.items c.loop-i.i c.index_mut-row.result.now low (row_before {Is = IsShrunkRow c.args.graph.now c.args.places.now c.args.number} c.index_mut-row.result.now c.loop-i.invariant.changed c.index_mut-row.ensures.value) no_targets))
    (c.requires.size c.loop-i.i low)

pub loop-i-preserved : goal.loop-i-preserved
loop-i-preserved c =
    let lt : c.loop-i.i < length c.loop-i.rows.items = (let end = c.loop-i.invariant.end in let more = c.loop-i-test.true in omega arith) in
    record {
      end = c.loop-i.invariant.end ∙ sym (length-set c.loop-i.rows.items c.loop-i.i c.shrink.new.self);
      changed = changed_more {Is = IsShrunkRow c.args.graph.now c.args.places.now c.args.number} c.index_mut-row.result.now c.shrink.new.self c.loop-i.invariant.changed lt c.index_mut-row.ensures.value
          (record { same = c.shrink.ensures.same; told = c.shrink.ensures.told });
    }

pub returns : goal.returns
returns c = all_changed (let end = c.loop-i.invariant.end in let all = c.loop-i-test.false in omega arith) c.loop-i.invariant.changed
