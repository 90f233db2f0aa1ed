use Rattle.std.proofs.Common.{◌≡◌, ℕ, ◌+◌, ◌≤◌, List, length, sym, subst, ◌∙◌, arith}
use Rattle.std.proofs.lemmas.List.{get_or_default}
use Rattle.mono_dynamic.specs.declared.cost_source.CostSource.{CostSource}
use Rattle.mono_dynamic.specs.LeastRows.{cost_slot}
use Rattle.mono_dynamic.specs.Sources.{HaveRows}
use Rattle.mono_dynamic.proofs.RowTables.{have_more}
use Rattle.mono_dynamic.proofs.sources.Sources.of.Goals as goal

pub loop-wanted-preserved : goal.loop-wanted-preserved
loop-wanted-preserved c =
    let inv = c.loop-wanted.invariant in
    let row = c.in_ok-row.ensures in
    record {
      size = row.size ∙ inv.size;
      table = row.table;
      known = row.known;
      few = (let a = inv.few in let b = row.few in omega (arith, a, b));
      rows =
          subst (λ (is : List ℕ). HaveRows cost_slot (λ (s : CostSource). s.cap) c.args.asked.now (c.loop-wanted.wanted-index + 1) is c.row_for.new.rows.items) (sym c.in_ok-push.ensures.items)
          (have_more {slot = cost_slot} {amount = λ (s : CostSource). s.cap} _ c.in_ok-row.row c.loop-wanted-test.true (get_or_default c.args.asked.now c.loop-wanted.wanted-index _ _ c.loop-wanted-test.true) row.more row.served inv.rows);
    }

pub returns-clause-rows : goal.returns-clause-rows
returns-clause-rows c =
    let low : c.loop-wanted.wanted-index ≤ length c.args.asked.now = c.loop-wanted.auto.wanted-index-end in
    let all : c.loop-wanted.wanted-index ≡ length c.args.asked.now = (let past = c.loop-wanted-test.false in omega (arith, low, past)) in
    subst (λ (n : ℕ). HaveRows cost_slot (λ (s : CostSource). s.cap) c.args.asked.now n c.loop-wanted.row_of.items c.loop-wanted.rows.items) all c.loop-wanted.invariant.rows
