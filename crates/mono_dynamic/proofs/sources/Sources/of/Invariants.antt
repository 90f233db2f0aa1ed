use Rattle.std.proofs.Common.{◌≡◌, ◌*◌, ◌≤◌, length}
use Rattle.std.specs.Prelude.{All}
use Rattle.mono_dynamic.specs.declared.cost_source.CostSource.{CostSource}
use Rattle.mono_dynamic.specs.LeastRows.{cost_slot, IsCostSource}
use Rattle.mono_dynamic.specs.Sources.{HaveRows, IsRowTable}
use Rattle.mono_dynamic.proofs.sources.Sources.of.Given as goal

abbrev pub invariant-loop-wanted : goal.invariant-loop-wanted
invariant-loop-wanted l = record {
  size : length l.table.items ≡ l.nodes * 3;
  table : IsRowTable cost_slot l.table.items l.rows.items;
  known : All (IsCostSource l.nodes) l.rows.items;
  few : length l.rows.items ≤ l.wanted-index;
  rows : HaveRows cost_slot (λ (s : CostSource). s.cap) l.asked l.wanted-index l.row_of.items l.rows.items;
}
