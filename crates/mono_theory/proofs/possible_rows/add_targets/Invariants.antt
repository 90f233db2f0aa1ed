use Rattle.std.proofs.Common.{◌≡◌, ℕ, ◌<◌, length, get_or}
use Rattle.mono_dynamic.specs.Targets.{targets_at}
use Rattle.mono_dynamic.specs.Ways.{IsTarget}
use Rattle.mono_theory.specs.PossibleRows.{target_at, AreEach, IsFilledRow}
use Rattle.mono_theory.proofs.possible_rows.add_targets.Given as goal

abbrev pub invariant-loop-place : goal.invariant-loop-place
invariant-loop-place l = record {
  end : l.place-end ≡ length l.row_of;
  nodes : l.rows.nodes ≡ l.fn.rows.nodes;
  filled : AreEach IsFilledRow l.fn.rows.rows l.rows.rows;
  asked : (j : ℕ) → j < l.place → IsTarget (targets_at l.rows.rows (get_or l.row_of j 0)).targets (target_at l.targets j);
}
