use Rattle.std.proofs.Common.{◌≡◌, ℕ, ◌<◌, length, true}
use Rattle.mono_dynamic.specs.Targets.{targets_at, is_settled}
use Rattle.mono_theory.specs.PossibleRows.{AreBroughtUp, AreEach, IsRenewedRow}
use Rattle.mono_theory.proofs.possible_rows.settle_rows.Given as goal

abbrev pub invariant-loop-row : goal.invariant-loop-row
invariant-loop-row l = record {
  end : l.row-end ≡ length l.fn.rows.rows;
  renewed : AreBroughtUp (AreEach (IsRenewedRow l.graph l.part l.number)) l.atoms.keys l.fn.rows l.rows l.fn.due.listed l.due.listed;
  settled : (j : ℕ) → j < l.row → is_settled (targets_at l.rows.rows j) ≡ true;
}
