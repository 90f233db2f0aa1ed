use Rattle.std.proofs.Common.{◌≡◌, ℕ, length}
use Rattle.std.specs.Prelude.{IsTrue}
use Rattle.mono_graph.specs.Digraph.{is_distinct}
use Rattle.mono_flows.specs.Listed.{edges_of}
use Rattle.mono_flows.specs.Residual.{amount_of}
use Rattle.mono_flows.proofs.KeptFlows.{AreCarried}
use Rattle.mono_flows.proofs.kept_flow.put_amounts.Given as goal

abbrev pub invariant-loop-amount : goal.invariant-loop-amount
invariant-loop-amount l = record {
  len : length l.carried.items ≡ length l.fn.carried.items;
  carried : IsTrue (is_distinct (edges_of l.amounts)) → ((k : ℕ) → amount_of l.fn.carried.items k ≡ 0) → AreCarried l.carried.items l.amounts l.amount-index;
}
