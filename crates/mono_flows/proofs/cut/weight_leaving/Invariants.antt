use Rattle.std.proofs.Common.{◌≡◌, ◌≤◌, ◌*◌, take}
use Rattle.std.specs.Prelude.{sum_by}
use Rattle.mono_base.specs.declared.limits.TheConstants.{MAX_WEIGHT}
use Rattle.mono_flows.specs.Cuts.{weight_out}
use Rattle.mono_flows.proofs.cut.weight_leaving.Given as goal

abbrev pub invariant-loop-place : goal.invariant-loop-place
invariant-loop-place l = record {
  exact : l.weight ≡ sum_by (weight_out l.network.graph.now l.network.part.now l.inside) (take l.place-index l.place-items);
  bound : l.weight ≤ l.place-index * MAX_WEIGHT;
}
