use Rattle.std.proofs.Common.{◌≡◌, ◌≤◌, true, false, [], refl, arith, None, Some}
use Rattle.mono_graph.specs.Worked.{neither, parallel}
use Rattle.mono_dynamic.specs.Targets.{AreTold}
use Rattle.mono_dynamic.specs.Worked.{known_by, within_weight, without_way}
use Rattle.mono_dynamic.proofs.Rows.{tree_alone}
use Rattle.mono_dynamic.proofs.WaysRows.{priced_alone}
use Rattle.mono_search_rows.proofs.worked_ways.rows_whose_edges_come_back.Goals as goal

told : AreTold (parallel 1 4) (λ n. neither) 1 (record (known_by (without_way 4) (Some 1) None) { targets = [] })
told = record {
  tree = λ m le before. tree_alone (parallel 1 4) neither 0;
  priced = priced_alone 4;
  past = tt;
  early = omega arith;
  lacking = λ i d lt. absurd (omega (arith, lt));
}

pub returns-clause-not_forgotten : goal.returns-clause-not_forgotten
returns-clause-not_forgotten c = λ h. let e : 1 ≤ 0 = (h.told (parallel 1 4) (λ n. neither) 1 (omega arith) told).early in omega (arith, e)

pub returns-clause-newly_lacking : goal.returns-clause-newly_lacking
returns-clause-newly_lacking c = λ h. let e : false ≡ true = h.lacking (within_weight 3) refl in cc
