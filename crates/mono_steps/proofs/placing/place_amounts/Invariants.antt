use Rattle.std.proofs.Common.{◌≡◌, ◌<◌, length, take}
use Rattle.std.specs.Prelude.{IsTrue, All, is_some}
use Rattle.std.specs.List.{list_all}
use Rattle.mono_graph.specs.Digraph.{place_of}
use Rattle.mono_steps.specs.Witnesses.{placed_amounts}
use Rattle.mono_steps.proofs.placing.place_amounts.Given as goal

abbrev pub invariant-loop-entry : goal.invariant-loop-entry
invariant-loop-entry l = record {
  known : IsTrue (list_all (λ m. is_some (place_of l.graph m.edge)) (take l.entry-index l.listed));
  amounts : l.amounts.items ≡ placed_amounts l.graph (take l.entry-index l.listed);
  held : All (λ m. m.edge < length l.graph.edges) l.amounts.items;
}
