use Rattle.mono_graph.specs.declared.limit.Limit.TheVariants as limit
use Rattle.mono_paths.proofs.Decides.{light_decides, path_decides}
use Rattle.mono_trees.proofs.Decides.{decides}
use Rattle.mono_check.proofs.Found.{acyclic_decides, flow_decides}
use Rattle.mono_check.proofs.laws.what_is_found_decides_predicates.Goals as goal

pub returns : goal.returns
returns c = record {
  reach = path_decides;
  steps = λ g P u v most found. light_decides g P u v (limit.Steps most) found;
  distance = λ g P u v most found. light_decides g P u v (limit.Weight most) found;
  flow = flow_decides;
  tree = decides;
  acyclic = acyclic_decides;
}
