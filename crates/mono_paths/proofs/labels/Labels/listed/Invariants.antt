use Rattle.std.proofs.Common.{◌≡◌, map, take}
use Rattle.mono_paths.specs.Spread.{label_of}
use Rattle.mono_paths.proofs.labels.Labels.listed.Given as goal

abbrev pub invariant-loop-node : goal.invariant-loop-node
invariant-loop-node l = l.listed.items ≡ map (λ u. record { node = u; value = label_of l.self.each u }) (take l.node-index l.reached)
