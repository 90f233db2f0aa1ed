use Rattle.std.proofs.Common.{Some, refl}
use Rattle.mono_check.proofs.PartsByGraph.{exchanged}
use Rattle.mono_check.proofs.parts.EnabledParts.put.Goals as goal

pub returns : goal.returns
returns c = λ p a enabled are. exchanged p a c.args.self.now.parts.items c.args.part.graph (Some c.args.part) are c.requires (record { graph = refl; enabled = enabled })
