use Rattle.std.proofs.Common.{◌∙◌, ap}
use Rattle.mono_gnf.specs.Faults.{first_fault}
use Rattle.mono_gen.proofs.NoFault.{no_fault}
use Rattle.mono_gen.proofs.input.generate.Goals as goal

pub returns-clause-no_fault : goal.returns-clause-no_fault
returns-clause-no_fault c = ap first_fault c.in_ok-text.ensures ∙ no_fault c.args.kind c.args.size c.args.seed c.requires.low c.requires.high
