use Rattle.mono_theory.specs.Theories.{cut_to}
use Rattle.mono_acyclic.proofs.OrderStays.{edges_rest}
use Rattle.mono_acyclic.proofs.ordered_edges.OrderedEdgesRowsAcyclic.settle.Goals as goal

pub returns-clause-rest : goal.returns-clause-rest
returns-clause-rest c = edges_rest {f = cut_to c.args.looked c.args.frame.now} {s = c.args.self.now} c.requires.covered c.requires.right
