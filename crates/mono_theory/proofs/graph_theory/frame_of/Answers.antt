use Rattle.std.proofs.Common.{◌≤◌, length}
use Rattle.mono_theory.proofs.AtomsByNumber.{atoms_known, atoms_few}
use Rattle.mono_theory.proofs.graph_theory.frame_of.Goals as goal

pub new-requires-clause-known : goal.new-requires-clause-known
new-requires-clause-known g c =
    rw (c.in_ok-own.ensures, c.graph.ensures, c.in_ok-held.ensures) (atoms_known g.K.Kind.covers c.args.problem.now c.args.graph c.args.numbers.now c.known.ensures.problem c.requires.atoms)

pub new-requires-clause-few : goal.new-requires-clause-few
new-requires-clause-few g c =
    let few : length c.in_ok-held.held.items ≤ 100000 = rw c.in_ok-held.ensures (atoms_few g.K.Kind.covers c.args.problem.now c.args.graph c.args.numbers.now c.known.ensures.problem c.requires.atoms) in
    few
