use Rattle.std.proofs.Common.{refl}
use Rattle.mono_base.specs.Literal.{value_in}
use Rattle.mono_check.proofs.WrongAtoms.{holds_atom}
use Rattle.mono_check.proofs.PartsByGraph.{fits_there, stays_enabled}
use Rattle.mono_check.proofs.parts.EnabledParts.truth.Goals as goal

pub holds-requires-clause-fits : goal.holds-requires-clause-fits
holds-requires-clause-fits c =
    fits_there c.args.problem.now (value_in c.args.model.now) c.args.atom.graph c.graph.result.now c.in_ok-part.part c.in_ok-part.ensures.part c.graph.ensures

pub returns-clause-holds : goal.returns-clause-holds
returns-clause-holds c =
    let at = c.in_ok-part.ensures.part in
    holds_atom c.args.problem.now (value_in c.args.model.now) c.in_ok-part.part c.graph.result.now c.args.atom c.args.atom c.in_ok-holds.holds
    at.enabled at.graph c.graph.ensures refl c.in_ok-holds.ensures.holds

pub returns-clause-parts : goal.returns-clause-parts
returns-clause-parts c =
    let p = c.args.problem.now in
    let a = value_in c.args.model.now in
    c.put.ensures p a
    (stays_enabled p a c.args.atom.graph c.graph.result.now c.in_ok-part.part c.holds.new.self c.in_ok-part.ensures.part c.graph.ensures c.holds.ensures.graph c.holds.ensures.part c.holds.ensures.fits)
    c.take.ensures.parts
