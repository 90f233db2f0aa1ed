use Rattle.mono_distance.proofs.DistanceEvidence.{far_show}
use Rattle.mono_distance.proofs.distance.far_labels.Goals as goal

pub returns-clause-evidence : goal.returns-clause-evidence
returns-clause-evidence c =
    far_show c.args.graph.now c.args.part.now c.in_ok-wide.wide c.args.asked.from c.args.asked.to c.args.asked.limit c.in-Labels.others.items c.in_ok-far-in-Labels.far c.requires.limit
    (rw c.in-Labels.is at c.in_ok-find_light.ensures.known) (rw c.in-Labels.is at c.in_ok-find_light.ensures.passes) c.in_ok-wide.ensures.within c.in_ok-far-in-Labels.ensures.evidence
