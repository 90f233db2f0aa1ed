use Rattle.std.proofs.Common.{sym, subst}
use Rattle.mono_theory.specs.Evidences.{IsEvidence}
use Rattle.mono_distance.specs.Distances.{predicate_of}
use Rattle.mono_theory.proofs.Lighter.{lighter_shows}
use Rattle.mono_distance.proofs.DistanceEvidence.{labels_show}
use Rattle.mono_distance.proofs.distance.least_labels.Goals as goal

pub returns-then-as_slice-lt2-clause-evidence : goal.returns-then-as_slice-lt2-clause-evidence
returns-then-as_slice-lt2-clause-evidence c =
    labels_show c.args.graph.now c.args.part.now c.args.asked.from c.args.asked.to c.args.asked.limit c.args.labels.items c.in_ok-near.near c.requires.limit c.requires.labels c.requires.labelling c.in_ok-near.ensures.evidence

pub returns-clause-evidence : goal.returns-clause-evidence
returns-clause-evidence c =
    let shows = IsEvidence c.args.graph.now c.args.part.now (predicate_of c.args.asked.from c.args.asked.to c.args.asked.limit) in
    subst shows (sym c.or_lighter.ensures) (lighter_shows shows c.in_ok-near.near c.in_ok-far.far
    (labels_show c.args.graph.now c.args.part.now c.args.asked.from c.args.asked.to c.args.asked.limit c.args.labels.items c.in_ok-near.near c.requires.limit c.requires.labels c.requires.labelling c.in_ok-near.ensures.evidence)
    c.in_ok-far.ensures.evidence)
