use Rattle.std.proofs.Common.{sym, subst}
use Rattle.mono_theory.specs.Evidences.{IsEvidence}
use Rattle.mono_distance.proofs.DistanceEvidence.{walk_shows}
use Rattle.mono_distance.proofs.distance.walk_near.Goals as goal

pub returns-in_ok-walk_evidence-in-Some-clause-evidence : goal.returns-in_ok-walk_evidence-in-Some-clause-evidence
returns-in_ok-walk_evidence-in-Some-clause-evidence c =
    subst (IsEvidence c.args.graph.now c.args.part.now _) (sym c.in_ok-walk_evidence-in-Some.ensures)
    (walk_shows c.args.graph.now c.args.part.now c.args.asked.from c.args.asked.to c.args.asked.limit c.in-Some.places.items c.known.ensures.graph
    (rw c.in-Some.is at c.in_ok-places.ensures.known) (rw c.in-Some.is at c.in_ok-places.ensures.walk))
