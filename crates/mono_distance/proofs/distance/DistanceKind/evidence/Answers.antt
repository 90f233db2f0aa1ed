use Rattle.std.proofs.Common.{◌≡◌, sym, subst}
use Rattle.std.proofs.lemmas.Result.{IfOk-weaker}
use Rattle.mono_theory.specs.Evidences.{IsEvidence}
use Rattle.mono_theory.specs.Walked.{walk_evidence}
use Rattle.mono_distance.proofs.DistanceEvidence.{walk_shows}
use Rattle.mono_distance.proofs.distance.DistanceKind.evidence.Goals as goal

pub returns-in-Path-clause-evidence : goal.returns-in-Path-clause-evidence
returns-in-Path-clause-evidence c =
    let g = c.args.graph.now in
    let P = c.args.part.now in
    let a = c.what_is_asked-asked.result in
    let ks = c.in-Path.places.items in
    rw c.what_is_asked-asked.ensures
    (IfOk-weaker c.walk_evidence.result (λ e. e ≡ walk_evidence g ks) _
    (λ e is. subst (IsEvidence g P _) (sym is)
    (walk_shows g P a.from a.to a.limit ks c.known.ensures.graph (rw c.in-Path.is at c.in_ok-places.ensures.known) (rw c.in-Path.is at c.in_ok-places.ensures.passes))) c.walk_evidence.ensures)

pub least_labels-requires-clause-labels : goal.least_labels-requires-clause-labels
least_labels-requires-clause-labels c = rw c.in-Labels.is at c.in_ok-places.ensures.known

pub least_labels-requires-clause-labelling : goal.least_labels-requires-clause-labelling
least_labels-requires-clause-labelling c = rw c.in-Labels.is at c.in_ok-places.ensures.passes

pub returns-in-Labels-clause-evidence : goal.returns-in-Labels-clause-evidence
returns-in-Labels-clause-evidence c = rw c.what_is_asked-asked.ensures c.least_labels.ensures.evidence
