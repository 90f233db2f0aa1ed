use Rattle.std.proofs.Common.{◌≡◌, sym, subst}
use Rattle.std.proofs.lemmas.Result.{IfOk-weaker}
use Rattle.mono_theory.specs.Evidences.{IsEvidence}
use Rattle.mono_theory.specs.Walked.{walk_evidence}
use Rattle.mono_reach.proofs.WalksAndCuts.{walk_shows}
use Rattle.mono_reach.proofs.reach.ReachKind.evidence.Goals as goal

pub returns-in-Path-clause-evidence : goal.returns-in-Path-clause-evidence
returns-in-Path-clause-evidence c =
    let g = c.args.graph.now in
    let P = c.args.part.now in
    let ks = c.in-Path.places.items in
    rw c.in-Reach.is
    (IfOk-weaker c.walk_evidence.result (λ e. e ≡ walk_evidence g ks) _
    (λ e is. subst (IsEvidence g P _) (sym is)
    (walk_shows g P c.in-Reach.from c.in-Reach.to ks c.known.ensures.graph (rw c.in-Path.is at c.in_ok-places.ensures.known) (rw c.in-Path.is at c.in_ok-places.ensures.passes))) c.walk_evidence.ensures)

pub least_cut-requires-clause-nodes : goal.least_cut-requires-clause-nodes
least_cut-requires-clause-nodes c = rw c.in-Cut.is at c.in_ok-places.ensures.known

pub least_cut-requires-clause-cut : goal.least_cut-requires-clause-cut
least_cut-requires-clause-cut c = rw c.in-Cut.is at c.in_ok-places.ensures.passes

pub returns-in-Cut-clause-evidence : goal.returns-in-Cut-clause-evidence
returns-in-Cut-clause-evidence c = rw c.in-Reach.is c.least_cut.ensures.evidence
