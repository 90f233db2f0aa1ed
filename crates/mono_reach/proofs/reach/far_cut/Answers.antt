use Rattle.mono_reach.proofs.WalksAndCuts.{far_shows}
use Rattle.mono_reach.proofs.reach.far_cut.Goals as goal

pub returns-clause-evidence : goal.returns-clause-evidence
returns-clause-evidence c =
    far_shows c.args.graph.now c.args.part.now c.in_ok-wide.wide c.args.from c.args.to c.in-Cut.others.items c.in_ok-far-in-Cut.far (rw c.in-Cut.is at c.in_ok-find_path.ensures.known) (rw c.in-Cut.is at c.in_ok-find_path.ensures.passes)
    c.in_ok-wide.ensures.within c.in_ok-far-in-Cut.ensures.evidence
