use Rattle.std.proofs.Common.{sym, subst}
use Rattle.mono_problem.specs.declared.atom.Predicate.TheVariants as predicate
use Rattle.mono_theory.specs.Evidences.{IsEvidence}
use Rattle.mono_theory.proofs.Lighter.{lighter_shows}
use Rattle.mono_reach.proofs.WalksAndCuts.{near_shows}
use Rattle.mono_reach.proofs.reach.least_cut.Goals as goal

pub returns-then-as_slice-lt2-clause-evidence : goal.returns-then-as_slice-lt2-clause-evidence
returns-then-as_slice-lt2-clause-evidence c =
    near_shows c.args.graph.now c.args.part.now c.args.from c.args.to c.args.nodes.items c.in_ok-near.near c.requires.nodes c.requires.cut c.in_ok-near.ensures.evidence

pub returns-clause-evidence : goal.returns-clause-evidence
returns-clause-evidence c =
    let shows = IsEvidence c.args.graph.now c.args.part.now (predicate.Reach c.args.from c.args.to) in
    subst shows (sym c.or_lighter.ensures) (lighter_shows shows c.in_ok-near.near c.in_ok-far.far
    (near_shows c.args.graph.now c.args.part.now c.args.from c.args.to c.args.nodes.items c.in_ok-near.near c.requires.nodes c.requires.cut c.in_ok-near.ensures.evidence)
    c.in_ok-far.ensures.evidence)
