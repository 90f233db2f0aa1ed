use Rattle.std.proofs.Common.{length}
use Rattle.std.proofs.lemmas.Option.{IfSome_then}
use Rattle.mono_distance.proofs.distance.DistanceKind.mend.Goals as goal

pub walk_near-requires-clause-edges : goal.walk_near-requires-clause-edges
walk_near-requires-clause-edges c = c.in-Some.ensures (length c.args.graph.now.edges) (IfSome_then c.args.kept c.requires.kept (λ e sound. sound.held))

pub returns-in-Some-clause-evidence : goal.returns-in-Some-clause-evidence
returns-in-Some-clause-evidence c = rw c.what_is_asked-asked.ensures c.walk_near.ensures.evidence
