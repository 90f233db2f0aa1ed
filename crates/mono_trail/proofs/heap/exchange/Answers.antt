use Rattle.std.proofs.Common.{◌∙◌, ap}
use Rattle.mono_base.specs.Ranking.{RankingView}
use Rattle.mono_trail.specs.Heap.{waits_of}
use Rattle.mono_trail.proofs.Heaps.{waits_after_exchange}
use Rattle.mono_trail.proofs.heap.exchange.Goals as goal

pub returns-clause-waits : goal.returns-clause-waits
returns-clause-waits c = λ n same. ap (λ (r : RankingView). waits_of n r.places) c.exchange.ensures.value ∙ waits_after_exchange c.args.ranking.now.items c.args.ranking.now.places c.args.first c.args.second n c.requires.inverse c.requires.first c.requires.second same
