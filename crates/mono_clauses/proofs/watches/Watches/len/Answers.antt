use Rattle.std.proofs.Common.{◌≡◌, ◌∙◌, ap, length, arith}
use Rattle.mono_clauses.proofs.Watched.{length_watched}
use Rattle.mono_clauses.specs.Watching.{watched_of, WatchesView}
use Rattle.mono_clauses.proofs.watches.Watches.len.Goals as goal

pub returns : goal.returns
returns c = (let q : c.len.result ≡ length (watched_of c.self.inside.busy.items c.self.inside.lits.items) = omega (arith, length_watched c.self.inside.busy.items c.self.inside.lits.items c.self.invariant.2) in q) ∙ ap (λ (v : WatchesView). length v.watched) c.self.view_is
