use Rattle.std.proofs.Common.{◌∙◌, ap, refl, List, [], ℕ}
use Rattle.mono_clauses.proofs.WatchLists.{chunk_as, chunk_close}
use Rattle.mono_clauses.proofs.ChunkStacks.{rest_is}
use Rattle.mono_clauses.specs.Stacks.{watchers_at}
use Rattle.mono_clauses.specs.Watching.{emptied, watched_of, WatchesView}
use Rattle.mono_clauses.proofs.watches.Watches.close.Goals as goal

pub invariant_of-self : goal.invariant_of-self
invariant_of-self c = (chunk_as _ (chunk_close c.self.inside.list c.self.invariant.0) (rest_is _ _ c.self-1.given.0 [] refl), c.self.invariant.1, c.self.invariant.2, c.self.invariant.3)

pub returns : goal.returns
returns c = ap (λ (xs : List ℕ). let v : WatchesView = record { vars = c.self.inside.vars; watched = watched_of c.self.inside.busy.items c.self.inside.lits.items; ahead = watchers_at c.self.inside.chunks.cells.items xs } in v) (rest_is _ _ c.self-1.given.0 [] refl) ∙ ap emptied c.self.view_is
