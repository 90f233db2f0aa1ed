use Rattle.std.proofs.Common.{◌≡◌, ◌∙◌, ap, sym, get_or, arith, Some}
use Rattle.std.specs.Prelude.{pos}
use Rattle.std.proofs.lemmas.List.{get_or_read}
use Rattle.mono_clauses.proofs.Watched.{length_watched, lit_at_busy}
use Rattle.mono_clauses.specs.Store.{watch_at}
use Rattle.mono_clauses.specs.Watching.{WatchesView}
use Rattle.mono_clauses.proofs.watches.Watches.watch.Goals as goal

pub index-requires : goal.index-requires
index-requires c = let lt = rw (← c.self.view_is) at c.requires.in_range in omega (arith, lt, length_watched c.self.inside.busy.items c.self.inside.lits.items c.self.invariant.2)

pub returns : goal.returns
returns c =
    let lt = rw (← c.self.view_is) at c.requires.in_range in
    let busy = rw (← c.self.view_is) at c.requires.busy in
    let l : c.index.result.now ≡ get_or c.self.inside.lits.items c.args.watcher (pos 1) = get_or_read c.self.inside.lits.items c.args.watcher c.index.result.now (omega (arith, lt, length_watched c.self.inside.busy.items c.self.inside.lits.items c.self.invariant.2)) c.index.ensures (pos 1) in
    ap (λ (v : WatchesView). watch_at v.watched c.args.watcher) (sym c.self.view_is) ∙ lit_at_busy c.self.inside.busy.items c.self.inside.lits.items c.args.watcher (pos 1) busy ∙ ap Some (sym l)
