use Rattle.std.proofs.Common.{◌≡◌, ◌<◌, ◌∙◌, ap, sym, get_or, length, arith, Some, None, Bool, true, false, cond}
use Rattle.std.specs.Prelude.{pos}
use Rattle.std.proofs.lemmas.List.{get_or_read}
use Rattle.mono_clauses.proofs.Watched.{length_watched, at_watched}
use Rattle.mono_clauses.specs.Store.{watch_at}
use Rattle.mono_clauses.specs.Watching.{WatchesView}
use Rattle.mono_clauses.proofs.watches.Watches.watch_of.Goals as goal

pub index-requires : goal.index-requires
index-requires c = let lt = rw (← c.self.view_is) at c.requires in omega (arith, lt, length_watched c.self.inside.busy.items c.self.inside.lits.items c.self.invariant.2, c.self.invariant.2)

pub index-requires-then-index : goal.index-requires-then-index
index-requires-then-index c = let lt = rw (← c.self.view_is) at c.requires in omega (arith, lt, length_watched c.self.inside.busy.items c.self.inside.lits.items c.self.invariant.2)

pub returns-then-index : goal.returns-then-index
returns-then-index c =
    let lt = rw (← c.self.view_is) at c.requires in
    let few : c.args.watcher < length c.self.inside.lits.items = omega (arith, lt, length_watched c.self.inside.busy.items c.self.inside.lits.items c.self.invariant.2) in
    let b : get_or c.self.inside.busy.items c.args.watcher false ≡ true = sym (get_or_read c.self.inside.busy.items c.args.watcher c.index.result.now (omega (arith, few, c.self.invariant.2)) c.index.ensures false) ∙ c.if-index.true in
    let l : c.index-then-index.result.now ≡ get_or c.self.inside.lits.items c.args.watcher (pos 1) = get_or_read c.self.inside.lits.items c.args.watcher c.index-then-index.result.now few c.index-then-index.ensures (pos 1) in
    ap Some l ∙ sym (ap (λ (v : WatchesView). watch_at v.watched c.args.watcher) (sym c.self.view_is) ∙ at_watched c.self.inside.busy.items c.self.inside.lits.items c.args.watcher (pos 1) c.self.invariant.2 few
    ∙ ap (λ (q : Bool). cond q (Some (get_or c.self.inside.lits.items c.args.watcher (pos 1))) None) b)

pub returns-else-index : goal.returns-else-index
returns-else-index c =
    let lt = rw (← c.self.view_is) at c.requires in
    let few : c.args.watcher < length c.self.inside.lits.items = omega (arith, lt, length_watched c.self.inside.busy.items c.self.inside.lits.items c.self.invariant.2) in
    let b : get_or c.self.inside.busy.items c.args.watcher false ≡ false = sym (get_or_read c.self.inside.busy.items c.args.watcher c.index.result.now (omega (arith, few, c.self.invariant.2)) c.index.ensures false) ∙ c.if-index.false in
    sym (ap (λ (v : WatchesView). watch_at v.watched c.args.watcher) (sym c.self.view_is) ∙ at_watched c.self.inside.busy.items c.self.inside.lits.items c.args.watcher (pos 1) c.self.invariant.2 few
    ∙ ap (λ (q : Bool). cond q (Some (get_or c.self.inside.lits.items c.args.watcher (pos 1))) None) b)
