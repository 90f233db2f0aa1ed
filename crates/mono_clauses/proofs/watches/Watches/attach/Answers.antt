use Rattle.std.proofs.Common.{◌∙◌, ap, sym, refl, List, [], ℕ, set, get_or, arith, Some, true}
use Rattle.std.specs.Prelude.{ℤ, Option}
use Rattle.std.proofs.lemmas.List.{length-set}
use Rattle.mono_base.proofs.Sparse.{slot_bound}
use Rattle.mono_clauses.proofs.PlacesAhead.{chunk_eq}
use Rattle.mono_clauses.proofs.WatchLists.{loose_idle, loose_joins, loose_free, climbed_length}
use Rattle.mono_clauses.proofs.ChunkPool.{top_within}
use Rattle.mono_clauses.proofs.ChunkStacks.{rest_is}
use Rattle.mono_clauses.proofs.Watched.{length_watched, set_both}
use Rattle.mono_clauses.specs.Lists.{list_at}
use Rattle.mono_clauses.specs.Stacks.{watchers_at}
use Rattle.mono_clauses.specs.Watching.{watched_of, WatchesView, attached}
use Rattle.mono_clauses.proofs.watches.Watches.attach.Goals as goal

pub put-requires-clause-top : goal.put-requires-clause-top
put-requires-clause-top c = λ n.
    let in_range = rw (← c.self.view_is) at c.requires.in_range in
    top_within c.self.inside.chunks.links.items (get_or c.self.inside.heads.items c.slot-slot.result 4294967295) (list_at c.self.invariant.0.lists c.slot-slot.result) (c.self.invariant.0.pool.stacks c.slot-slot.result (omega (arith, slot_bound c.args.lit c.self.inside.vars in_range.1, c.slot-slot.ensures.value))) n

pub put-requires-clause-some : goal.put-requires-clause-some
put-requires-clause-some c = λ n.
    let idle = rw (← c.self.view_is) at c.requires.idle in
    let is_watcher = rw (← c.self.view_is) at c.requires.is_watcher in
    loose_free c.args.lit (loose_idle c.args.watcher c.self.invariant.0 idle is_watcher)

pub invariant_of-self : goal.invariant_of-self
invariant_of-self c =
    let in_range = rw (← c.self.view_is) at c.requires.in_range in
    let idle = rw (← c.self.view_is) at c.requires.idle in
    let is_watcher = rw (← c.self.view_is) at c.requires.is_watcher in
    let loose = loose_idle c.args.watcher c.self.invariant.0 idle is_watcher in
    let joined = loose_joins c.slot-slot.result c.args.lit c.put.new.self.links.items c.put.new.self.cells.items c.put.new.self.free.items c.put.new.heads.items c.self.inside.list [] loose c.slot-slot.ensures.value (omega (arith, slot_bound c.args.lit c.self.inside.vars in_range.1, c.slot-slot.ensures.value)) c.put.ensures.is (λ z. absurd (omega (arith, z))) in
    let len = climbed_length _ _ _ _ _ _ c.put.ensures.is.climbed in
    (chunk_eq _ _ _ _ _ joined refl refl refl (set_both c.self.inside.busy.items c.self.inside.lits.items c.args.watcher c.args.lit) (rest_is _ _ c.self-3-1.given.0 [] refl), omega (arith, len, c.put.ensures.capacity, c.self.invariant.1), length-set c.self.inside.busy.items c.args.watcher true ∙ c.self.invariant.2 ∙ sym (length-set c.self.inside.lits.items c.args.watcher c.args.lit), omega (arith, len, c.self.invariant.3, length-set c.self.inside.lits.items c.args.watcher c.args.lit))

pub returns : goal.returns
returns c =
    let empty = rw (← c.self.view_is) at c.requires.empty in
    ap (λ (ws : List (Option ℤ)). let v : WatchesView = record { vars = c.self.inside.vars; watched = ws; ahead = watchers_at c.put.new.self.cells.items c.self-3-1.given.0.places } in v) (set_both c.self.inside.busy.items c.self.inside.lits.items c.args.watcher c.args.lit)
    ∙ ap (λ (xs : List ℕ). let v : WatchesView = record { vars = c.self.inside.vars; watched = set (watched_of c.self.inside.busy.items c.self.inside.lits.items) c.args.watcher (Some c.args.lit); ahead = watchers_at c.put.new.self.cells.items xs } in v) (rest_is _ _ c.self-3-1.given.0 [] refl)
    ∙ ap (λ (xs : List ℕ). let v : WatchesView = record { vars = c.self.inside.vars; watched = set (watched_of c.self.inside.busy.items c.self.inside.lits.items) c.args.watcher (Some c.args.lit); ahead = xs } in v) (sym empty)
    ∙ ap (λ (v : WatchesView). attached v c.args.watcher c.args.lit) c.self.view_is

pub index_mut-requires : goal.index_mut-requires
index_mut-requires c = let is_watcher = rw (← c.self.view_is) at c.requires.is_watcher in omega (arith, is_watcher, length_watched c.self.inside.busy.items c.self.inside.lits.items c.self.invariant.2, c.self.invariant.2)

pub index_mut-requires-2 : goal.index_mut-requires-2
index_mut-requires-2 c = let is_watcher = rw (← c.self.view_is) at c.requires.is_watcher in omega (arith, is_watcher, length_watched c.self.inside.busy.items c.self.inside.lits.items c.self.invariant.2)
