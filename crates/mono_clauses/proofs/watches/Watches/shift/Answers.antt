use Rattle.std.proofs.Common.{◌≡◌, ◌<◌, ◌+◌, ◌*◌, ◌%◌, ◌∙◌, ap, sym, refl, subst, List, ◌∷◌, ℕ, set, get_or, length, arith, Some}
use Rattle.std.specs.Prelude.{ℤ, Option}
use Rattle.std.proofs.lemmas.List.{get_or_read, length-set}
use Rattle.mono_base.specs.Literal.{slot}
use Rattle.mono_base.proofs.Sparse.{slot_bound}
use Rattle.mono_clauses.proofs.PlacesAhead.{Head, first_place, pool_room, some_within, chunk_shift_as, chunk_eq}
use Rattle.mono_clauses.proofs.WatchLists.{Facts, IsLoose, facts, chunk_as, loose_free, loose_removed, climbed_length, Shifted}
use Rattle.mono_clauses.proofs.ChunkPool.{top_within}
use Rattle.mono_clauses.proofs.ChunkStacks.{rest_is}
use Rattle.mono_clauses.proofs.Watched.{length_watched, busy_at, set_lit}
use Rattle.mono_clauses.specs.Lists.{first_of}
use Rattle.mono_clauses.specs.Stacks.{IsStack, IsChunked, Removed, Put, watcher_at, watchers_at}
use Rattle.mono_clauses.specs.Store.{watch_at}
use Rattle.mono_clauses.specs.Watching.{watched_of, WatchesView, Placed}
use Rattle.mono_clauses.proofs.watches.Watches.shift.Goals as goal
use Rattle.mono_clauses.proofs.watches.Watches.shift.Goals.{After-place_below-after, After-slot-slot}

head : (c : After-place_below-after) → Head c.self.inside.chunks.links.items c.self.inside.here c.self.inside.rest.places
head c = let some = rw (← c.self.view_is) at c.requires.some in first_place c.self.inside.chunks.links.items c.self.inside.chunks.cells.items c.self.inside.here c.self.inside.rest some

chunked : (c : After-place_below-after) → IsChunked c.self.inside.vars c.self.inside.chunks.links.items c.self.inside.chunks.cells.items c.self.inside.chunks.free.items c.self.inside.heads.items (watched_of c.self.inside.busy.items c.self.inside.lits.items) c.self.inside.list (c.self.inside.here ∷ (head c).rest)
chunked c = chunk_as (c.self.inside.here ∷ (head c).rest) c.self.invariant.0 (sym (head c).was)

known : (c : After-place_below-after) → Facts c.self.inside.vars c.self.inside.chunks.links.items c.self.inside.chunks.cells.items c.self.inside.chunks.free.items c.self.inside.heads.items (watched_of c.self.inside.busy.items c.self.inside.lits.items) c.self.inside.list (chunked c).lists c.self.inside.here (head c).rest
known c = facts c.self.inside.here (head c).rest (chunked c)

watcher : (c : After-place_below-after) → c.index-watcher.result.now ≡ watcher_at c.self.inside.chunks.cells.items c.self.inside.here
watcher c = get_or_read c.self.inside.chunks.cells.items c.self.inside.here c.index-watcher.result.now (known c).within c.index-watcher.ensures 0

within : (c : After-place_below-after) → watcher_at c.self.inside.chunks.cells.items c.self.inside.here < length (watched_of c.self.inside.busy.items c.self.inside.lits.items)
within c = some_within (watched_of c.self.inside.busy.items c.self.inside.lits.items) (watcher_at c.self.inside.chunks.cells.items c.self.inside.here) (known c).lit (known c).watching

pub index-watcher-requires : goal.index-watcher-requires
index-watcher-requires c =
    let some = rw (← c.self.view_is) at c.requires.some in
    omega (arith, (first_place c.self.inside.chunks.links.items c.self.inside.chunks.cells.items c.self.inside.here c.self.inside.rest some).place.within, c.self.invariant.0.size)

pub place_below-after-requires : goal.place_below-after-requires
place_below-after-requires c =
    let some = rw (← c.self.view_is) at c.requires.some in
    (first_place c.self.inside.chunks.links.items c.self.inside.chunks.cells.items c.self.inside.here c.self.inside.rest some).place.within

pub remove-requires-clause-place : goal.remove-requires-clause-place
remove-requires-clause-place c = (head (goal.at.remove-requires-clause-place c).After-place_below-after).place.within

pub remove-requires-clause-top : goal.remove-requires-clause-top
remove-requires-clause-top c = let k = known (goal.at.remove-requires-clause-top c).After-place_below-after in omega (arith, k.top, k.top_within)

pub remove-requires-clause-room : goal.remove-requires-clause-room
remove-requires-clause-room c = λ z.
    let at = (goal.at.remove-requires-clause-room c).After-place_below-after in
    let k = known at in
    let r = pool_room _ _ _ _ (chunked at).lists c.self.inside.list k.first.1.top k.first.1.tail (chunked at).pool k.split (ap (λ (y : ℕ). y % 8) (sym k.top) ∙ z) in
    omega (arith, r, c.self.invariant.1)

loose : (c : After-place_below-after) (cells free_chunks heads : List ℕ) → Removed c.self.inside.chunks.cells.items c.self.inside.chunks.links.items c.self.inside.chunks.free.items c.self.inside.heads.items c.self.inside.list c.self.inside.here cells free_chunks heads
    → IsLoose c.self.inside.vars c.self.inside.chunks.links.items cells free_chunks heads (watched_of c.self.inside.busy.items c.self.inside.lits.items) (watcher_at c.self.inside.chunks.cells.items c.self.inside.here) (set (chunked c).lists c.self.inside.list (known c).first.1.tail)
loose c cells free_chunks heads r = loose_removed c.self.inside.here (head c).rest cells free_chunks heads (chunked c) (known c) (within c) r

in_slots : (c : After-slot-slot) → c.slot-slot.result < 2 * c.self.inside.vars + 2
in_slots c = let in_range = rw (← c.self.view_is) at c.requires.in_range in omega (arith, slot_bound c.args.lit c.self.inside.vars in_range.1, c.slot-slot.ensures.value)

pub put-requires-clause-top : goal.put-requires-clause-top
put-requires-clause-top c = λ n.
    let l = loose (goal.at.put-requires-clause-top c).After-place_below-after c.remove.new.cells.items c.remove.new.free_chunks.items c.remove.new.heads.items c.remove.ensures.is in
    top_within c.self.inside.chunks.links.items (get_or c.remove.new.heads.items c.slot-slot.result 4294967295) _ (l.pool.stacks c.slot-slot.result (in_slots (goal.at.put-requires-clause-top c).After-slot-slot)) n

pub put-requires-clause-some : goal.put-requires-clause-some
put-requires-clause-some c = λ n. loose_free c.args.lit (loose (goal.at.put-requires-clause-some c).After-place_below-after c.remove.new.cells.items c.remove.new.free_chunks.items c.remove.new.heads.items c.remove.ensures.is)

pub put-requires-clause-free_chunks : goal.put-requires-clause-free_chunks
put-requires-clause-free_chunks c = (loose (goal.at.put-requires-clause-free_chunks c).After-place_below-after c.remove.new.cells.items c.remove.new.free_chunks.items c.remove.new.heads.items c.remove.ensures.is).pool.are_free

pub index_mut-requires : goal.index_mut-requires
index_mut-requires c = let at = (goal.at.index_mut-requires c).After-place_below-after in omega (arith, watcher at, within at, length_watched c.self.inside.busy.items c.self.inside.lits.items c.self.invariant.2)

-- the literal alone is written
written : (c : After-place_below-after) → watched_of c.self.inside.busy.items (set c.self.inside.lits.items c.index-watcher.result.now c.args.lit) ≡ set (watched_of c.self.inside.busy.items c.self.inside.lits.items) c.index-watcher.result.now (Some c.args.lit)
written c = set_lit c.self.inside.busy.items c.self.inside.lits.items c.index-watcher.result.now c.args.lit (busy_at c.self.inside.busy.items c.self.inside.lits.items c.index-watcher.result.now (known c).lit (ap (watch_at (watched_of c.self.inside.busy.items c.self.inside.lits.items)) (watcher c) ∙ (known c).watching))

-- after the watcher came onto its new stack
shifted : (c : After-place_below-after) (n : ℕ) (cells₁ free_chunks₁ heads₁ links' cells' free_chunks' heads' : List ℕ) → n ≡ slot c.args.lit → n < 2 * c.self.inside.vars + 2
    → Removed c.self.inside.chunks.cells.items c.self.inside.chunks.links.items c.self.inside.chunks.free.items c.self.inside.heads.items c.self.inside.list c.self.inside.here cells₁ free_chunks₁ heads₁
    → Put cells₁ c.self.inside.chunks.links.items free_chunks₁ heads₁ n c.index-watcher.result.now cells' links' free_chunks' heads'
    → Shifted c.self.inside.vars c.self.inside.chunks.links.items c.self.inside.chunks.cells.items c.self.inside.chunks.free.items c.self.inside.heads.items links' cells' free_chunks' heads' (set (watched_of c.self.inside.busy.items c.self.inside.lits.items) c.index-watcher.result.now (Some c.args.lit)) c.self.inside.list (head c).rest
shifted c n cells₁ free_chunks₁ heads₁ links' cells' free_chunks' heads' e lt r q =
    let another = rw (← c.self.view_is) at c.requires.another in
    let first : first_of (watchers_at c.self.inside.chunks.cells.items c.self.inside.rest.places) ≡ Some (watcher_at c.self.inside.chunks.cells.items c.self.inside.here) = ap (λ (xs : List ℕ). first_of (watchers_at c.self.inside.chunks.cells.items xs)) (head c).was in
    chunk_shift_as c.self.inside.here (head c).rest c.index-watcher.result.now (watcher c) n c.args.lit cells₁ free_chunks₁ heads₁ links' cells' free_chunks' heads' (chunked c) (known c) (within c) (another (watcher_at c.self.inside.chunks.cells.items c.self.inside.here) first) e lt r q

pub invariant_of-self-inside : goal.invariant_of-self-inside
invariant_of-self-inside c =
    let at = (goal.at.invariant_of-self-inside c).After-place_below-after in
    let s = shifted at c.slot-slot.result c.remove.new.cells.items c.remove.new.free_chunks.items c.remove.new.heads.items c.put.new.self.links.items c.put.new.self.cells.items c.put.new.self.free.items c.put.new.heads.items c.slot-slot.ensures.value (in_slots (goal.at.invariant_of-self-inside c).After-slot-slot) c.remove.ensures.is c.put.ensures.is in
    (record { places = (head at).rest; is = subst (λ (h : ℕ). IsStack c.put.new.self.links.items h (head at).rest) (sym c.place_below-after.ensures) (s.stack _ (head at).stack) }, tt)

pub invariant_of-self : goal.invariant_of-self
invariant_of-self c =
    let at = (goal.at.invariant_of-self c).After-place_below-after in
    let s = shifted at c.slot-slot.result c.remove.new.cells.items c.remove.new.free_chunks.items c.remove.new.heads.items c.put.new.self.links.items c.put.new.self.cells.items c.put.new.self.free.items c.put.new.heads.items c.slot-slot.ensures.value (in_slots (goal.at.invariant_of-self c).After-slot-slot) c.remove.ensures.is c.put.ensures.is in
    let stack : IsStack c.put.new.self.links.items c.place_below-after.result (head at).rest = subst (λ (h : ℕ). IsStack c.put.new.self.links.items h (head at).rest) (sym c.place_below-after.ensures) (s.stack _ (head at).stack) in
    let len = climbed_length _ _ _ _ _ _ c.put.ensures.is.climbed in
    (chunk_eq _ _ _ _ _ s.is refl refl refl (written at) (rest_is _ _ c.self-2-1.given.0 (head at).rest stack), omega (arith, len, c.put.ensures.capacity, c.remove.ensures.capacity, c.self.invariant.1), c.self.invariant.2 ∙ sym (length-set c.self.inside.lits.items c.index-watcher.result.now c.args.lit), omega (arith, len, c.self.invariant.3, length-set c.self.inside.lits.items c.index-watcher.result.now c.args.lit))

pub returns : goal.returns
returns c =
    let at = (goal.at.returns c).After-place_below-after in
    let s = shifted at c.slot-slot.result c.remove.new.cells.items c.remove.new.free_chunks.items c.remove.new.heads.items c.put.new.self.links.items c.put.new.self.cells.items c.put.new.self.free.items c.put.new.heads.items c.slot-slot.ensures.value (in_slots (goal.at.returns c).After-slot-slot) c.remove.ensures.is c.put.ensures.is in
    let stack : IsStack c.put.new.self.links.items c.place_below-after.result (head at).rest = subst (λ (h : ℕ). IsStack c.put.new.self.links.items h (head at).rest) (sym c.place_below-after.ensures) (s.stack _ (head at).stack) in
    let e : watchers_at c.put.new.self.cells.items c.self-2-1.given.0.places ≡ watchers_at c.self.inside.chunks.cells.items (head at).rest = ap (watchers_at c.put.new.self.cells.items) (rest_is _ _ c.self-2-1.given.0 (head at).rest stack) ∙ s.watchers in
    subst (λ (v : WatchesView). Placed v (record { vars = c.self.inside.vars; watched = watched_of c.self.inside.busy.items (set c.self.inside.lits.items c.index-watcher.result.now c.args.lit); ahead = watchers_at c.put.new.self.cells.items c.self-2-1.given.0.places }) c.args.lit) c.self.view_is (record {
      watcher = watcher_at c.self.inside.chunks.cells.items c.self.inside.here;
      rest = watchers_at c.self.inside.chunks.cells.items (head at).rest;
      was = ap (watchers_at c.self.inside.chunks.cells.items) (head at).was;
      now = ap (λ (ws : List (Option ℤ)). let v : WatchesView = record { vars = c.self.inside.vars; watched = ws; ahead = watchers_at c.put.new.self.cells.items c.self-2-1.given.0.places } in v) (written at)
          ∙ ap (λ (n : ℕ). let v : WatchesView = record { vars = c.self.inside.vars; watched = set (watched_of c.self.inside.busy.items c.self.inside.lits.items) n (Some c.args.lit); ahead = watchers_at c.put.new.self.cells.items c.self-2-1.given.0.places } in v) (watcher at)
          ∙ ap (λ (xs : List ℕ). let v : WatchesView = record { vars = c.self.inside.vars; watched = set (watched_of c.self.inside.busy.items c.self.inside.lits.items) (watcher_at c.self.inside.chunks.cells.items c.self.inside.here) (Some c.args.lit); ahead = xs } in v) e;
      within = within at;
      gone = (known at).gone;
    })
