use Rattle.std.proofs.Common.{◌≡◌, ◌∙◌, ap, sym, subst, List, ◌∷◌, ℕ}
use Rattle.mono_clauses.proofs.PlacesAhead.{Head, first_place}
use Rattle.mono_clauses.proofs.WatchLists.{chunk_as, chunk_keep}
use Rattle.mono_clauses.proofs.ChunkStacks.{rest_is}
use Rattle.mono_clauses.specs.Stacks.{IsStack, watcher_at, watchers_at}
use Rattle.mono_clauses.specs.Watching.{watched_of, WatchesView}
use Rattle.mono_clauses.proofs.watches.Watches.keep.Goals as goal
use Rattle.mono_clauses.proofs.watches.Watches.keep.Goals.{After-place_below-self-inside}

head : (c : After-place_below-self-inside) → Head c.self.inside.chunks.links.items c.self.inside.here c.self.inside.rest.places
head c = let some = rw (← c.self.view_is) at c.requires in first_place c.self.inside.chunks.links.items c.self.inside.chunks.cells.items c.self.inside.here c.self.inside.rest some

stack : (c : After-place_below-self-inside) → IsStack c.self.inside.chunks.links.items c.place_below-self-inside.result (head c).rest
stack c = subst (λ (h : ℕ). IsStack c.self.inside.chunks.links.items h (head c).rest) (sym c.place_below-self-inside.ensures) (head c).stack

pub place_below-self-inside-requires : goal.place_below-self-inside-requires
place_below-self-inside-requires c =
    let some = rw (← c.self.view_is) at c.requires in
    (first_place c.self.inside.chunks.links.items c.self.inside.chunks.cells.items c.self.inside.here c.self.inside.rest some).place.within

pub invariant_of-self-inside : goal.invariant_of-self-inside
invariant_of-self-inside c = let at = (goal.at.invariant_of-self-inside c).After-place_below-self-inside in (record { places = (head at).rest; is = stack at }, tt)

pub invariant_of-self : goal.invariant_of-self
invariant_of-self c =
    let at = (goal.at.invariant_of-self c).After-place_below-self-inside in
    (chunk_as _ (chunk_keep c.self.inside.here (head at).rest (chunk_as (c.self.inside.here ∷ (head at).rest) c.self.invariant.0 (sym (head at).was))) (rest_is _ _ c.self-1.given.0 (head at).rest (stack at)), c.self.invariant.1, c.self.invariant.2, c.self.invariant.3)

pub returns : goal.returns
returns c =
    let at = (goal.at.returns c).After-place_below-self-inside in
    let b = head at in
    let e : c.self-1.given.0.places ≡ b.rest = rest_is _ _ c.self-1.given.0 b.rest (stack at) in
    record {
      watcher = watcher_at c.self.inside.chunks.cells.items c.self.inside.here;
      rest = watchers_at c.self.inside.chunks.cells.items b.rest;
      was = ap (λ (v : WatchesView). v.ahead) (sym c.self.view_is) ∙ ap (watchers_at c.self.inside.chunks.cells.items) b.was;
      now = ap (λ (xs : List ℕ). let v : WatchesView = record { vars = c.self.inside.vars; watched = watched_of c.self.inside.busy.items c.self.inside.lits.items; ahead = watchers_at c.self.inside.chunks.cells.items xs } in v) e ∙ ap (λ (v : WatchesView). let u : WatchesView = record v { ahead = watchers_at c.self.inside.chunks.cells.items b.rest } in u) c.self.view_is;
    }
